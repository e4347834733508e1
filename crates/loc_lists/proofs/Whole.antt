-- No byte of a location list that is read is left out, and its faults are of the kinds of its version.
use Rattle.std.proofs.Common.{◌≡◌, ℕ, Bool, true, false, List, [], ◌∷◌, Option, Ok, refl, subst, arith}
use Rattle.std.specs.Prelude.{◌==◌, if◌then◌else◌}
use Rattle.std.specs.List.{Contains}
use Rattle.ds_base.specs.declared.fault.Kind.{Kind}
use Rattle.ds_base.specs.declared.fault.Kind.TheVariants.{Truncated, LebTooWide, BadList, BadIndex, UnknownListEntry}
use Rattle.ds_base.specs.Spot.{Spot}
use Rattle.ds_base.specs.Reading.{bytes_at}
use Rattle.ds_base.proofs.Onward.{Onward, onward_then, bytes_onward}
use Rattle.ds_base.proofs.Passing.{bind_ok, ok_is}
use Rattle.dwarf_types.specs.declared.address.Addr.{Addr}
use Rattle.dwarf_types.specs.declared.lists.RawLocation.{RawLocation}
use Rattle.dwarf_types.specs.declared.lists.RawSpan.{RawSpan}
use Rattle.dwarf_types.specs.SectionBytes.{SectionBytes, location_bytes}
use Rattle.macho_read.specs.declared.image.Image.{Image}
use Rattle.reloc_table.specs.declared.relocation.Relocs.{Relocs}
use Rattle.list_items.specs.declared.context.ListForm.TheVariants as forms
use Rattle.list_items.specs.Context.{Context}
use Rattle.list_items.specs.Lists.{list_spot, whole_at}
use Rattle.list_items.specs.Reading.{formed_at, item_at}
use Rattle.list_items.specs.Whole.{IsWhole}
use Rattle.ds_base.proofs.FaultKinds.{FaultsAre, ok_kinds, bind_kinds, bytes_kinds, number_kinds, uleb_kinds}
use Rattle.list_items.proofs.Refused.{words_kinds, entry_kinds, list_kinds}
use Rattle.list_items.proofs.Wholes.{GoesOn, list_whole}
use Rattle.loc_lists.specs.Reading.{len_at, expression_at, location_part, location_faults, location_at, location_context, location_items, locations_of}
use Rattle.loc_lists.proofs.Expressions.{len_further}

expression_onward : (version : ℕ) (s : Spot) (y : (ℕ × List ℕ) × Spot) → expression_at version s ≡ Ok y → Onward s y.1
unfolding expression_at
expression_onward version s y e =
    let len = bind_ok (len_at (version == 5) s) _ y e in
    let bytes = bind_ok (bytes_at len.0.0 len.0.1) _ y len.2 in
    let first = len_further (version == 5) s len.0 len.1 in
    subst (λ (r : (ℕ × List ℕ) × Spot). Onward s r.1) (ok_is ((len.0.1.place, bytes.0.0), bytes.0.1) y bytes.2)
    (onward_then s len.0.1 bytes.0.1 first.onward (bytes_onward len.0.0 len.0.1 bytes.0 bytes.1))

goes_on : (version : ℕ) → GoesOn (location_at version)
goes_on version place span s y e =
    let p = bind_ok (expression_at version s) _ y e in
    subst (λ (r : RawLocation × Spot). Onward s r.1) (ok_is _ y p.2) (expression_onward version s p.0 p.1)

-- ---- kinds of faults

-- of a list in version 5, or in version 4
abbrev KindsAre : Bool → Kind → Type 0
KindsAre five = Contains (if five then Truncated ∷ LebTooWide ∷ BadList ∷ BadIndex ∷ UnknownListEntry ∷ [] else Truncated ∷ BadList ∷ [])

cut : (five : Bool) → KindsAre five Truncated
cut true = (0, omega arith, refl)
cut false = (0, omega arith, refl)

formed_kinds : (five : Bool) (c : Context) (base : Addr) (s : Spot) → FaultsAre (KindsAre five) (formed_at (if five then forms.LocationEntries else forms.Words) c base s)
formed_kinds true c base s = entry_kinds (KindsAre true) (0, omega arith, refl) (2, omega arith, refl) (1, omega arith, refl) (3, omega arith, refl) (4, omega arith, refl) c base s
formed_kinds false c base s = words_kinds (KindsAre false) (0, omega arith, refl) (1, omega arith, refl) c base s

len_kinds : (five : Bool) (s : Spot) → FaultsAre (KindsAre five) (len_at five s)
len_kinds true s = uleb_kinds (KindsAre true) s (0, omega arith, refl) (1, omega arith, refl)
len_kinds false s = number_kinds (KindsAre false) 2 s (0, omega arith, refl)

behind_kinds : (version place : ℕ) (span : Option RawSpan) (s : Spot) → FaultsAre (KindsAre (version == 5)) (location_at version place span s)
unfolding expression_at
behind_kinds version place span s =
    bind_kinds (KindsAre (version == 5)) (expression_at version s) _
    (bind_kinds (KindsAre (version == 5)) (len_at (version == 5) s) _ (len_kinds (version == 5) s)
    (λ len. bind_kinds (KindsAre (version == 5)) (bytes_at len.0 len.1) _ (bytes_kinds (KindsAre (version == 5)) len.0 len.1 (cut (version == 5))) (λ bytes. ok_kinds (KindsAre (version == 5)) _)))
    (λ expression. ok_kinds (KindsAre (version == 5)) _)

-- ---- lists

module _ (sections : SectionBytes) (relocs : Relocs) (image : Image) (offset version : ℕ) (base : Addr) (addresses : Relocs) (addr_base : ℕ) where
  abbrev context : Context
  context = location_context sections relocs image version addresses addr_base

  abbrev bytes : List ℕ
  bytes = location_bytes sections version

  pub locations_whole : IsWhole (whole_at context (location_at version)) base (list_spot (location_part version) bytes offset) (location_items sections relocs image offset version base addresses addr_base) (locations_of sections relocs image offset version base addresses addr_base)
  unfolding locations_of
  locations_whole = list_whole (location_part version) bytes context (location_at version) (goes_on version) offset base

  each_kinds : (b : Addr) (s : Spot) → FaultsAre (KindsAre (version == 5)) (item_at context b s)
  unfolding item_at
  each_kinds b s = formed_kinds (version == 5) context b s

  pub location_kinds : FaultsAre (Contains (location_faults version)) (locations_of sections relocs image offset version base addresses addr_base)
  unfolding locations_of
  location_kinds = list_kinds (KindsAre (version == 5)) (cut (version == 5)) context each_kinds (location_at version) (behind_kinds version) (location_part version) bytes offset base
