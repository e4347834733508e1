-- The spans of a list are sound, no byte of it is left out, and its faults are of the kinds of its version: by its definition.
use Rattle.std.proofs.Common.{◌≡◌, ℕ, Bool, true, false, List, [], ◌∷◌, Result, Ok, Err, IfOk, refl, sym, ap, subst, arith}
use Rattle.std.specs.Prelude.{◌==◌, if◌then◌else◌}
use Rattle.std.specs.List.{All, Contains}
use Rattle.ds_base.specs.declared.fault.Kind.{Kind}
use Rattle.ds_base.specs.declared.fault.Kind.TheVariants.{Truncated, LebTooWide, BadList, BadIndex, UnknownListEntry}
use Rattle.ds_base.specs.declared.fault.ReadError.{ReadError}
use Rattle.ds_base.specs.Reading.{Gives}
use Rattle.ds_base.specs.Spot.{Spot}
use Rattle.ds_base.proofs.Onward.{Onward, stays}
use Rattle.ds_base.proofs.Passing.{ok_is}
use Rattle.dwarf_types.specs.declared.address.Addr.{Addr}
use Rattle.dwarf_types.specs.declared.lists.RawSpan.{RawSpan}
use Rattle.dwarf_types.specs.SectionBytes.{SectionBytes, range_bytes}
use Rattle.macho_read.specs.declared.image.Image.{Image}
use Rattle.reloc_table.specs.declared.relocation.Relocs.{Relocs}
use Rattle.list_items.specs.declared.context.ListForm.TheVariants as forms
use Rattle.list_items.specs.Context.{Context}
use Rattle.list_items.specs.Items.{covered}
use Rattle.list_items.specs.Lists.{list_spot, whole_at}
use Rattle.list_items.specs.Reading.{formed_at, item_at}
use Rattle.list_items.specs.Sound.{IsSoundSpan}
use Rattle.list_items.specs.Whole.{IsWhole}
use Rattle.ds_base.proofs.FaultKinds.{FaultsAre, ok_kinds}
use Rattle.list_items.proofs.Refused.{words_kinds, entry_kinds, list_kinds}
use Rattle.list_items.proofs.Soundness.{KeepsEnd, Keeps, covered_sound, list_sound}
use Rattle.list_items.proofs.Wholes.{GoesOn, list_whole}
use Rattle.range_lists.specs.Reading.{range_part, range_faults, range_at, range_context, range_items, ranges_of}

end_kept : KeepsEnd range_at
end_kept place span s x t e = sym (ap (λ (r : RawSpan × Spot). r.1.end) (ok_is (covered span, s) (x, t) e))

span_kept : (end : ℕ) → Keeps IsSoundSpan end range_at
span_kept end place span s x t at sound e = subst IsSoundSpan (ap (λ (r : RawSpan × Spot). r.0) (ok_is (covered span, s) (x, t) e)) (covered_sound span sound)

goes_on : GoesOn range_at
goes_on place span s y e = subst (λ (r : RawSpan × Spot). Onward s r.1) (ok_is (covered span, s) y e) (stays s)

-- ---- kinds of faults

-- of a list in version 5, or in version 4
abbrev KindsAre : Bool → Kind → Type 0
KindsAre five = Contains (if five then Truncated ∷ LebTooWide ∷ BadList ∷ BadIndex ∷ UnknownListEntry ∷ [] else Truncated ∷ BadList ∷ [])

cut : (five : Bool) → KindsAre five Truncated
cut true = (0, omega arith, refl)
cut false = (0, omega arith, refl)

formed_kinds : (five : Bool) (c : Context) (base : Addr) (s : Spot) → FaultsAre (KindsAre five) (formed_at (if five then forms.RangeEntries else forms.Words) c base s)
formed_kinds true c base s = entry_kinds (KindsAre true) (0, omega arith, refl) (2, omega arith, refl) (1, omega arith, refl) (3, omega arith, refl) (4, omega arith, refl) c base s
formed_kinds false c base s = words_kinds (KindsAre false) (0, omega arith, refl) (1, omega arith, refl) c base s

module _ (sections : SectionBytes) (relocs : Relocs) (image : Image) (offset version : ℕ) (base : Addr) (addresses : Relocs) (addr_base : ℕ) where
  abbrev context : Context
  context = range_context sections relocs image version addresses addr_base

  abbrev bytes : List ℕ
  bytes = range_bytes sections version

  pub ranges_sound : (spans : List RawSpan) → ranges_of sections relocs image offset version base addresses addr_base ≡ Ok spans → All IsSoundSpan spans
  unfolding ranges_of
  ranges_sound spans e = list_sound IsSoundSpan _ context range_at end_kept (span_kept _) _ base _ spans refl e

  pub ranges_given : (r : Result (List RawSpan) ReadError) → Gives (λ (spans : List RawSpan). spans) r (ranges_of sections relocs image offset version base addresses addr_base) → IfOk r (All IsSoundSpan)
  ranges_given (Ok spans) e = ranges_sound spans e
  ranges_given (Err error) e = tt

  pub ranges_whole : IsWhole (whole_at context range_at) base (list_spot (range_part version) bytes offset) (range_items sections relocs image offset version base addresses addr_base) (ranges_of sections relocs image offset version base addresses addr_base)
  unfolding ranges_of
  ranges_whole = list_whole (range_part version) bytes context range_at goes_on offset base

  each_kinds : (b : Addr) (s : Spot) → FaultsAre (KindsAre (version == 5)) (item_at context b s)
  unfolding item_at
  each_kinds b s = formed_kinds (version == 5) context b s

  pub range_kinds : FaultsAre (Contains (range_faults version)) (ranges_of sections relocs image offset version base addresses addr_base)
  unfolding ranges_of
  range_kinds = list_kinds (KindsAre (version == 5)) (cut (version == 5)) context each_kinds range_at (λ place span s. ok_kinds (KindsAre (version == 5)) (covered span, s)) (range_part version) bytes offset base
