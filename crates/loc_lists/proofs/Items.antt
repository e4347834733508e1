-- The items of a list are sound, by its definition.
use Rattle.std.proofs.Common.{◌≡◌, ℕ, ◌+◌, ◌-◌, ◌≤◌, List, Option, length, take, Result, Ok, Err, IfOk, refl, sym, ap, subst, ◌∙◌, arith}
use Rattle.std.specs.Prelude.{◌==◌}
use Rattle.std.specs.List.{All}
use Rattle.std.proofs.lemmas.Bool.{ltb-false}
use Rattle.std.proofs.lemmas.List.{length-take}
use Rattle.ds_base.specs.Spot.{Spot, rest}
use Rattle.ds_base.specs.declared.fault.ReadError.{ReadError}
use Rattle.ds_base.specs.Reading.{Gives, bytes_at}
use Rattle.ds_base.proofs.Passing.{bind_ok, guard_ok, ok_is}
use Rattle.dwarf_types.specs.declared.address.Addr.{Addr}
use Rattle.dwarf_types.specs.declared.lists.RawLocation.{RawLocation}
use Rattle.dwarf_types.specs.declared.lists.RawSpan.{RawSpan}
use Rattle.dwarf_types.specs.SectionBytes.{SectionBytes, location_bytes}
use Rattle.macho_read.specs.declared.image.Image.{Image}
use Rattle.reloc_table.specs.declared.relocation.Relocs.{Relocs}
use Rattle.list_items.specs.Items.{covered}
use Rattle.list_items.proofs.Soundness.{KeepsEnd, Keeps, covered_sound, list_sound}
use Rattle.loc_lists.specs.declared.locations.LocationItem.{LocationItem}
use Rattle.loc_lists.specs.Reading.{len_at, expression_at, item_behind, location_at, location_context, location_items_of, locations_of}
use Rattle.loc_lists.specs.Sound.{IsSoundItem, IsSoundLocation}
use Rattle.loc_lists.proofs.Expressions.{location, len_further}

bytes_fit : (n : ℕ) (s : Spot) (bytes : List ℕ) (t : Spot) → bytes_at n s ≡ Ok (bytes, t) → (length bytes ≤ s.end - s.place) × (t.end ≡ s.end)
unfolding bytes_at
bytes_fit n s bytes t e =
    let p = guard_ok _ _ _ _ e in
    let fits : n ≤ s.end - s.place = ltb-false (s.end - s.place) n p.0 in
    let len : length (take n (rest s)) ≡ length bytes = ap (λ (r : List ℕ × Spot). length r.0) p.1 in
    (omega (arith, fits, len, length-take n (rest s)), sym (ap (λ (r : List ℕ × Spot). r.1.end) p.1))

expression_fits : (version : ℕ) (s : Spot) (expression : ℕ × List ℕ) (t : Spot) → expression_at version s ≡ Ok (expression, t) → (expression.0 + length expression.1 ≤ s.end) × (t.end ≡ s.end)
unfolding expression_at
expression_fits version s expression t e =
    let len = bind_ok (len_at (version == 5) s) _ (expression, t) e in
    let bytes = bind_ok (bytes_at len.0.0 len.0.1) _ (expression, t) len.2 in
    let further = len_further (version == 5) s len.0 len.1 in
    let moved = further.onward in
    let fits = bytes_fit len.0.0 len.0.1 bytes.0.0 bytes.0.1 bytes.1 in
    let is = ok_is ((len.0.1.place, bytes.0.0), bytes.0.1) (expression, t) bytes.2 in
    let place : len.0.1.place ≡ s.place + moved.by = ap (λ (r : Spot). r.place) moved.is in
    let end : len.0.1.end ≡ s.end = ap (λ (r : Spot). r.end) moved.is in
    let inside : len.0.1.place + length bytes.0.0 ≤ s.end = omega (arith, further.some, moved.fits, fits.0, place, end) in (
      subst (λ (r : (ℕ × List ℕ) × Spot). r.0.0 + length r.0.1 ≤ s.end) is inside,
      sym (ap (λ (r : (ℕ × List ℕ) × Spot). r.1.end) is) ∙ fits.1 ∙ end,
    )

end_kept : (version : ℕ) → KeepsEnd (location_at version)
end_kept version place span s x t e =
    let p = bind_ok (expression_at version s) _ (x, t) e in
    sym (ap (λ (r : RawLocation × Spot). r.1.end) (ok_is _ (x, t) p.2)) ∙ (expression_fits version s p.0.0 p.0.1 p.1).1

item_kept : (version end : ℕ) → Keeps (IsSoundLocation end) end (location_at version)
item_kept version end place span s x t at sound e =
    let p = bind_ok (expression_at version s) _ (x, t) e in
    let fits = (expression_fits version s p.0.0 p.0.1 p.1).0 in
    let inside : p.0.0.0 + length p.0.0.1 ≤ end = omega (arith, fits, at) in
    let made : IsSoundLocation end (location place (covered span) p.0.0) = record { span = covered_sound span sound; inside = inside } in
    subst (IsSoundLocation end) (ap (λ (r : RawLocation × Spot). r.0) (ok_is (location place (covered span) p.0.0, p.0.1) (x, t) p.2)) made

pub locations_sound : (sections : SectionBytes) (relocs : Relocs) (image : Image) (offset version : ℕ) (base : Addr) (addresses : Relocs) (addr_base : ℕ) (locations : List RawLocation)
    → locations_of sections relocs image offset version base addresses addr_base ≡ Ok locations → All (IsSoundLocation (length (location_bytes sections version))) locations
unfolding locations_of
locations_sound sections relocs image offset version base addresses addr_base locations e =
    list_sound (IsSoundLocation (length (location_bytes sections version))) _ (location_context sections relocs image version addresses addr_base) (location_at version) (end_kept version) (item_kept version _) _ base _ locations refl e

pub locations_given : (sections : SectionBytes) (relocs : Relocs) (image : Image) (offset version : ℕ) (base : Addr) (addresses : Relocs) (addr_base : ℕ) (r : Result (List RawLocation) ReadError)
    → Gives (λ (locations : List RawLocation). locations) r (locations_of sections relocs image offset version base addresses addr_base) → IfOk r (All (IsSoundLocation (length (location_bytes sections version))))
locations_given sections relocs image offset version base addresses addr_base (Ok locations) e = locations_sound sections relocs image offset version base addresses addr_base locations e
locations_given sections relocs image offset version base addresses addr_base (Err error) e = tt

-- ---- items that tell defaults apart

abbrev item : ℕ → Option RawSpan → ℕ × List ℕ → LocationItem
item place span expression = record { span = span; place = place; first = expression.0; bytes = expression.1 }

told_end : (version : ℕ) → KeepsEnd (item_behind version)
told_end version place span s x t e =
    let p = bind_ok (expression_at version s) _ (x, t) e in
    sym (ap (λ (r : LocationItem × Spot). r.1.end) (ok_is _ (x, t) p.2)) ∙ (expression_fits version s p.0.0 p.0.1 p.1).1

told_kept : (version end : ℕ) → Keeps (IsSoundItem end) end (item_behind version)
told_kept version end place span s x t at sound e =
    let p = bind_ok (expression_at version s) _ (x, t) e in
    let fits = (expression_fits version s p.0.0 p.0.1 p.1).0 in
    let inside : p.0.0.0 + length p.0.0.1 ≤ end = omega (arith, fits, at) in
    let made : IsSoundItem end (item place span p.0.0) = record { span = sound; inside = inside } in
    subst (IsSoundItem end) (ap (λ (r : LocationItem × Spot). r.0) (ok_is (item place span p.0.0, p.0.1) (x, t) p.2)) made

pub items_sound : (sections : SectionBytes) (relocs : Relocs) (image : Image) (offset version : ℕ) (base : Addr) (addresses : Relocs) (addr_base : ℕ) (r : Result (List LocationItem) ReadError)
    → Gives (λ (items : List LocationItem). items) r (location_items_of sections relocs image offset version base addresses addr_base) → IfOk r (All (IsSoundItem (length (location_bytes sections version))))
unfolding location_items_of
items_sound sections relocs image offset version base addresses addr_base (Ok items) e =
    list_sound (IsSoundItem (length (location_bytes sections version))) _ (location_context sections relocs image version addresses addr_base) (item_behind version) (told_end version) (told_kept version _) _ base _ items refl e
items_sound sections relocs image offset version base addresses addr_base (Err error) e = tt
