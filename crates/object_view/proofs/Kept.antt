-- Steps change attributes alone: entries keep their tags, places, units and parents.
use Rattle.std.proofs.Common.{◌≡◌, ℕ, Bool, true, false, List, [], ◌∷◌, length, map, Option, Some, None, slice_get, Result, Ok, refl, sym, ap, ◌∙◌}
use Rattle.std.specs.Prelude.{is_none, if◌then◌else◌}
use Rattle.std.specs.Option.{option_map}
use Rattle.std.proofs.lemmas.List.{length-map}
use Rattle.std.proofs.lemmas.Option.{slice_get-map}
use Rattle.ds_base.specs.declared.fault.Fault.{Fault}
use Rattle.ds_base.specs.Reading.{◌>>=◌}
use Rattle.dwarf_types.specs.declared.entry.Attr.{Attr}
use Rattle.dwarf_types.specs.declared.entry.Entry.{Entry}
use Rattle.dwarf_types.specs.declared.entry.RawAttr.{RawAttr}
use Rattle.dwarf_types.specs.declared.entry.RawEntry.{RawEntry}
use Rattle.dwarf_types.specs.declared.value.Value.{Value}
use Rattle.ds_base.proofs.Passing.{bind_ok, ok_is}
use Rattle.object_view.specs.Attributes.{each_of, attrs_by, entry_by, entries_by, all_marked, lines_marked}
use Rattle.object_view.proofs.Understood.{as_entry, attr_given, entries_given, entry_given}

-- an entry without its attributes
abbrev pub bare : Entry → Entry
bare e = record e { attrs = [] }

abbrev pub raw_bare : RawEntry → Entry
raw_bare e = as_entry e []

-- the same entries, whatever their attributes
abbrev pub Kept : List Entry → List Entry → Type 0
Kept now old = map bare now ≡ map bare old

-- the same as those that were read
abbrev pub KeptRaw : List Entry → List RawEntry → Type 0
KeptRaw now raw = map bare now ≡ map raw_bare raw

-- ---- steps

-- what is seen of items that are made, by what they were made of
pub each_seen : {X Y V : Type 0} (view : Y → V) (was : X → V) (f : X → Result Y Fault) → ((x : X) (y : Y) → f x ≡ Ok y → view y ≡ was x) → (xs : List X) (ys : List Y) → each_of f xs ≡ Ok ys → map view ys ≡ map was xs
each_seen view was f keeps [] ys e = ap (map view) (sym (ok_is [] ys e))
each_seen view was f keeps (x ∷ xs) ys e =
    let first = bind_ok (f x) (λ here. each_of f xs >>= λ others. Ok (here ∷ others)) ys e in
    let others = bind_ok (each_of f xs) (λ others. Ok (first.0 ∷ others)) ys first.2 in
    ap (map view) (sym (ok_is (first.0 ∷ others.0) ys others.2)) ∙ rw (keeps x first.0 first.1, each_seen view was f keeps xs others.0 others.1) refl

entry_kept : (meant : Attr → Result Value Fault) (e now : Entry) → entry_by meant e ≡ Ok now → bare now ≡ bare e
entry_kept meant e now is =
    let attrs = bind_ok (attrs_by meant e.attrs) (λ attrs. Ok (record e { attrs = attrs })) now is in
    ap bare (sym (ok_is (record e { attrs = attrs.0 }) now attrs.2))

pub entries_kept : (meant : ℕ → Attr → Result Value Fault) (entries now : List Entry) → entries_by meant entries ≡ Ok now → Kept now entries
entries_kept meant entries now e = each_seen bare bare (λ (x : Entry). entry_by (meant x.unit) x) (λ x y is. entry_kept (meant x.unit) x y is) entries now e

given_bare : (meant : RawAttr → Result Value Fault) (e : RawEntry) (now : Entry) → entry_given meant e ≡ Ok now → bare now ≡ raw_bare e
given_bare meant e now is =
    let attrs = bind_ok (each_of (attr_given meant) e.attrs) (λ attrs. Ok (as_entry e attrs)) now is in
    ap bare (sym (ok_is (as_entry e attrs.0) now attrs.2))

pub given_kept : (meant : ℕ → RawAttr → Result Value Fault) (raw : List RawEntry) (now : List Entry) → entries_given meant raw ≡ Ok now → KeptRaw now raw
given_kept meant raw now e = each_seen bare raw_bare (λ (x : RawEntry). entry_given (meant x.unit) x) (λ x y is. given_bare (meant x.unit) x y is) raw now e

marked_kept : (b : Bool) (e : Entry) → bare (if b then record e { attrs = lines_marked e.attrs } else e) ≡ bare e
marked_kept true e = refl
marked_kept false e = refl

pub all_kept : (entries : List Entry) → Kept (all_marked entries) entries
all_kept [] = refl
all_kept (e ∷ entries) = rw (marked_kept (is_none e.parent) e, all_kept entries) refl

-- ---- where entries stand

found_view : {X V : Type 0} (view : X → V) (o : Option X) (v : V) → option_map view o ≡ Some v → (x : X) × (o ≡ Some x) × (v ≡ view x)
found_view view None v e = absurd cc
found_view view (Some x) v e = (x, refl, cc)

-- one stands where another stood that was seen as the same
pub stood : {X Y V : Type 0} (view : Y → V) (was : X → V) (now : List Y) (old : List X) → map view now ≡ map was old → (k : ℕ) (y : Y) → slice_get now k ≡ Some y → (x : X) × (slice_get old k ≡ Some x) × (view y ≡ was x)
stood {X} view was now old kept k y is =
    let there : option_map was (slice_get old k) ≡ Some (view y) = sym (slice_get-map was old k) ∙ ap (λ (vs : List _). slice_get vs k) (sym kept) ∙ slice_get-map view now k ∙ ap (option_map view) is in
    found_view was (slice_get old k) (view y) there

pub kept_length : (now : List Entry) (raw : List RawEntry) → KeptRaw now raw → length now ≡ length raw
kept_length now raw kept = sym (length-map now bare) ∙ ap (λ (es : List Entry). length es) kept ∙ length-map raw raw_bare
