-- The base types of entries in order are in order.
use Rattle.std.proofs.Common.{◌≡◌, ℕ, suc, ◌+◌, ◌<◌, ◌==◌, Bool, true, false, List, [], ◌∷◌, refl, arith}
use Rattle.std.specs.List.{All, enumerate_from, filter_map}
use Rattle.std.proofs.lemmas.List.Elements.{All-cons}
use Rattle.std.proofs.lemmas.List.Kept.{AllPairs-cons}
use Rattle.ds_base.specs.DwarfNumbers.{DW_TAG_base_type}
use Rattle.dwarf_types.specs.declared.entry.RawEntry.{RawEntry}
use Rattle.unit_tree.specs.Reference.{IsRising}
use Rattle.expr_resolve.specs.declared.context.BaseType.{BaseType}
use Rattle.expr_resolve.specs.Context.{AreInOrder}
use Rattle.object_view.specs.Units.{base_type_in}

abbrev pub types_from : ℕ → List RawEntry → List BaseType
types_from k entries = filter_map base_type_in (enumerate_from k entries)

-- a base type, if the entry is one, before others
abbrev pub with_type : Bool → BaseType → List BaseType → List BaseType
with_type true b others = b ∷ others
with_type false b others = others

abbrev pub as_type : ℕ → RawEntry → BaseType
as_type k e = record { entry = k; unit = e.unit; place = e.place }

pub types_step : (k : ℕ) (e : RawEntry) (entries : List RawEntry) (b : Bool) → (e.tag == DW_TAG_base_type) ≡ b → types_from k (e ∷ entries) ≡ with_type b (as_type k e) (types_from (k + 1) entries)
types_step k e entries true is = rw is refl
types_step k e entries false is = rw is refl

all_with : (P : BaseType → Type 0) (b : Bool) (t : BaseType) (others : List BaseType) → P t → All P others → All P (with_type b t others)
all_with P true t others here behind = All-cons P t others here behind
all_with P false t others here behind = behind

-- each base type stands behind a place where each entry does
behind_place : (p k : ℕ) (entries : List RawEntry) → All (λ (e : RawEntry). p < e.place) entries → All (λ (b : BaseType). p < b.place) (types_from k entries)
behind_place p k [] h = λ i d lt. absurd (omega arith)
behind_place p k (e ∷ entries) h =
    let others : All (λ (b : BaseType). p < b.place) (types_from (k + 1) entries) = behind_place p (k + 1) entries (λ i d lt. h (suc i) d (omega arith)) in
    rw (types_step k e entries (e.tag == DW_TAG_base_type) refl) (all_with (λ (b : BaseType). p < b.place) (e.tag == DW_TAG_base_type) (as_type k e) (types_from (k + 1) entries) (h 0 e (omega arith)) others)

abbrev Behind : BaseType → BaseType → Type 0
Behind b later = b.place < later.place

pairs_with : (b : Bool) (t : BaseType) (others : List BaseType) → All (λ (x : BaseType). t.place < x.place) others → AreInOrder others → AreInOrder (with_type b t others)
pairs_with true t others behind order = AllPairs-cons Behind t others behind order
pairs_with false t others behind order = order

pub types_in_order : (k : ℕ) (entries : List RawEntry) → IsRising entries → AreInOrder (types_from k entries)
types_in_order k [] rising = λ i j d lt within. absurd (omega arith)
types_in_order k (e ∷ entries) rising =
    let others : AreInOrder (types_from (k + 1) entries) = types_in_order (k + 1) entries (λ i j d lt within. rising (suc i) (suc j) d (omega arith) (omega arith)) in
    let behind : All (λ (b : BaseType). e.place < b.place) (types_from (k + 1) entries) = behind_place e.place (k + 1) entries (λ i d lt. rising 0 (suc i) d (omega arith) (omega arith)) in
    rw (types_step k e entries (e.tag == DW_TAG_base_type) refl) (pairs_with (e.tag == DW_TAG_base_type) (as_type k e) (types_from (k + 1) entries) behind others)
