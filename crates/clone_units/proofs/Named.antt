-- The entries of a sound analysis name its own entries alone.
use Rattle.std.proofs.Common.{◌≡◌, ◌<◌, ℕ, zero, suc, List, [], ◌∷◌, length, map, get_or, slice_get, Option, Some, None, refl, subst, arith}
use Rattle.std.specs.List.{All, Contains, cons_option, filter_map, flat_map}
use Rattle.std.proofs.lemmas.List.Elements.{All-contains, All-weaker, Contains-append_left, Contains-append_right, Contains-get_or, Contains-push}
use Rattle.std.proofs.lemmas.Option.{same_Some, slice_get-get_or, slice_get_within}
use Rattle.dwarf_types.specs.declared.analysis.Analysis.{Analysis}
use Rattle.dwarf_types.specs.declared.entry.Attr.{Attr}
use Rattle.dwarf_types.specs.declared.entry.Entry.{Entry}
use Rattle.dwarf_types.specs.declared.expr.Base.{Base}
use Rattle.dwarf_types.specs.declared.expr.Base.TheVariants as bases
use Rattle.dwarf_types.specs.declared.expr.Op.{Op}
use Rattle.dwarf_types.specs.declared.expr.PlainOp.{PlainOp}
use Rattle.dwarf_types.specs.declared.lists.Location.{Location}
use Rattle.dwarf_types.specs.declared.value.Value.{Value}
use Rattle.dwarf_types.specs.declared.value.Value.TheVariants as values
use Rattle.dwarf_types.specs.Live.{base_in, op_bases, operations_of, target_in}
use Rattle.dwarf_types.specs.Sound.{IsSound}
use Rattle.clone_values.specs.Images.{BaseAmong, NamesAmong, OpAmong, ValueAmong}

-- ---- what holds of all that is gathered

module _ {B : Type 0} (P : B → Type 0) where
  -- it holds of each element of a list
  abbrev Each : List B → Type 0
  Each ys = (y : B) → Contains ys y → P y

  flat_each : {A : Type 0} (f : A → List B) (xs : List A) → Each (flat_map f xs) → All (λ x. Each (f x)) xs
  flat_each f [] h k d lt = absurd (omega (arith, lt))
  flat_each f (x ∷ xs) h zero d lt = λ y there. h y (Contains-append_left (f x) (flat_map f xs) y there)
  flat_each f (x ∷ xs) h (suc k) d lt = flat_each f xs (λ y there. h y (Contains-append_right (f x) (flat_map f xs) y there)) k d (omega (arith, lt))

  first_each : (o : Option B) (rest : List B) → Each (cons_option o rest) → (y : B) → o ≡ Some y → P y
  first_each None rest h y is = absurd cc
  first_each (Some z) rest h y is = subst P (same_Some z y is) (h z (Contains-append_left (z ∷ []) rest z (Contains-push [] z)))

  rest_each : (o : Option B) (rest : List B) → Each (cons_option o rest) → Each rest
  rest_each None rest h y there = h y there
  rest_each (Some z) rest h y there = h y (Contains-append_right (z ∷ []) rest y there)

-- ---- what an entry names

module _ (count : ℕ) where
  abbrev Below : ℕ → Type 0
  Below j = j < count

  abbrev BasesBelow : Op → Type 0
  BasesBelow op = (j : ℕ) → Contains (op_bases op) j → j < count

  base_among : (base : Option Base) → ((j : ℕ) → base_in base ≡ Some j → j < count) → BaseAmong count base
  base_among (Some (bases.Entry k)) below = below k refl
  base_among base below = tt

  inner_among : (inner : List PlainOp) → ((j : ℕ) → Contains (filter_map base_in (map (λ op. op.base) inner)) j → j < count) → All (λ op. BaseAmong count op.base) inner
  inner_among [] below k d lt = absurd (omega (arith, lt))
  inner_among (op ∷ ops) below zero d lt = base_among op.base (first_each Below (base_in op.base) (filter_map base_in (map (λ op. op.base) ops)) below)
  inner_among (op ∷ ops) below (suc k) d lt = inner_among ops (rest_each Below (base_in op.base) (filter_map base_in (map (λ op. op.base) ops)) below) k d (omega (arith, lt))

  op_among : (op : Op) → BasesBelow op → OpAmong count op
  op_among op below =
      let rest = filter_map base_in (map (λ (inner : PlainOp). inner.base) op.inner) in
      (base_among op.base (first_each Below (base_in op.base) rest below), inner_among op.inner (rest_each Below (base_in op.base) rest below))

  ops_among : (ops : List Op) → ((j : ℕ) → Contains (flat_map op_bases ops) j → j < count) → All (OpAmong count) ops
  ops_among ops below = All-weaker BasesBelow (OpAmong count) op_among ops (flat_each Below op_bases ops below)

  items_among : (items : List Location) → ((j : ℕ) → Contains (flat_map op_bases (flat_map (λ item. item.ops) items)) j → j < count) → All (λ item. All (OpAmong count) item.ops) items
  items_among items below k d lt m e within =
      let ops_in : Location → List Op = λ item. item.ops in
      let each = flat_each Below op_bases (flat_map ops_in items) below in
      let ops = (get_or items k d).ops in
      let of_item = flat_each BasesBelow ops_in items (λ op there. All-contains BasesBelow (flat_map ops_in items) op each there) in
      op_among (get_or ops m e) (of_item k d lt (get_or ops m e) (Contains-get_or ops m e within))

  value_among : (value : Value) → ((j : ℕ) → target_in value ≡ Some j → j < count) → ((j : ℕ) → Contains (flat_map op_bases (operations_of value)) j → j < count) → ValueAmong count value
  value_among (values.Ref k) target named = target k refl
  value_among (values.Expr ops) target named = ops_among ops named
  value_among (values.Locations items) target named = items_among items named
  value_among value target named = tt

pub names_among : (a : Analysis) → IsSound a → (k : ℕ) (e : Entry) → slice_get a.entries k ≡ Some e → NamesAmong (length a.entries) e
names_among a sound k e at j d lt =
    let count = length a.entries in
    let s = sound.entries k e at in
    let bases_in : Attr → List ℕ = λ attr. flat_map op_bases (operations_of attr.value) in
    let named = flat_each (λ (i : ℕ). i < count) bases_in e.attrs (λ i there. (let base = s.bases i there in slice_get_within a.entries i base.entry base.stands)) in
    let attr = get_or e.attrs j d in
    value_among count attr.value (λ i is. s.targets attr i (Contains-get_or e.attrs j d lt) is) (named j d lt)

pub all_among : (a : Analysis) → IsSound a → All (NamesAmong (length a.entries)) a.entries
all_among a sound k d lt = names_among a sound k (get_or a.entries k d) (slice_get-get_or a.entries k d lt)
