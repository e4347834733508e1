-- Operations that are put one behind the other: what their rows stand for as columns grow, and as rows are put.
use Rattle.std.proofs.Common.{◌≡◌, ℕ, ◌-◌, ◌≤◌, List, [], ◌∷◌, ◌++◌, map, length, drop, ap, ap₂, ◌∙◌, arith}
use Rattle.std.proofs.lemmas.List.{drop-append-le, drop_all, length-drop, length_push, map_push, take_all}
use Rattle.std.proofs.lemmas.List.Elements.{All-nil, All-push}
use Rattle.dwarf_types.specs.declared.expr.Op.{Op}
use Rattle.dwarf_types.specs.declared.expr.PlainOp.{PlainOp}
use Rattle.dwarf_types.specs.declared.sides.InnerRow.{InnerRow}
use Rattle.dwarf_types.specs.declared.sides.OpRow.{OpRow}
use Rattle.dwarf_types.specs.declared.sides.Sides.{Sides}
use Rattle.dwarf_types.specs.Cells.{Grows, InnerWithin, OpWithin, inner_of, op_of}
use Rattle.dwarf_types.specs.Gathered.{AreRows, Gathered, gathered_of}
use Rattle.dwarf_types.specs.Runs.{InRun, run_between, run_of}
use Rattle.dwarf_types.proofs.Kept.{between_same, inners_kept, inners_within, ops_kept, ops_within}

abbrev gathered_with : List Op → List PlainOp → Gathered
gathered_with ops inner = record { ops = ops; inner = inner }

-- ---- columns that grow, but for that of the operations inside

pub rows_stay : (s t : Sides) (rows : List OpRow) (at : ℕ) → Grows s t → t.inner.items ≡ s.inner.items → AreRows s rows at → AreRows t rows at
rows_stay s t rows at g same a = record {
  within = ops_within s t g rows a.within;
  few = rw same a.few;
  inside = rw same (inners_within s t g (drop at s.inner.items) a.inside);
}

pub gathered_stay : (s t : Sides) (rows : List OpRow) (at : ℕ) → Grows s t → t.inner.items ≡ s.inner.items → AreRows s rows at → gathered_of t rows at ≡ gathered_of s rows at
gathered_stay s t rows at g same a =
    ap₂ gathered_with (ops_kept s t g rows a.within) (ap (λ (inner : List InnerRow). map (inner_of t) (drop at inner)) same ∙ inners_kept s t g (drop at s.inner.items) a.inside)

-- ---- one operation inside more

pub rows_inner : (s t : Sides) (rows : List OpRow) (at : ℕ) (r : InnerRow) → Grows s t → t.inner.items ≡ s.inner.items ++ r ∷ [] → InnerWithin t r → AreRows s rows at → AreRows t rows at
rows_inner s t rows at r g more w a =
    let few : at ≤ length s.inner.items = a.few in
    record {
      within = ops_within s t g rows a.within;
      few = rw more (omega (arith, length_push s.inner.items r));
      inside = rw (more, drop-append-le at s.inner.items (r ∷ []) few) (All-push (InnerWithin t) (drop at s.inner.items) r (inners_within s t g (drop at s.inner.items) a.inside) w);
    }

pub gathered_inner : (s t : Sides) (rows : List OpRow) (at : ℕ) (r : InnerRow) → Grows s t → t.inner.items ≡ s.inner.items ++ r ∷ [] → AreRows s rows at
    → gathered_of t rows at ≡ record { ops = map (op_of s) rows; inner = map (inner_of s) (drop at s.inner.items) ++ inner_of t r ∷ [] }
gathered_inner s t rows at r g more a =
    let split : drop at t.inner.items ≡ drop at s.inner.items ++ r ∷ [] = ap (drop at) more ∙ drop-append-le at s.inner.items (r ∷ []) a.few in
    let behind : List PlainOp → List PlainOp = λ inner. inner ++ inner_of t r ∷ [] in
    ap₂ gathered_with (ops_kept s t g rows a.within) (ap (map (inner_of t)) split ∙ map_push (inner_of t) (drop at s.inner.items) r ∙ ap behind (inners_kept s t g (drop at s.inner.items) a.inside))

-- ---- an operation that takes those inside

-- the run up to the end
pub open_part : {A : Type 0} (items : List A) (at : ℕ) → at ≤ length items → (run_of items (run_between at (length items)) ≡ drop at items) × InRun items (run_between at (length items))
open_part items at few =
    let same = between_same items at (length items) few (omega arith) in
    (same.0 ∙ take_all (length items - at) (drop at items) (omega (arith, length-drop at items)), same.1)

pub rows_put : (s : Sides) (rows : List OpRow) (at : ℕ) (r : OpRow) → OpWithin s r → AreRows s rows at → AreRows s (rows ++ r ∷ []) (length s.inner.items)
rows_put s rows at r w a = record {
  within = All-push (OpWithin s) rows r a.within w;
  few = omega arith;
  inside = rw (drop_all (length s.inner.items) s.inner.items (omega arith)) (All-nil (InnerWithin s));
}

none_left : (s : Sides) → map (inner_of s) (drop (length s.inner.items) s.inner.items) ≡ []
none_left s = ap (map (inner_of s)) (drop_all (length s.inner.items) s.inner.items (omega arith))

pub gathered_put : (s : Sides) (rows : List OpRow) (r : OpRow) → gathered_of s (rows ++ r ∷ []) (length s.inner.items) ≡ record { ops = map (op_of s) rows ++ op_of s r ∷ []; inner = [] }
gathered_put s rows r = ap₂ gathered_with (map_push (op_of s) rows r) (none_left s)
