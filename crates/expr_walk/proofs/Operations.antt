-- The loop over an expression's operations: how it begins, and the way on.
use Rattle.std.proofs.Common.{◌≡◌, ℕ, suc, ◌-◌, ◌<◌, ◌≤◌, List, [], ◌∷◌, ◌++◌, length, Result, Ok, refl, ap, subst, sym, ◌∙◌, arith}
use Rattle.std.proofs.lemmas.Bool.{ne_eqb}
use Rattle.ds_base.specs.declared.fault.Fault.{Fault}
use Rattle.ds_base.specs.declared.fault.Part.{Part}
use Rattle.ds_base.specs.Spot.{Spot, start}
use Rattle.ds_base.proofs.Passing.{bind_ok, ok_is}
use Rattle.dwarf_types.specs.declared.expr.Op.{Op}
use Rattle.dwarf_types.specs.Gathered.{Gathered}
use Rattle.expr_walk.specs.Reading.{all_at, expression_of}
use Rattle.expr_walk.specs.Steps.{behind}
use Rattle.expr_walk.proofs.Cuts.{Cuts, Items}

-- what is read on from a cursor, behind the operations before, is the total: the count is more than the bytes that are left
pub record Goes {A : Type 0} (read : Spot → Result (A × Spot) Fault) (before : List A) (s : Spot) (total : Result (List A) Fault) : Type 0 where
  pub left : ℕ
  pub enough : s.end - s.place ≤ left
  pub is : all_at read (suc left) before s ≡ total

pub begins : {A : Type 0} (read : Spot → Result (A × Spot) Fault) (part : Part) (bytes : List ℕ) → Goes read [] (start part bytes) (expression_of read part bytes)
begins read part bytes = record { left = length bytes; enough = omega arith; is = refl }

-- fewer bytes are left behind an operation
pub fewer_left : {A : Type 0} (items : Items A) (s t : Spot) (op : A) (r : Result (A × Spot) Fault) → Cuts items s r → 0 < s.end - s.place → r ≡ Ok (op, t) → t.end - t.place < s.end - s.place
fewer_left items s t op r cuts some is =
    let c = subst (Cuts items s) is cuts in
    omega (arith, c.some, ap (λ (u : Spot). u.place) c.is, ap (λ (u : Spot). u.end) c.is, some)

-- one more is read
pub one_more : {A : Type 0} (read : Spot → Result (A × Spot) Fault) (items : Items A) (before : List A) (s t : Spot) (op : A) (total : Result (List A) Fault) → Cuts items s (read s) → 0 < s.end - s.place → read s ≡ Ok (op, t) → Goes read before s total
    → Goes read (before ++ op ∷ []) t total
one_more read items before s t op total cuts some is g =
    let turn : suc (g.left - 1) ≡ g.left = omega (arith, g.enough, some) in
    record {
      left = g.left - 1;
      enough = omega (arith, g.enough, fewer_left items s t op (read s) cuts some is);
      is = ap (λ (n : ℕ). all_at read n (before ++ op ∷ []) t) turn ∙ sym (rw (ne_eqb (s.end - s.place) 0 (λ e. omega (arith, some, e)), is) refl) ∙ g.is;
    }

-- an operation that is put behind those before was read
pub put_is : (before : List Op) (r : Result (Op × Spot) Fault) (after : Gathered) (t : Spot) → behind before r ≡ Ok (after, t) → (op : Op) × (r ≡ Ok (op, t)) × (record { ops = before ++ op ∷ []; inner = [] } ≡ after)
put_is before r after t put =
    let made : Op × Spot → Gathered × Spot = λ op. (record { ops = before ++ op.0 ∷ []; inner = [] }, op.1) in
    let b = bind_ok r (λ op. Ok (made op)) (after, t) put in
    let is = ok_is (made b.0) (after, t) b.2 in
    (b.0.0, b.1 ∙ ap (λ (u : Spot). Ok (b.0.0, u)) (ap (λ (q : Gathered × Spot). q.1) is), ap (λ (q : Gathered × Spot). q.0) is)
