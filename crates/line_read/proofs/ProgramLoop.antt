-- The loop over operations: the ways out, and the way on.
use Rattle.std.proofs.Common.{◌≡◌, ℕ, zero, suc, ◌-◌, ◌<◌, ◌≤◌, Result, Ok, Err, refl, sym, ap, ◌∙◌, arith}
use Rattle.std.proofs.lemmas.Bool.{ne_eqb}
use Rattle.ds_base.specs.declared.fault.Fault.{Fault}
use Rattle.ds_base.specs.declared.fault.ReadError.{ReadError}
use Rattle.ds_base.specs.declared.fault.ReadError.TheVariants as errors
use Rattle.ds_base.specs.Spot.{Spot}
use Rattle.ds_base.specs.Reading.{Gives}
use Rattle.ds_base.proofs.Onward.{Further, end_kept}
use Rattle.line_read.specs.declared.header.LineHeader.{LineHeader}
use Rattle.line_read.specs.declared.operation.LineOp.{LineOp}
use Rattle.line_read.specs.declared.program.Matrix.{Matrix}
use Rattle.line_read.specs.Pass.{step_of, run_at}

-- what is run on from a cursor makes the total: the count is at least the bytes that are left
pub record Runs (read : Spot → Result (LineOp × Spot) Fault) (header : LineHeader) (m : Matrix) (s : Spot) (total : Result Matrix Fault) : Type 0 where
  pub left : ℕ
  pub enough : s.end - s.place ≤ left
  pub is : run_at read header left m s ≡ total

-- all is run
ends_at : (read : Spot → Result (LineOp × Spot) Fault) (header : LineHeader) (left : ℕ) (m : Matrix) (s : Spot) → s.end - s.place ≡ 0 → run_at read header left m s ≡ Ok m
ends_at read header zero m s done = rw done refl
ends_at read header (suc left) m s done = rw done refl

pub run_ends : (read : Spot → Result (LineOp × Spot) Fault) (header : LineHeader) (m : Matrix) (s : Spot) (total : Result Matrix Fault) → s.end - s.place ≡ 0 → Runs read header m s total → total ≡ Ok m
run_ends read header m s total done r = sym r.is ∙ ends_at read header r.left m s done

-- there is one more
one_left : (read : Spot → Result (LineOp × Spot) Fault) (header : LineHeader) (m : Matrix) (s : Spot) (total : Result Matrix Fault) → 0 < s.end - s.place → (r : Runs read header m s total) → run_at read header (suc (r.left - 1)) m s ≡ total
one_left read header m s total some r = let turn : suc (r.left - 1) ≡ r.left = omega (arith, r.enough, some) in ap (λ (n : ℕ). run_at read header n m s) turn ∙ r.is

-- it is run
pub run_more : (read : Spot → Result (LineOp × Spot) Fault) (header : LineHeader) (m new : Matrix) (s behind : Spot) (op : LineOp) (total : Result Matrix Fault)
    → 0 < s.end - s.place → read s ≡ Ok (op, behind) → Further s behind → step_of header s.place op m ≡ Ok new → Runs read header m s total → Runs read header new behind total
run_more read header m new s behind op total some is further step r = record {
  left = r.left - 1;
  enough = omega (arith, r.enough, further.some, end_kept s behind further.onward, some);
  is = sym (rw (ne_eqb (s.end - s.place) 0 (λ e. omega (arith, some, e)), is, step) refl) ∙ one_left read header m s total some r;
}

-- it is faulty
pub read_refused : (read : Spot → Result (LineOp × Spot) Fault) (header : LineHeader) (m : Matrix) (s : Spot) (f : Fault) (total : Result Matrix Fault)
    → 0 < s.end - s.place → read s ≡ Err f → Runs read header m s total → total ≡ Err f
read_refused read header m s f total some is r = sym (one_left read header m s total some r) ∙ rw (ne_eqb (s.end - s.place) 0 (λ e. omega (arith, some, e)), is) refl

-- it gives a row that falls
pub step_refused : (read : Spot → Result (LineOp × Spot) Fault) (header : LineHeader) (m new : Matrix) (s behind : Spot) (op : LineOp) (e : ReadError) (total : Result Matrix Fault)
    → 0 < s.end - s.place → read s ≡ Ok (op, behind) → Gives {X = Unit {0}} (λ u. new) (Err e) (step_of header s.place op m) → Runs read header m s total → Gives {X = Matrix} (λ matrix. matrix) (Err e) total
step_refused read header m new s behind op (errors.Faulty f) total some is step r =
    sym (one_left read header m s total some r) ∙ rw (ne_eqb (s.end - s.place) 0 (λ e. omega (arith, some, e)), is, step) refl
step_refused read header m new s behind op errors.NoMemory total some is step r = tt
