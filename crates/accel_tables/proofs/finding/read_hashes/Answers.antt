use Rattle.std.proofs.Common.{ℕ, ◌≡◌, ◌+◌, ◌-◌, ◌%◌, ◌∙◌, Ok, Err, length, suc, sym, ap, arith}
use Rattle.std.proofs.lemmas.Result.{err_from_is_err_and}
use Rattle.std.proofs.lemmas.Bool.{eq-eqb, ne_eqb}
use Rattle.std.proofs.lemmas.List.{length_push}
use Rattle.accel_tables.specs.Found.{hash_place, number_in}
use Rattle.accel_tables.proofs.Walking.{hash_fault, hash_more, hash_other, hashes_end}
use Rattle.accel_tables.proofs.finding.read_hashes.Goals as goal

pub returns-in_err-hash-clause-read : goal.returns-in_err-hash-clause-read
returns-in_err-hash-clause-read c =
    let p = err_from_is_err_and c.from_residual.result c.from_residual.ensures.1 in
    let left : c.args.counts.hashes - c.loop-i.i ≡ suc (c.args.counts.hashes - (c.loop-i.i + 1)) = omega (arith, c.loop-i-test.true) in
    let read : number_in 4 c.args.table.now (hash_place c.args.counts c.loop-i.i) ≡ Err c.in_err-hash.field-0.0 = ap (λ (place : ℕ). number_in 4 c.args.table.now place) (sym c.hash_place.ensures) ∙ c.in_err-hash.ensures.read in
    rw (p.1, p.2) (sym c.loop-i.invariant.all ∙ hash_fault c.args.table.now c.args.counts c.args.bucket _ _ c.loop-i.hashes c.loop-i.i c.in_err-hash.field-0.0 left read)

pub returns-then-hash-counts-clause-read : goal.returns-then-hash-counts-clause-read
returns-then-hash-counts-clause-read c =
    let left : c.args.counts.hashes - c.loop-i.i ≡ suc (c.args.counts.hashes - (c.loop-i.i + 1)) = omega (arith, c.loop-i-test.true) in
    let read : number_in 4 c.args.table.now (hash_place c.args.counts c.loop-i.i) ≡ Ok c.in_ok-hash.hash = ap (λ (place : ℕ). number_in 4 c.args.table.now place) (sym c.hash_place.ensures) ∙ c.in_ok-hash.ensures.read in
    sym c.loop-i.invariant.all ∙ hash_other c.args.table.now c.args.counts c.args.bucket _ _ c.loop-i.hashes c.loop-i.i c.in_ok-hash.hash left read (ne_eqb (c.in_ok-hash.hash % c.args.counts.buckets) c.args.bucket c.if-hash-counts.true)

pub loop-i-preserved : goal.loop-i-preserved
loop-i-preserved c =
    let left : c.args.counts.hashes - c.loop-i.i ≡ suc (c.args.counts.hashes - (c.loop-i.i + 1)) = omega (arith, c.loop-i-test.true) in
    let read : number_in 4 c.args.table.now (hash_place c.args.counts c.loop-i.i) ≡ Ok c.in_ok-hash.hash = ap (λ (place : ℕ). number_in 4 c.args.table.now place) (sym c.hash_place.ensures) ∙ c.in_ok-hash.ensures.read in
    let longer : length c.push.new.self ≡ length c.loop-i.hashes + 1 = ap length c.in_ok-push.ensures.ok ∙ length_push c.loop-i.hashes c.in_ok-hash.hash in
    record {
      all = rw c.in_ok-push.ensures.ok (sym (hash_more c.args.table.now c.args.counts c.args.bucket _ _ c.loop-i.hashes c.loop-i.i c.in_ok-hash.hash left read (eq-eqb (c.in_ok-hash.hash % c.args.counts.buckets) c.args.bucket c.if-hash-counts.false)) ∙ c.loop-i.invariant.all);
      count = omega (arith, longer, c.loop-i.invariant.count);
      few = omega (arith, longer, c.loop-i.invariant.count, c.loop-i-test.true);
    }

pub returns-clause-read : goal.returns-clause-read
returns-clause-read c = sym c.loop-i.invariant.all ∙ hashes_end c.args.table.now c.args.counts c.args.bucket _ c.loop-i.hashes c.loop-i.i (omega (arith, c.loop-i-test.false))
