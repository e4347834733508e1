use Rattle.std.proofs.Common.{◌≡◌, ◌==◌, Bor, Err, List, ℕ, ap, subst}
use Rattle.std.proofs.lemmas.Result.{err_from_is_err_and}
use Rattle.text_pool.specs.declared.error.TextError.TheVariants as errors
use Rattle.text_pool.specs.Shards.{Holds, shard_of}
use Rattle.text_pool.proofs.Turns.{long_parts, part_taken}
use Rattle.text_pool.proofs.shard.shard_in.Goals as goal

pub returns-in_err-put_names-clause-long : goal.returns-in_err-put_names-clause-long
returns-in_err-put_names-clause-long c = λ failed.
    let p = err_from_is_err_and c.from_residual.result c.from_residual.ensures.1 in
    let told = rw (p.1, p.2) at failed in
    let same : c.in_err-put_names.field-0.0 ≡ errors.Long = cc in
    long_parts (λ (names : Bor (List (List ℕ))). names.now) (λ t. shard_of c.args.shards t == c.args.shard) c.args.parts.now c.loop-names.names-index c.names-item.result c.loop-names-test.true c.names-item.is
    (c.in_err-put_names.ensures.long _ c.loop-names.invariant (ap (λ e. Err e) same))

pub loop-names-preserved : goal.loop-names-preserved
loop-names-preserved c =
    subst (λ (uses : List (List ℕ)). Holds uses c.put_names.new.table)
    (part_taken (λ (names : Bor (List (List ℕ))). names.now) (λ t. shard_of c.args.shards t == c.args.shard) c.args.parts.now c.loop-names.names-index c.names-item.result c.loop-names-test.true c.names-item.is)
    (c.in_ok-put_names.ensures.ok _ c.loop-names.invariant)
