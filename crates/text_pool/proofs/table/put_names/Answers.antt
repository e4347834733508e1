use Rattle.std.proofs.Common.{◌≡◌, ◌∙◌, ◌==◌, ◌++◌, ◌-◌, ◌^◌, ◌≤◌, [], Err, List, ℕ, ap, fold, length, sym, subst}
use Rattle.std.proofs.lemmas.Bool.{eq-eqb, ne_eqb}
use Rattle.std.proofs.lemmas.Result.{err_from_is_err_and}
use Rattle.ds_base.specs.Texts.{section_of, with_text}
use Rattle.text_pool.specs.declared.error.TextError.TheVariants as errors
use Rattle.text_pool.specs.Shards.{Holds, shard_of}
use Rattle.text_pool.proofs.Turns.{long_so_far, taken_in, taken_out}
use Rattle.text_pool.proofs.table.put_names.Goals as goal

pub loop-i-preserved-then-shard_of-shard : goal.loop-i-preserved-then-shard_of-shard
loop-i-preserved-then-shard_of-shard c = λ uses holds.
    let is_out = ne_eqb _ _ (λ (e : shard_of c.args.shards c.name_at-text.result.now ≡ c.args.shard). c.if-shard_of-shard.true (c.shard_of.ensures.is ∙ e)) in
    subst (λ (more : List (List ℕ)). Holds (uses ++ more) c.loop-i.table)
    (taken_out c.args.names.now c.loop-i.i c.name_at-text.result.now c.name_at-text.ensures (λ t. shard_of c.args.shards t == c.args.shard) is_out)
    (c.loop-i.invariant uses holds)

pub returns-in_err-put-clause-long : goal.returns-in_err-put-clause-long
returns-in_err-put-clause-long c = λ uses holds failed.
    let p = err_from_is_err_and c.from_residual.result c.from_residual.ensures.1 in
    let told = rw (p.1, p.2) at failed in
    let same : c.in_err-put.field-0.0 ≡ errors.Long = cc in
    let is_in = eq-eqb _ _ (sym c.shard_of.ensures.is ∙ c.if-shard_of-shard.false) in
    let in_order = taken_in c.args.names.now c.loop-i.i c.name_at-text.result.now c.name_at-text.ensures (λ t. shard_of c.args.shards t == c.args.shard) uses is_in in
    long_so_far c.args.names.now c.loop-i.i c.name_at-text.result.now c.name_at-text.ensures (λ t. shard_of c.args.shards t == c.args.shard) uses
    (subst (λ (them : List (List ℕ)). 2 ^ 32 - 1 ≤ length (section_of (fold with_text [] them))) in_order (c.in_err-put.ensures.long _ (c.loop-i.invariant uses holds) (ap (λ e. Err e) same)))

pub loop-i-preserved : goal.loop-i-preserved
loop-i-preserved c = λ uses holds.
    let is_in = eq-eqb _ _ (sym c.shard_of.ensures.is ∙ c.if-shard_of-shard.false) in
    subst (λ (more : List (List ℕ)). Holds more c.put.new.table)
    (taken_in c.args.names.now c.loop-i.i c.name_at-text.result.now c.name_at-text.ensures (λ t. shard_of c.args.shards t == c.args.shard) uses is_in)
    (c.in_ok-put.ensures.ok _ (c.loop-i.invariant uses holds))
