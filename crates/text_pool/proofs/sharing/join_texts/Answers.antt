use Rattle.std.proofs.Common.{◌≡◌, ◌-◌, ◌^◌, ◌≤◌, Err, List, ℕ, ap, length, subst, sym}
use Rattle.std.proofs.lemmas.Result.{err_from_is_err_and}
use Rattle.ds_base.specs.Texts.{section_of}
use Rattle.text_pool.specs.declared.error.TextError.TheVariants as errors
use Rattle.text_pool.specs.declared.shard.Shard.{Shard}
use Rattle.text_pool.specs.Joins.{AreShards}
use Rattle.text_pool.specs.Shards.{texts_in}
use Rattle.text_pool.proofs.Collected.{long_shard, shards_are}
use Rattle.text_pool.proofs.Joints.{once_now}
use Rattle.text_pool.proofs.sharing.join_texts.Goals as goal

pub returns-in_err-shards-clause-long : goal.returns-in_err-shards-clause-long
returns-in_err-shards-clause-long g c = λ failed.
    let p = err_from_is_err_and c.from_residual-in_err-shards.result c.from_residual-in_err-shards.ensures.1 in
    let told = rw (p.1, p.2) at failed in
    let same : c.in_err-shards.field-0.0 ≡ errors.Long = cc in
    let found = c.in_err-shards.ensures.long (ap (λ e. Err e) same) in
    subst (λ (texts : List (List ℕ)). 2 ^ 32 - 1 ≤ length (section_of texts)) (sym (once_now c.args.parts.now))
    (long_shard (texts_in c.args.parts.now) c.args.workers c.in_ok-made.made.items c.in_ok-made.ensures.count c.in_ok-made.ensures.long found.0 found.1)

pub join_shards-requires : goal.join_shards-requires
join_shards-requires g c =
    subst (λ (shards : List Shard). AreShards (texts_in c.args.parts.now) shards) (sym c.as_mut_slice.ensures.value)
    (shards_are (texts_in c.args.parts.now) c.args.workers c.in_ok-made.made.items c.in_ok-made.ensures.count c.in_ok-shards.shards.items c.requires c.in_ok-made.ensures.ok c.in_ok-shards.ensures.ok)

pub returns-clause-long : goal.returns-clause-long
returns-clause-long g c = λ failed.
    subst (λ (texts : List (List ℕ)). 2 ^ 32 - 1 ≤ length (section_of texts)) (sym (once_now c.args.parts.now)) (c.join_shards.ensures.long failed)
