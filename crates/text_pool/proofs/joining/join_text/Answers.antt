use Rattle.std.proofs.Common.{◌≡◌, Err, ap, arith}
use Rattle.std.proofs.lemmas.Result.{err_from_is_err_and}
use Rattle.text_pool.specs.declared.error.TextError.TheVariants as errors
use Rattle.text_pool.proofs.AllShards.{has_left, joined_more, long_then, place_is}
use Rattle.text_pool.proofs.joining.join_text.Goals as goal

pub take_next-requires-clause-left : goal.take_next-requires-clause-left
take_next-requires-clause-left c = λ it at.
    has_left c.requires.0 c.requires.1 c.args.text.now c.args.shards.now c.args.section.now c.requires.2 c.shard_of-shard.result it c.shard_of-shard.ensures.is at

pub returns-in_err-size_with-clause-long : goal.returns-in_err-size_with-clause-long
returns-in_err-size_with-clause-long c = λ all rest joining failed.
    let p = err_from_is_err_and c.from_residual-in_err-size_with.result c.from_residual-in_err-size_with.ensures.1 in
    let told = rw (p.1, p.2) at failed in
    let same : c.in_err-size_with.field-0.0 ≡ errors.Long = cc in
    long_then all rest c.args.text.now c.args.shards.now c.args.section.now joining c.shard_of-shard.result c.take_next.new.shards c.len-end.result c.in_ok-place.place c.shard_of-shard.ensures.is c.shard_of-shard.ensures.below c.in_ok-place.ensures c.len-end.ensures
    (c.in_err-size_with.ensures.long (ap (λ e. Err e) same))

pub returns-clause-joining : goal.returns-clause-joining
returns-clause-joining c = λ all rest joining.
    joined_more all rest c.args.text.now c.args.shards.now c.args.section.now joining c.shard_of-shard.result c.take_next.new.shards c.len-end.result c.in_ok-place.place c.shard_of-shard.ensures.is c.shard_of-shard.ensures.below c.in_ok-place.ensures c.len-end.ensures
    c.put_where_new.new.section c.in_ok-size_with.field-0 c.in_ok-put_where_new.ensures c.in_ok-size_with.ensures.ok (c.in_ok-size_with.ensures.small (omega (arith, c.len-end.ensures, joining.small)))

pub returns-clause-place : goal.returns-clause-place
returns-clause-place c = λ all rest joining.
    place_is all rest c.args.text.now c.args.shards.now c.args.section.now joining c.shard_of-shard.result c.take_next.new.shards c.len-end.result c.in_ok-place.place c.shard_of-shard.ensures.is c.shard_of-shard.ensures.below c.in_ok-place.ensures c.len-end.ensures
