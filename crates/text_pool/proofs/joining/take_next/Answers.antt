use Rattle.std.proofs.Common.{◌≡◌, ◌∙◌, Some, slice_get, refl, sym, subst}
use Rattle.std.proofs.lemmas.Option.{same_Some, slice_get_read}
use Rattle.text_pool.specs.declared.shard.Shard.{Shard}
use Rattle.text_pool.specs.Joins.{Takes}
use Rattle.text_pool.proofs.joining.take_next.Goals as goal

pub returns : goal.returns
returns c = λ it at.
    let old : Shard = c.index-shards-shard.result in
    let here : slice_get c.args.shards.now c.args.shard ≡ Some old = slice_get_read c.args.shards.now _ c.args.shard _ refl c.requires.shard c.index-shards-shard.is in
    let same = sym c.index-shards-shard.is ∙ same_Some _ _ (sym here ∙ at) in
    (_, refl, subst (λ (old : Shard). Takes c.args.end old c.take_from.new.shard c.in_ok-place.place) same c.in_ok-place.ensures)
