use Rattle.std.proofs.Common.{arith}
use Rattle.std.proofs.lemmas.Result.{err_from_is_err_and}
use Rattle.ds_base.proofs.Refusals.{refused_from_gives, refused_gives}
use Rattle.expr_resolve.specs.Context.{context_in}
use Rattle.object_view.proofs.Items.{given_more, given_err}
use Rattle.object_view.proofs.locations.locations_of.Goals as goal

pub returns-in_err-add_item : goal.returns-in_err-add_item
returns-in_err-add_item c =
    let p = err_from_is_err_and c.from_residual.result c.from_residual.ensures.1 in
    let r = refused_from_gives (λ (_ : Unit {0}). c.add_item.new.locations) _ _ c.in_err-add_item.ensures in
    let h = given_err (context_in c.args.context.now) c.args.items.now c.loop-item.locations c.loop-item.item-index c.item-item.result (omega arith) c.item-item.is c.loop-item.invariant _ r in
    rw (p.1, p.2) (search (refused_gives, h))

pub loop-item-preserved : goal.loop-item-preserved
loop-item-preserved c =
    given_more (context_in c.args.context.now) c.args.items.now c.loop-item.locations c.loop-item.item-index c.item-item.result (omega arith) c.item-item.is c.loop-item.invariant _ c.in_ok-add_item.ensures
