use Rattle.std.proofs.Common.{◌+◌, length, refl, arith}
use Rattle.std.proofs.lemmas.Result.{IfOk-weaker}
use Rattle.unit_drafts.proofs.ShapesMade.{all_given, paths_first, paths_given}
use Rattle.unit_drafts.proofs.shaping.shared_shape.Goals as goal

pub parted-requires : goal.parted-requires
parted-requires g c =
    let seen = c.args.seen.now in
    paths_first seen c.args.live.now c.args.names.now c.args.winners.now (length seen + 1) c.in_ok-outs.outs (omega arith) c.in_ok-outs.ensures

pub joined_shape-requires-clause-own : goal.joined_shape-requires-clause-own
joined_shape-requires-clause-own g c κs within =
    let odr = c.requires.book.0 in
    let seen = c.args.seen.now in
    let live = c.args.live.now in
    let are = all_given odr seen live c.args.names.now c.args.winners.now (length seen + 1) c.in_ok-outs.outs c.in_ok-parts.parts.0 c.in_ok-parts.parts.1.items c.requires.sound c.requires.marked c.requires.few c.requires.book.1 refl c.in_ok-parts.ensures c.in_ok-outs.ensures in
    (odr, seen, live, are)

pub joined_shape-requires-clause-merged : goal.joined_shape-requires-clause-merged
joined_shape-requires-clause-merged g c κs within =
    let seen = c.args.seen.now in
    paths_given seen c.args.live.now c.args.names.now c.args.winners.now (length seen + 1) c.in_ok-outs.outs c.in_ok-parts.parts.0 c.in_ok-parts.parts.1.items c.in_ok-parts.ensures c.in_ok-outs.ensures

pub returns-clause-exact : goal.returns-clause-exact
returns-clause-exact g c =
    let seen = c.args.seen.now in
    let live = c.args.live.now in
    IfOk-weaker c.joined_shape.result _ _ (λ shape is odr named.
    is odr seen live (all_given odr seen live c.args.names.now c.args.winners.now (length seen + 1) c.in_ok-outs.outs c.in_ok-parts.parts.0 c.in_ok-parts.parts.1.items c.requires.sound c.requires.marked c.requires.few named refl c.in_ok-parts.ensures c.in_ok-outs.ensures)) c.joined_shape.ensures.exact

pub returns-clause-is : goal.returns-clause-is
returns-clause-is g c =
    let odr = c.requires.book.0 in
    let seen = c.args.seen.now in
    let live = c.args.live.now in
    IfOk-weaker c.joined_shape.result _ _ (λ shape is.
    is odr seen live (all_given odr seen live c.args.names.now c.args.winners.now (length seen + 1) c.in_ok-outs.outs c.in_ok-parts.parts.0 c.in_ok-parts.parts.1.items c.requires.sound c.requires.marked c.requires.few c.requires.book.1 refl c.in_ok-parts.ensures c.in_ok-outs.ensures)) c.joined_shape.ensures.is

pub returns-clause-units : goal.returns-clause-units
returns-clause-units g c = λ e odr named.
    let seen = c.args.seen.now in
    let live = c.args.live.now in
    c.joined_shape.ensures.units e odr seen live (all_given odr seen live c.args.names.now c.args.winners.now (length seen + 1) c.in_ok-outs.outs c.in_ok-parts.parts.0 c.in_ok-parts.parts.1.items c.requires.sound c.requires.marked c.requires.few named refl c.in_ok-parts.ensures c.in_ok-outs.ensures)
