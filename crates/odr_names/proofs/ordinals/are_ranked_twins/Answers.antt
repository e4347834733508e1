use Rattle.type_names.specs.Heads.{Object}
use Rattle.type_names.specs.Objects.{object_of}
use Rattle.odr_names.proofs.Siblings.{sibling_spelled}
use Rattle.odr_names.proofs.ordinals.are_ranked_twins.Goals as goal

pub are_twins-requires-clause-spelled : goal.are_twins-requires-clause-spelled
are_twins-requires-clause-spelled c =
    let o : Object = object_of c.args.seen.now c.args.live.now in
    let n = c.args.object in
    (sibling_spelled n o c.args.a c.requires.parents c.requires.siblings.0, sibling_spelled n o c.args.b c.requires.parents c.requires.siblings.1)
