use Rattle.type_names.specs.Heads.{Object}
use Rattle.type_names.specs.Objects.{object_of}
use Rattle.odr_names.proofs.Closed.{spelled_pooled}
use Rattle.odr_names.proofs.enter.row_of.Goals as goal

pub parts_at-parts-requires-clause-spelled : goal.parts_at-parts-requires-clause-spelled
parts_at-parts-requires-clause-spelled c =
    let o : Object = object_of c.args.seen.now c.args.live.now in
    spelled_pooled o c.args.k c.requires.parents c.requires.pooled
