use Rattle.std.proofs.lemmas.Option.{slice_get_within}
use Rattle.type_names.specs.Heads.{Object, entries_of}
use Rattle.type_names.specs.Objects.{object_of}
use Rattle.odr_names.proofs.Siblings.{sibling_spelled}
use Rattle.odr_names.proofs.twin_table.key_of.Goals as goal

pub parts_at-parts-requires-clause-spelled : goal.parts_at-parts-requires-clause-spelled
parts_at-parts-requires-clause-spelled c =
    let o : Object = object_of c.args.seen.now c.args.live.now in
    sibling_spelled c.args.object o c.args.here c.requires.parents c.requires.sibling

pub entry-requires : goal.entry-requires
entry-requires c =
    let o : Object = object_of c.args.seen.now c.args.live.now in
    slice_get_within (entries_of o) c.args.here.number c.requires.sibling.entry c.requires.sibling.stands
