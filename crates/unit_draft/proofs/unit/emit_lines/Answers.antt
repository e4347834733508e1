use Rattle.std.proofs.Common.{◌∙◌}
use Rattle.unit_draft.proofs.Standing.{stands, world_of}
use Rattle.unit_draft.proofs.unit.emit_lines.Goals as goal

pub returns : goal.returns
returns c = record {
  graph = λ graph u clone at is outside.
      let draft = c.args.draft.now in
      let w = world_of graph u clone c.args.outside.now in
      c.emit.ensures w.filling ∙ is.lines w (stands graph u clone draft.names draft.line_names c.args.outside.now at outside);
}
