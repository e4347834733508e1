use Rattle.std.proofs.Common.{◌∙◌, sym}
use Rattle.dwarf_types.specs.Seen.{op_seen}
use Rattle.liveness.proofs.Fields.{some_field_else}
use Rattle.liveness.proofs.moves.has_field.Goals as goal

pub returns-else-is_some : goal.returns-else-is_some
returns-else-is_some c =
    c.have_inner_fields.ensures ∙ some_field_else (op_seen c.args.op.now) (sym c.is_some.ensures ∙ c.if-is_some.false)
