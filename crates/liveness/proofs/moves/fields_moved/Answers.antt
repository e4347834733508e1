use Rattle.std.proofs.Common.{◌∙◌, sym}
use Rattle.dwarf_types.specs.Seen.{op_seen}
use Rattle.liveness.proofs.Fields.{all_field_then}
use Rattle.liveness.proofs.moves.fields_moved.Goals as goal

pub returns-then-field_moved : goal.returns-then-field_moved
returns-then-field_moved c =
    c.inner_fields_moved.ensures ∙ all_field_then (op_seen c.args.op.now) (sym c.field_moved.ensures ∙ c.if-field_moved.true)
