use Rattle.dwarf_types.specs.Expressions.{part_bytes}
use Rattle.unit_draft.proofs.Pieces.{pieces_done, pieces_next}
use Rattle.unit_draft.proofs.expression.append_expression.Goals as goal

pub loop-part-preserved : goal.loop-part-preserved
loop-part-preserved c = λ f place tells.
    pieces_next (part_bytes place) c.args.parts.now c.loop-part.part-index c.part-item.result _ _ _ c.loop-part-test.true c.part-item.is (c.in_ok-append_part.ensures f place tells) (c.loop-part.invariant f place tells)

pub returns : goal.returns
returns c = λ f place tells. pieces_done (part_bytes place) c.args.parts.now c.loop-part.part-index _ _ c.loop-part-test.false (c.loop-part.invariant f place tells)
