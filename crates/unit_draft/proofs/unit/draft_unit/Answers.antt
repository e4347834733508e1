use Rattle.std.proofs.Common.{arith}
use Rattle.unit_draft.proofs.Placing.{nodes_within}
use Rattle.unit_draft.proofs.unit.draft_unit.Goals as goal

pub returns-then-len-ge-UNIT_LIMIT : goal.returns-then-len-ge-UNIT_LIMIT
returns-then-len-ge-UNIT_LIMIT g c = omega (arith, c.if-len-ge-UNIT_LIMIT.true, c.len.ensures, nodes_within c.args.number (g.S.UnitSource.unit c.args.unit.now))
