use Rattle.std.proofs.Common.{length, ap, arith}
use Rattle.unit_tree.proofs.AttrLoop.{attrs_long}
use Rattle.unit_tree.proofs.entry.read_entry.Goals as goal

pub close-requires-clause-few : goal.close-requires-clause-few
close-requires-clause-few c = omega (arith, c.requires.few, attrs_long _ _ _ _ _ _ _ c.in_ok-read_attrs.ensures.read, ap length c.requires.ready.0, ap length c.as_slice-fields.ensures)

pub read_attrs-requires-clause-few : goal.read_attrs-requires-clause-few
read_attrs-requires-clause-few c = omega (arith, c.requires.few, ap length c.requires.ready.0, ap length c.as_slice-fields.ensures)
