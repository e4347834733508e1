use Rattle.std.proofs.Common.{arith}
use Rattle.dwarf_types.specs.SectionBytes.{bytes_in}
use Rattle.unit_tree.proofs.Soundness.{tree_longer}
use Rattle.unit_tree.proofs.unit.read_behind.Goals as goal

pub unit_of-requires-clause-root : goal.unit_of-requires-clause-root
unit_of-requires-clause-root c =
    let longer = tree_longer _ (bytes_in c.args.sections.now) _ _ _ _ _ c.in_ok-first.ensures.read in
    omega (arith, c.in_ok-first.ensures.number, longer)
