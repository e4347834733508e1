use Rattle.std.proofs.Common.{append_assoc}
use Rattle.sample_objects.proofs.structures.add_structure_tree.Goals as goal

pub returns : goal.returns
returns c =
    rw (
      c.in_ok-add_parameter-2.ensures,
      c.structure_node-2.ensures,
      c.in_ok-add_g.ensures,
      c.in_ok-add_parameter.ensures,
      c.structure_node.ensures,
      c.in_ok-add_f.ensures,
      c.in_ok-add_members.ensures,
      c.in_ok-add_structure.ensures,
    )
    (simp append_assoc)
