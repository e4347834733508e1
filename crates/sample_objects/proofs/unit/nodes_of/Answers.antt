use Rattle.std.proofs.Common.{append_assoc}
use Rattle.sample_objects.proofs.unit.nodes_of.Goals as goal

pub returns : goal.returns
returns c =
    rw (c.in_ok-add_functions.ensures, c.in_ok-add_pointers.ensures, c.in_ok-add_structures.ensures, c.in_ok-add_namespace.ensures, c.in_ok-add_int.ensures, c.in_ok-add_root.ensures, c.new-nodes.ensures)
    (simp append_assoc)
