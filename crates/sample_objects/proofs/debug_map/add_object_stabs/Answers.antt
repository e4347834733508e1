use Rattle.std.proofs.Common.{length, ap, append_assoc, arith}
use Rattle.sample_objects.proofs.ShortNames.{path_short}
use Rattle.sample_objects.proofs.debug_map.add_object_stabs.Goals as goal

pub add_stab-requires : goal.add_stab-requires
add_stab-requires c = omega (arith, ap length c.as_slice.ensures, ap length c.in_ok-path.ensures, path_short c.args.i c.requires)

pub returns : goal.returns
returns c = rw (c.in_ok-add_functions_stabs.ensures, c.as_slice-2.ensures, c.in_ok-numbers.ensures.numbers, c.in_ok-add_stab.ensures, c.as_slice.ensures, c.in_ok-path.ensures) (simp append_assoc)
