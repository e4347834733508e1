use Rattle.std.proofs.Common.{length, ap, arith}
use Rattle.sample_objects.proofs.ShortNames.{symbol_short}
use Rattle.sample_objects.proofs.debug_map.add_function_stabs.Goals as goal

pub add_stab-requires : goal.add_stab-requires
add_stab-requires c = omega (arith, ap length c.as_slice.ensures, ap length c.in_ok-name.ensures, symbol_short c.args.i c.args.j c.requires.object c.requires.number)
