use Rattle.std.proofs.Common.{length, ap, arith}
use Rattle.sample_objects.proofs.ShortNames.{symbol_short}
use Rattle.sample_objects.proofs.objects.add_symbol.Goals as goal

pub push-requires : goal.push-requires
push-requires c = omega (arith, ap length c.as_slice.ensures, ap length c.in_ok-name.ensures, symbol_short c.args.i c.args.j c.requires.object c.requires.number)
