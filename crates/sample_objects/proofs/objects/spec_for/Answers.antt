use Rattle.std.proofs.Common.{refl}
use Rattle.sample_objects.proofs.objects.spec_for.Goals as goal

pub returns : goal.returns
returns g c = rw (c.in_ok-unit.ensures, c.in_ok-symbols.ensures, c.in_ok-relocs.ensures) refl
