use Rattle.std.proofs.Common.{arith}
use Rattle.macho_read.proofs.Soundness.{kept_few, kept_sound, symbols_sound}
use Rattle.macho_read.proofs.image.read_image.Goals as goal

pub returns-clause-sound : goal.returns-clause-sound
returns-clause-sound c =
    let kept = kept_sound _ _ _ c.in_ok-commands.commands c.in_ok-commands.ensures in
    let table = symbols_sound c.in_ok-commands.commands.symtab c.args.bytes.now c.in_ok-symbols.symbols c.in_ok-symbols.ensures.read in
    let few = kept_few _ _ c.in_ok-header.header.sizeofcmds _ c.in_ok-commands.commands c.in_ok-commands.ensures in
    record { counts = kept.counts; segments = kept.segments; sections = kept.sections; symbols = table; few = c.in_ok-symbols.ensures.few; few_sections = omega (arith, few, c.in_ok-header.ensures.small) }
