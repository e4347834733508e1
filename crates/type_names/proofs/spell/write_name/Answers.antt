use Rattle.type_names.specs.Entries.{is_made_up}
use Rattle.type_names.proofs.Texts.{not_written}
use Rattle.type_names.proofs.spell.write_name.Goals as goal

pub returns-then-name-gt4096 : goal.returns-then-name-gt4096
returns-then-name-gt4096 c = not_written c.args.out.now.items c.args.name.now (is_made_up c.args.name.now) c.if-name-gt4096.true
