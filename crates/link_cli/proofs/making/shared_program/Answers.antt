use Rattle.link_cli.proofs.FilesMade.{files_made}
use Rattle.link_cli.proofs.making.shared_program.Goals as goal

pub generated_with-requires-clause-files : goal.generated_with-requires-clause-files
generated_with-requires-clause-files g c = files_made c.args.count c.in_ok-outs.outs c.in_ok-files.files c.in_ok-files.ensures c.in_ok-outs.ensures
