use Rattle.line_read.proofs.MarkedNames.{dirs_listed, files_listed}
use Rattle.line_read.proofs.laws.names_end_with_the_empty_one.Goals as goal

pub returns-clause-dirs : goal.returns-clause-dirs
returns-clause-dirs c = dirs_listed

pub returns-clause-files : goal.returns-clause-files
returns-clause-files c = files_listed
