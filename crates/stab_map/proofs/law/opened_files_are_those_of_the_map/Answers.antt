use Rattle.stab_map.proofs.OpenedFiles.{map_opened}
use Rattle.stab_map.proofs.law.opened_files_are_those_of_the_map.Goals as goal

pub returns : goal.returns
returns c = map_opened
