use Rattle.type_names.proofs.Lineages.{lineage_below, lineage_top}
use Rattle.type_names.proofs.Pooling.{sound_parents}
use Rattle.merged_laws.proofs.laws.lineages_reach_the_top.Goals as goal

pub returns-clause-top : goal.returns-clause-top
returns-clause-top c = lineage_top

pub returns-clause-below : goal.returns-clause-below
returns-clause-below c = lineage_below

pub returns-clause-sound : goal.returns-clause-sound
returns-clause-sound c = sound_parents
