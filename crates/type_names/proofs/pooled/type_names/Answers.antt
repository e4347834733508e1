use Rattle.type_names.proofs.Pooling.{sound_parents, sound_units}
use Rattle.type_names.proofs.References.{sound_references}
use Rattle.type_names.proofs.pooled.type_names.Goals as goal

pub names_of-requires-clause-units : goal.names_of-requires-clause-units
names_of-requires-clause-units c = sound_units c.args.seen.now c.requires.sound

pub names_of-requires-clause-parents : goal.names_of-requires-clause-parents
names_of-requires-clause-parents c = sound_parents c.args.seen.now c.requires.sound

pub names_of-requires-clause-refer : goal.names_of-requires-clause-refer
names_of-requires-clause-refer c = sound_references c.args.seen.now c.requires.sound
