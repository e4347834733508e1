use Rattle.std.proofs.Common.{◌≡◌, Ok, ◌<◌, ◌^◌, ℕ, List, length, sym, subst}
use Rattle.std.proofs.lemmas.List.Elements.{All-same}
use Rattle.macho_read.specs.declared.kind.Role.TheVariants as roles
use Rattle.macho_read.specs.Kind.{kind_of}
use Rattle.macho_read.specs.Sound.{IsSound}
use Rattle.sample_objects.specs.GeneratedProgram.{generated_program}
use Rattle.sample_objects.proofs.SoundProgram.{program_kind, program_sound}
use Rattle.sample_objects.proofs.FileLength.{files_short}
use Rattle.sample_objects.proofs.generator.generated_with.Goals as goal

pub returns-clause-sound : goal.returns-clause-sound
returns-clause-sound c = subst IsSound (sym c.in_ok-program.ensures) (program_sound c.args.count c.requires.few)

pub returns-clause-kind : goal.returns-clause-kind
returns-clause-kind c = subst (λ p. kind_of p roles.Program ≡ Ok tt) (sym c.in_ok-program.ensures) (program_kind c.args.count)

pub returns-clause-small : goal.returns-clause-small
returns-clause-small c = All-same (λ (file : List ℕ). length file < 2 ^ 32) c.args.files (generated_program c.args.count).files c.requires.files (files_short c.args.count c.requires.few)
