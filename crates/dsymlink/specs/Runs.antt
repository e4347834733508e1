-- What the program answers of the process's arguments.
use Rattle.std.specs.Prelude.{◌≡◌, ℕ, List}
use Rattle.link_status.specs.declared.status.Status.{Status}
use Rattle.link_status.specs.declared.status.Status.TheVariants as statuses
use Rattle.link_cli.specs.Answer.{Links}
use Rattle.link_cli.specs.Endings.{Said}
use Rattle.link_program.specs.Files.{World}

-- memory ran out, and nothing was called
pub record IsUnasked (before after : World) (silent heard : Said) (status : Status) : Type 0 where
  pub same : after ≡ before
  pub still : heard ≡ silent
  pub none : status ≡ statuses.NoMemory

-- what the linker answers of these words, unless memory ran out before it was asked
pub data Answers (words : List (List ℕ)) (before after : World) (silent heard : Said) (status : Status) : Type 0 where
  unasked : IsUnasked before after silent heard status → Answers words before after silent heard status
  linked : Links words before after silent heard status → Answers words before after silent heard status
