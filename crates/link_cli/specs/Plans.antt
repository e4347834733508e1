-- What the reading of words answers.
use Rattle.std.specs.Prelude.{◌≡◌, List, ℕ, Option, Some, None, Result, Ok, Err, String}
use Rattle.std.specs.String.{string_bytes}
use Rattle.clap.specs.declared.error.kind.ErrorKind.{ErrorKind}
use Rattle.clap.specs.declared.error.kind.ErrorKind.TheVariants as kinds
use Rattle.link_cli.specs.Plan.{Planned}
use Rattle.link_cli.specs.declared.plan.Plan.{Plan}
use Rattle.link_cli.specs.declared.plan.PlanError.{PlanError}
use Rattle.link_cli.specs.declared.plan.PlanError.TheVariants as errors

-- a plan, its texts by their bytes
abbrev pub plan_seen : Plan → Planned
plan_seen plan =
    record {
      exe = string_bytes plan.exe;
      out = string_bytes plan.out;
      workers = plan.workers;
      odr = plan.odr;
      keep_going = plan.keep_going;
      statistics = plan.statistics;
      mode = plan.mode;
    }

-- What was read of the words, seen by view, is what is wanted, or nothing is; unless memory ran out.
abbrev pub Gives : {X Y : Type 0} → (X → Y) → Result X PlanError → Option Y → Type 0
Gives view (Ok x) wanted = wanted ≡ Some (view x)
Gives view (Err errors.Usage) wanted = wanted ≡ None
Gives view (Err errors.NoMemory) wanted = Unit {0}

-- the plan that is wanted
abbrev pub Plans : Result Plan PlanError → Option Planned → Type 0
Plans result wanted = Gives plan_seen result wanted

-- the text that is wanted
abbrev pub Outs : {Z : Type 0} → Result (String Z) PlanError → Option (List ℕ) → Type 0
Outs result wanted = Gives string_bytes result wanted

-- why words that the command refuses give no plan
abbrev pub refusal : ErrorKind → PlanError
refusal kinds.OutOfMemory = errors.NoMemory
refusal _ = errors.Usage
