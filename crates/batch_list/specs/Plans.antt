-- What the reading of words answers.
use Rattle.std.specs.Prelude.{◌≡◌, Option, Some, None, Result, Ok, Err}
use Rattle.std.specs.String.{string_bytes}
use Rattle.clap.specs.declared.error.kind.ErrorKind.{ErrorKind}
use Rattle.clap.specs.declared.error.kind.ErrorKind.TheVariants as kinds
use Rattle.batch_list.specs.Plan.{Planned}
use Rattle.batch_list.specs.declared.plan.BatchPlan.{BatchPlan}
use Rattle.batch_list.specs.declared.plan.PlanError.{PlanError}
use Rattle.batch_list.specs.declared.plan.PlanError.TheVariants as errors

-- a plan, its list by the bytes of its name
abbrev pub plan_seen : BatchPlan → Planned
plan_seen plan =
    record {
      list = string_bytes plan.list;
      workers = plan.workers;
      odr = plan.odr;
      keep_going = plan.keep_going;
    }

-- What was read of the words is the plan that is wanted, or none is; unless memory ran out.
abbrev pub Plans : Result BatchPlan PlanError → Option Planned → Type 0
Plans (Ok plan) wanted = wanted ≡ Some (plan_seen plan)
Plans (Err errors.Usage) wanted = wanted ≡ None
Plans (Err errors.NoMemory) wanted = Unit {0}

-- why words that the command refuses give no plan
abbrev pub refusal : ErrorKind → PlanError
refusal kinds.OutOfMemory = errors.NoMemory
refusal _ = errors.Usage
