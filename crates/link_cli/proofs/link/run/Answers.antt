use Rattle.std.proofs.Common.{◌≡◌, None, map, refl}
use Rattle.std.specs.String.{string_bytes}
use Rattle.link_cli.specs.declared.ending.Ending.{Ending}
use Rattle.link_cli.specs.Answer.{Ends, no_plan, planned, usage}
use Rattle.link_cli.specs.Endings.{usage_ending}
use Rattle.link_program.specs.Files.{world}
use Rattle.link_cli.specs.Plan.{plan_of}
use Rattle.link_cli.specs.Plans.{plan_seen}
use Rattle.link_cli.proofs.LinkSteps.{told_or}
use Rattle.link_cli.proofs.link.run.Goals as goal

pub returns-in-Ok : goal.returns-in-Ok
returns-in-Ok g c = planned (plan_seen c.in-Ok.plan) _ c.in-Ok.ensures.plan c.run_plan.ensures

pub returns-in-Err-Usage : goal.returns-in-Err-Usage
returns-in-Err-Usage g c =
    let now = world (g.F.Files.files c.args.files.now) (g.F.Files.counts c.args.files.now) in
    let none : plan_of (map string_bytes c.args.words.now) ≡ None = rw c.in-Err-Usage.field-0-is at c.in-Err-Usage.ensures.plan in
    told_or (λ (e : Ending). Ends (map string_bytes c.args.words.now) now now e) usage_ending c.usage.result c.usage.ensures (usage none refl) (no_plan refl)

pub returns-in-Err-NoMemory : goal.returns-in-Err-NoMemory
returns-in-Err-NoMemory g c = rw c.no_memory.ensures (no_plan refl)
