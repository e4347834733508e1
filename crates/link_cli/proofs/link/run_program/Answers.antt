use Rattle.std.proofs.Common.{◌≡◌, ℕ, ◌-◌, ◌^◌, Result, ap, refl, subst}
use Rattle.link_status.specs.declared.refusal.Refusal.{Refusal}
use Rattle.link_program.specs.declared.program.MappedProgram.{MappedProgram}
use Rattle.link_cli.specs.Plans.{plan_seen}
use Rattle.link_program.specs.Refusals.{Answers}
use Rattle.link_cli.proofs.LinkSteps.{program_linked, program_missed, program_refused_as, program_told}
use Rattle.link_cli.proofs.link.run_program.Goals as goal

-- what was read answers what the program is
read_by : (program read answer : Result MappedProgram Refusal) → read ≡ answer → Answers (λ (p : MappedProgram). p) read program → Answers (λ (p : MappedProgram). p) answer program
read_by program read answer is h = subst (λ (r : Result MappedProgram Refusal). Answers (λ (p : MappedProgram). p) r program) is h

pub returns-in-Err : goal.returns-in-Err
returns-in-Err g c = program_missed (plan_seen c.args.plan.now) _ _ _ _ _ c.in-Err.status _ c.as_str.ensures.value refl c.new.ensures c.in-Err.ensures c.refused.ensures

pub returns-in-Err-read : goal.returns-in-Err-read
returns-in-Err-read g c =
    program_refused_as (plan_seen c.args.plan.now) _ _ _ c.in-Ok.bytes _ c.as_str.ensures.value c.as_slice.ensures c.in-Ok.ensures _ _ c.in-Err-read.refusal _ _ refl
    c.new-in-Err-read.ensures c.from-status.ensures (read_by _ _ _ c.in-Err-read.is c.read_program-read.ensures.read) c.refused-in-Err-read.ensures

pub returns-in-Link : goal.returns-in-Link
returns-in-Link g c =
    program_linked (plan_seen c.args.plan.now) _ _ _ c.in-Ok.bytes _ c.as_str.ensures.value c.as_slice.ensures c.in-Ok.ensures c.in-Ok-read.program _ _ _ (read_by _ _ _ c.in-Ok-read.is c.read_program-read.ensures.read)
    c.in-Link.is (ap (λ (n : ℕ). 2 ^ 29 - n) c.len.ensures) c.link_with_files.ensures

pub returns-in-Map : goal.returns-in-Map
returns-in-Map g c =
    program_told (plan_seen c.args.plan.now) _ _ _ c.in-Ok.bytes _ c.as_str.ensures.value c.as_slice.ensures c.in-Ok.ensures c.in-Ok-read.program _ (read_by _ _ _ c.in-Ok-read.is c.read_program-read.ensures.read)
    c.in-Map.is c.tell_map.ensures
