use Rattle.std.proofs.Common.{Ok, Err, ap, length, ◌∙◌}
use Rattle.sample_objects.specs.GeneratedProgram.{generated_program}
use Rattle.link_cli.specs.Plans.{plan_seen}
use Rattle.link_cli.proofs.Generating.{counted_as, files_many, makes_lent, objects_many, refused_as, untold_as}
use Rattle.link_cli.proofs.generate.link_generated.Goals as goal

pub returns-in_default : goal.returns-in_default
returns-in_default g c = untold_as (plan_seen c.args.plan.now) c.args.count (generated_program c.args.count) _ c.no_memory.ensures

pub bundle-requires-clause-objects : goal.bundle-requires-clause-objects
bundle-requires-clause-objects g c κs within = ap length c.as_slice.ensures ∙ objects_many c.args.count c.in-Ok.made c.in-Ok.ensures.exact

pub bundle-requires-clause-files : goal.bundle-requires-clause-files
bundle-requires-clause-files g c κs within = files_many c.args.count c.in-Ok.made c.in-Ok.ensures.exact

pub returns-in-Ok-bundle : goal.returns-in-Ok-bundle
returns-in-Ok-bundle g c =
    let plan = plan_seen c.args.plan.now in
    counted_as plan c.args.count (generated_program c.args.count) c.in-Ok.made c.in-Ok.ensures.exact c.in-Ok-bundle.linked _ (makes_lent plan c.args.count c.in-Ok.made _ (Ok c.in-Ok-bundle.linked) c.as_slice.ensures c.in-Ok-bundle.ensures) c.tell_counts.ensures

pub returns : goal.returns
returns g c =
    let plan = plan_seen c.args.plan.now in
    refused_as plan c.args.count (generated_program c.args.count) c.in-Ok.made c.in-Ok.ensures.exact _ _ c.in-Err.refusal _ _ c.as_slice-in-Err.ensures c.new.ensures c.from-status.ensures
    (makes_lent plan c.args.count c.in-Ok.made _ (Err c.in-Err.refusal) c.as_slice.ensures c.in-Err.ensures) c.refused.ensures
