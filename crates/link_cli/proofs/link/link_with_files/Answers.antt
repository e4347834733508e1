use Rattle.link_program.specs.Holding.{held_of}
use Rattle.link_cli.specs.Plans.{plan_seen}
use Rattle.link_cli.proofs.LinkSteps.{objects_read, objects_refused, read_behind}
use Rattle.link_program.proofs.Sources.{few_files, held_small, none_small}
use Rattle.link_cli.proofs.link.link_with_files.Goals as goal

pub write_linked-requires-clause-held : goal.write_linked-requires-clause-held
write_linked-requires-clause-held g c κs within = few_files c.in-Ok.ensures (rw c.as_slice-objects.ensures c.requires.linkable.few)

pub write_linked-requires-clause-small : goal.write_linked-requires-clause-small
write_linked-requires-clause-small g c κs within = held_small c.in-Ok.ensures c.requires.most none_small

pub returns-in-Ok : goal.returns-in-Ok
returns-in-Ok g c =
    objects_read (plan_seen c.args.plan.now) c.args.program.now _ c.as_slice-objects.ensures c.args.most _ _ _ (held_of c.in-Ok.held) _ (read_behind c.expect_files.ensures c.in-Ok.ensures) c.write_linked.ensures

pub returns-in-Err : goal.returns-in-Err
returns-in-Err g c =
    objects_refused (plan_seen c.args.plan.now) c.args.program.now _ c.as_slice-objects.ensures c.args.most _ _ c.in-Err.stopped _ (read_behind c.expect_files.ensures c.in-Err.ensures) c.refused.ensures
