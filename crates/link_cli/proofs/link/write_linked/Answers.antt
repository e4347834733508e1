use Rattle.std.proofs.Common.{refl}
use Rattle.link_program.specs.Holding.{held_of}
use Rattle.link_program.proofs.Bundles.{bundles_as}
use Rattle.link_cli.specs.Plans.{plan_seen}
use Rattle.link_cli.proofs.LinkSteps.{sources_bundled, sources_refused}
use Rattle.link_cli.proofs.link.write_linked.Goals as goal

pub returns-in-Ok : goal.returns-in-Ok
returns-in-Ok g c =
    sources_bundled (plan_seen c.args.plan.now) c.args.program.now _ c.as_slice-objects.ensures (held_of c.args.held) _ _ c.in-Ok.linked _ (bundles_as _ _ _ _ _ _ _ _ c.wanted.ensures.odr c.wanted.ensures.name refl c.in-Ok.ensures) c.write_bundle.ensures

pub returns : goal.returns
returns g c =
    sources_refused (plan_seen c.args.plan.now) c.args.program.now _ c.as_slice-objects.ensures (held_of c.args.held) _ c.in-Err.refusal _ _ c.from-status.ensures (bundles_as _ _ _ _ _ _ _ _ c.wanted.ensures.odr c.wanted.ensures.name refl c.in-Err.ensures) c.refused.ensures
