use Rattle.std.proofs.Common.{ap, subst, arith, Err}
use Rattle.dwarf_types.specs.declared.graph.OutUnit.{OutUnit}
use Rattle.dwarf_types.specs.Entries.{unit_len}
use Rattle.unit_draft.specs.Drafted.{Drafts, IsDraft}
use Rattle.sample_objects.specs.GeneratedUnit.{unit_of}
use Rattle.sample_objects.proofs.Modest.{unit_few}
use Rattle.sample_objects.proofs.SmallNodes.{nodes_few, nodes_small}
use Rattle.sample_objects.proofs.objects.draft_of.Goals as goal

pub unreachable-requires : goal.unreachable-requires
unreachable-requires g c =
    let long = subst (λ e. Drafts 0 c.args.unit.now (Err e)) c.in-Err-Unit.field-0-is c.in-Err-Unit.ensures in
    omega (arith, long, ap (λ (unit : OutUnit). unit_len 0 unit) c.requires.unit, unit_few (unit_of c.args.i) (nodes_few c.args.i) (nodes_small c.args.i c.requires.object))

pub returns-in-Ok : goal.returns-in-Ok
returns-in-Ok g c = subst (λ (unit : OutUnit). IsDraft 0 unit c.in-Ok.draft) c.requires.unit c.in-Ok.ensures
