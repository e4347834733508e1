use Rattle.std.proofs.Common.{subst, sym}
use Rattle.std.specs.List.{All}
use Rattle.dwarf_types.specs.declared.entry.RawUnits.{RawUnits}
use Rattle.object_view.specs.Ready.{IsRooted}
use Rattle.object_view.specs.Roots.{IsBehindHeader}
use Rattle.object_view.specs.Seen.{opened_seen}
use Rattle.object_view.proofs.Trees.{headers_before, trees_rooted}
use Rattle.object_view.proofs.analysis.analyse_view.Goals as goal

pub analyse_units-requires-clause-rooted : goal.analyse_units-requires-clause-rooted
analyse_units-requires-clause-rooted c =
    let spelled = c.requires.spelled in
    subst (λ (r : RawUnits). All (IsRooted r.entries) r.units) (sym spelled.is) (trees_rooted spelled.trees)

pub analyse_units-requires-clause-behind : goal.analyse_units-requires-clause-behind
analyse_units-requires-clause-behind c =
    let spelled = c.requires.spelled in
    subst (λ (r : RawUnits). All (IsBehindHeader r.entries) r.units) (sym spelled.is) (headers_before (opened_seen c.args.object.now).sections spelled.trees spelled.spells.spells)
