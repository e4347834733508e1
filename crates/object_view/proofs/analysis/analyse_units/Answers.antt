use Rattle.std.proofs.Common.{◌≡◌, refl, subst, arith}
use Rattle.ds_base.specs.Reading.{Gives}
use Rattle.dwarf_types.specs.declared.analysis.Analysis.{Analysis}
use Rattle.object_view.specs.Seen.{opened_seen}
use Rattle.object_view.specs.Stages.{MadeOnce, entries_analysed, made_of}
use Rattle.object_view.proofs.Ordered.{types_in_order}
use Rattle.object_view.proofs.Roots.{have_roots}
use Rattle.object_view.proofs.analysis.analyse_units.Goals as goal

pub analyse_entries-requires-clause-order : goal.analyse_entries-requires-clause-order
analyse_entries-requires-clause-order c = rw (c.as_slice-2.ensures, c.in_ok-types.ensures.types) (types_in_order 0 c.args.raw.entries c.requires.raw.rising)

pub analyse_entries-requires-clause-few : goal.analyse_entries-requires-clause-few
analyse_entries-requires-clause-few c = omega (arith, c.requires.raw.few)

pub made_once-requires-clause-few : goal.made_once-requires-clause-few
made_once-requires-clause-few c = omega (arith, c.requires.raw.few)

pub made_once-requires-clause-roots : goal.made_once-requires-clause-roots
made_once-requires-clause-roots c = rw c.as_slice.ensures (have_roots c.args.raw.units _ c.requires.raw.units)

pub analyse_entries-requires-clause-roots : goal.analyse_entries-requires-clause-roots
analyse_entries-requires-clause-roots c = have_roots c.args.raw.units _ c.requires.raw.units

pub returns : goal.returns
returns c =
    let tables : MadeOnce = record { types = c.as_slice-2.result.now; units = c.as_slice-3.result.now } in
    let made : tables ≡ made_of c.args.raw.units c.args.raw.entries =
    rw (c.as_slice-2.ensures, c.in_ok-types.ensures.types, c.as_slice-3.ensures, c.in_ok-types.ensures.contexts, c.as_slice.ensures) refl in
    subst (λ (t : MadeOnce). Gives (λ (a : Analysis). a) c.analyse_entries.result (entries_analysed (opened_seen c.args.object.now) c.args.map.now t c.args.raw.units c.args.raw.entries)) made c.analyse_entries.ensures

pub analyse_entries-requires-clause-rooted : goal.analyse_entries-requires-clause-rooted
analyse_entries-requires-clause-rooted c = c.requires.rooted

pub made_once-requires-clause-behind : goal.made_once-requires-clause-behind
made_once-requires-clause-behind c = rw c.as_slice.ensures c.requires.behind
