use Rattle.std.proofs.Common.{ap, arith, map, refl, ◌∙◌}
use Rattle.std.proofs.lemmas.Result.{err_from_is_err_and}
use Rattle.dwarf_types.specs.Raw.{places_of}
use Rattle.dwarf_types.specs.SectionBytes.{bytes_in}
use Rattle.unit_tree.specs.declared.profile.Profile.TheVariants.{Input}
use Rattle.unit_tree.specs.Targets.{number_at}
use Rattle.unit_tree.proofs.InsideLaws.{read_inside}
use Rattle.unit_tree.proofs.Noted.{units_noted}
use Rattle.unit_tree.proofs.Resolving.{refused_last}
use Rattle.unit_tree.proofs.Rising.{units_rise}
use Rattle.unit_tree.proofs.Soundness.{units_sound}
use Rattle.unit_tree.proofs.unit.read_resolved_units.Goals as goal

pub resolve-requires-clause-rising : goal.resolve-requires-clause-rising
resolve-requires-clause-rising c =
    let r = units_rise Input (bytes_in c.args.sections.now) _ c.in_ok-units.ensures.read in
    rw c.finish-entries.ensures r.rising

pub resolve-requires-clause-few : goal.resolve-requires-clause-few
resolve-requires-clause-few c =
    let sound = units_sound (bytes_in c.args.sections.now) _ _ c.in_ok-units.ensures.read in
    rw c.finish-entries.ensures (omega (arith, sound.few))

pub returns-clause-sound : goal.returns-clause-sound
returns-clause-sound c = rw c.finish-entries.ensures (units_sound (bytes_in c.args.sections.now) _ _ c.in_ok-units.ensures.read)

pub returns-clause-inside : goal.returns-clause-inside
returns-clause-inside c info abbrevs =
    rw c.finish-entries.ensures (read_inside (bytes_in c.args.sections.now) _ _ c.requires.info info abbrevs c.in_ok-units.ensures.read (rw (c.finish-entries.ensures, c.as_slice.ensures) at c.in_ok-numbers.ensures.exact))

pub returns-clause-numbers : goal.returns-clause-numbers
returns-clause-numbers c =
    let noted = units_noted (bytes_in c.args.sections.now) _ c.in_ok-units.ensures.read in
    let found = rw (c.finish-entries.ensures, c.as_slice.ensures) at c.in_ok-numbers.ensures.numbers in
    rw c.finish-entries.ensures (found ∙ ap (map (number_at (places_of _))) noted)

pub returns-in_err-numbers-clause-exact : goal.returns-in_err-numbers-clause-exact
returns-in_err-numbers-clause-exact c =
    let p = err_from_is_err_and c.from_residual-in_err-numbers.result c.from_residual-in_err-numbers.ensures.1 in
    let refused = rw (c.finish-entries.ensures, c.as_slice.ensures) at c.in_err-numbers.ensures.exact in
    rw (p.1, p.2) (refused_last (bytes_in c.args.sections.now) _ _ _ _ c.in_ok-units.ensures.read refl refused)
