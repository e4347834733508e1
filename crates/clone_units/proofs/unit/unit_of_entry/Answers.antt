use Rattle.std.proofs.Common.{◌<◌, ℕ, List, length, slice_get, sym, ap, subst, ◌∙◌}
use Rattle.std.specs.List.{All}
use Rattle.std.proofs.lemmas.Option.{slice_get_within}
use Rattle.dwarf_types.specs.declared.address.Span.{Span}
use Rattle.dwarf_types.specs.LinkedGraph.{code_of_unit}
use Rattle.clone_values.specs.Images.{NamesAmong}
use Rattle.clone_units.specs.Pieces.{object_in}
use Rattle.clone_units.specs.Units.{unit_with}
use Rattle.clone_units.proofs.Named.{all_among}
use Rattle.clone_units.proofs.unit.unit_of_entry.Goals as goal

pub ranges_of-requires-clause-unit : goal.ranges_of-requires-clause-unit
ranges_of-requires-clause-unit c =
    let e = c.requires.sound.entries c.args.k c.entry_of.result c.entry_of.ensures in
    subst (λ (u : ℕ). u < length c.args.own.now.units) (sym c.unit-u.ensures) (slice_get_within c.args.own.now.units c.entry_of.result.unit e.unit e.its_unit)

pub unit_of-requires : goal.unit_of-requires
unit_of-requires c =
    let e = c.requires.sound.entries c.args.k c.entry_of.result c.entry_of.ensures in
    subst (λ (u : ℕ). u < length c.args.own.now.units) (sym c.unit-u.ensures) (slice_get_within c.args.own.now.units c.entry_of.result.unit e.unit e.its_unit)

pub new-requires-clause-among : goal.new-requires-clause-among
new-requires-clause-among c = subst (λ (count : ℕ). All (NamesAmong count) c.args.own.now.entries) (sym c.requires.images) (all_among c.args.own.now c.requires.sound)

pub returns : goal.returns
returns c =
    let code = c.in_ok-ranges.ensures ∙ ap (code_of_unit (object_in c.args.own.now c.args.plain.now)) c.unit-u.ensures in
    record {
      entry = c.entry_of.result;
      stands = c.entry_of.ensures;
      unit = c.unit_of.result.now;
      its_unit = ap (slice_get c.args.own.now.units) (sym c.unit-u.ensures) ∙ c.unit_of.ensures;
      is = c.new.ensures ∙ ap (λ (spans : List Span). unit_with c.args.own.now c.args.images.now c.unit_of.result.now spans c.args.origins.now) code;
    }
