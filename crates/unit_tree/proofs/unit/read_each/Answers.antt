use Rattle.std.proofs.Common.{[], ◌∷◌, ℕ, arith}
use Rattle.std.proofs.lemmas.List.{length-append}
use Rattle.std.proofs.lemmas.Result.{err_from_is_err_and}
use Rattle.ds_base.proofs.Refusals.{refused_gives, refused_from_gives}
use Rattle.dwarf_types.specs.declared.entry.InUnit.{InUnit}
use Rattle.dwarf_types.specs.SectionBytes.{bytes_in}
use Rattle.unit_tree.specs.Bounds.{parsed_seen}
use Rattle.unit_tree.specs.declared.profile.Profile.TheVariants.{Input}
use Rattle.unit_tree.specs.Entry.{Parsed}
use Rattle.unit_tree.proofs.Rising.{unit_passes}
use Rattle.unit_tree.proofs.UnitLoop.{section_ends, unit_refused, unit_more}
use Rattle.unit_tree.proofs.unit.read_each.Goals as goal

pub returns-in_err-unit : goal.returns-in_err-unit
returns-in_err-unit c =
    let p = err_from_is_err_and c.from_residual.result c.from_residual.ensures.1 in
    let view : InUnit × ℕ → (InUnit × Parsed) × ℕ = λ unit. ((unit.0, parsed_seen c.next_unit.new.parsed), unit.1) in
    let r = refused_from_gives view _ _ c.in_err-unit.ensures.read in
    let h = unit_refused (bytes_in c.args.sections.now) c.len-number.result c.loop-place.units (parsed_seen c.loop-place.parsed) c.loop-place.place _ _ c.loop-place-test.true c.len-number.ensures r c.loop-place.invariant.4 in
    record { read = rw (p.1, p.2) (search (refused_gives, h)) }

pub loop-place-smaller : goal.loop-place-smaller
loop-place-smaller c =
    let passes = unit_passes Input (bytes_in c.args.sections.now) c.len-number.result (parsed_seen c.loop-place.parsed) c.loop-place.place _ c.in_ok-unit.ensures.read in
    omega (arith, passes.some, c.loop-place-test.true)

pub loop-place-preserved : goal.loop-place-preserved
loop-place-preserved c =
    let passes = unit_passes Input (bytes_in c.args.sections.now) c.len-number.result (parsed_seen c.loop-place.parsed) c.loop-place.place _ c.in_ok-unit.ensures.read in
    let goes = unit_more (bytes_in c.args.sections.now) c.len-number.result c.loop-place.units (parsed_seen c.loop-place.parsed) _ c.loop-place.place _ _ _ c.loop-place-test.true c.len-number.ensures c.in_ok-unit.ensures.read c.loop-place.invariant.4 in (
      c.in_ok-unit.ensures.inside,
      rw c.in_ok-push.ensures.ok (omega (arith, length-append c.loop-place.units (c.in_ok-unit.unit ∷ []), c.loop-place.invariant.1, passes.some)),
      c.in_ok-unit.ensures.ready,
      c.in_ok-unit.ensures.tables,
      rw c.in_ok-push.ensures.ok goes,
    )

pub returns : goal.returns
returns c = record { read = section_ends (bytes_in c.args.sections.now) c.loop-place.units (parsed_seen c.loop-place.parsed) c.loop-place.place _ (omega (arith, c.loop-place-test.false, c.loop-place.invariant.0)) c.loop-place.invariant.4 }
