use Rattle.std.proofs.Common.{true, Ok, Err, length, refl, ap, ◌∙◌}
use Rattle.std.specs.List.{sum_by}
use Rattle.std.proofs.lemmas.Result.{err_from_is_err_and}
use Rattle.dwarf_types.specs.declared.analysis.Analysis.{Analysis}
use Rattle.unit_drafts.specs.Shaped.{IsShaped}
use Rattle.unit_drafts.proofs.Graphs.{shape_lent}
use Rattle.link_core.proofs.Bundling.{drafted, drafts_refused, shape_refused}
use Rattle.link_core.proofs.link.link_marked.Goals as goal

pub returns-in_err-shaped : goal.returns-in_err-shaped
returns-in_err-shaped g c =
    let p = err_from_is_err_and c.from_residual.result c.from_residual.ensures.1 in
    rw (p.1, p.2) (shape_refused true c.args.program.now.image.now c.args.front c.args.seen c.args.marks.now c.in_err-shaped.field-0.0
    (shape_lent true c.args.seen c.as_slice-3.result.now c.args.marks.now (Err c.in_err-shaped.field-0.0) c.as_slice-3.ensures c.in_err-shaped.ensures))

pub returns-in_err-drafts : goal.returns-in_err-drafts
returns-in_err-drafts g c =
    let p = err_from_is_err_and c.from_residual-in_err-drafts.result c.from_residual-in_err-drafts.ensures.1 in
    let shaped : IsShaped true c.args.seen c.args.marks.now c.in_ok-shaped.shaped = shape_lent true c.args.seen c.as_slice-3.result.now c.args.marks.now (Ok c.in_ok-shaped.shaped) c.as_slice-3.ensures c.in_ok-shaped.ensures in
    rw (p.1, p.2) (drafts_refused true c.args.program.now.image.now c.args.front c.args.seen c.args.marks.now c.in_ok-shaped.shaped shaped c.in_err-drafts.field-0.0 c.in_err-drafts.ensures)

pub file_of-requires-clause-drafted : goal.file_of-requires-clause-drafted
file_of-requires-clause-drafted g c κs within =
    let seen = c.args.seen in
    let marks = c.args.marks.now in
    let shaped : IsShaped true seen marks c.in_ok-shaped.shaped = shape_lent true seen c.as_slice-3.result.now marks (Ok c.in_ok-shaped.shaped) c.as_slice-3.ensures c.in_ok-shaped.ensures in (
      true,
      seen,
      marks,
      drafted true seen c.as_slice-4.result.now marks c.in_ok-shaped.shaped shaped _ c.in_ok-drafts.ensures c.as_slice-4.ensures c.in_ok-frames.ensures
          c.len-objects.ensures (c.count_entries-entries.ensures ∙ ap (sum_by (λ (object : Analysis). length object.entries)) c.as_slice.ensures) c.count_live-live.ensures refl refl refl,
    )

pub returns : goal.returns
returns g c =
    let seen = c.args.seen in
    let marks = c.args.marks.now in
    let shaped : IsShaped true seen marks c.in_ok-shaped.shaped = shape_lent true seen c.as_slice-3.result.now marks (Ok c.in_ok-shaped.shaped) c.as_slice-3.ensures c.in_ok-shaped.ensures in
    c.file_of.ensures true seen marks (drafted true seen c.as_slice-4.result.now marks c.in_ok-shaped.shaped shaped _ c.in_ok-drafts.ensures c.as_slice-4.ensures c.in_ok-frames.ensures
    c.len-objects.ensures (c.count_entries-entries.ensures ∙ ap (sum_by (λ (object : Analysis). length object.entries)) c.as_slice.ensures) c.count_live-live.ensures refl refl refl)
