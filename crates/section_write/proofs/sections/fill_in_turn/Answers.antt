use Rattle.std.proofs.Common.{◌++◌, ◌∙◌, ap, arith, length, slice_index_or, sym, take, take_all}
use Rattle.std.proofs.lemmas.List.{get_or_default}
use Rattle.ds_base.specs.declared.fault.Part.TheVariants as parts
use Rattle.ds_base.proofs.Adding.{adds_more, adds_same, adds_whole, item_fits, next_item}
use Rattle.layout.specs.declared.table.Content.TheVariants as contents
use Rattle.layout.specs.declared.table.Section.{Section}
use Rattle.layout.specs.Sections.{content_bytes}
use Rattle.layout.proofs.SectionLengths.{layout_sizes}
use Rattle.section_write.specs.Runs.{run_bytes}
use Rattle.section_write.proofs.InTurn.{run_len}
use Rattle.section_write.proofs.sections.fill_in_turn.Goals as goal

pub add_section-at-requires-clause-fits : goal.add_section-at-requires-clause-fits
add_section-at-requires-clause-fits g c =
    let m = c.requires.measured in
    let layout = c.args.layout.now in
    let i = c.loop-section.section-index in
    let section : Section = slice_index_or c.args.sections.now i (record { part = parts.Header; content = contents.Entries }) in
    let is = get_or_default c.args.sections.now i (record { part = parts.Header; content = contents.Entries }) section c.loop-section-test.true in
    let before = c.loop-section.invariant m.graph m.measured in
    omega (
      arith,
      layout_sizes m.graph layout m.measured section.content,
      item_fits (λ (s : Section). content_bytes m.graph s.content) c.args.sections.now c.loop-section.section-index section c.loop-section-test.true,
      ap (λ (s : Section). length (content_bytes m.graph s.content)) is,
      before.size,
      before.behind,
      c.requires.size,
      run_len m.graph layout m.measured c.args.sections.now,
    )

pub loop-section-preserved : goal.loop-section-preserved
loop-section-preserved g c = λ graph measured.
    let sections = c.args.sections.now in
    let i = c.loop-section.section-index in
    let section : Section = slice_index_or sections i (record { part = parts.Header; content = contents.Entries }) in
    let is = get_or_default sections i (record { part = parts.Header; content = contents.Entries }) section c.loop-section-test.true in
    adds_same _ _ _ _ _ _
    (ap (λ (s : Section). run_bytes graph (take i sections) ++ content_bytes graph s.content) is ∙ sym (next_item (λ (s : Section). content_bytes graph s.content) sections i section c.loop-section-test.true))
    (adds_more _ _ _ _ _ _ _ _ (c.loop-section.invariant graph measured) (c.add_section-at.ensures graph measured))

pub returns : goal.returns
returns g c = record {
  bytes = λ graph measured.
      let sections = c.args.sections.now in
      adds_whole _ _ _ _ (c.requires.size ∙ run_len graph c.args.layout.now measured sections)
      (adds_same _ _ _ _ _ _ (ap (run_bytes graph) (take_all c.loop-section.section-index sections (omega (arith, c.loop-section-test.false)))) (c.loop-section.invariant graph measured));
}
