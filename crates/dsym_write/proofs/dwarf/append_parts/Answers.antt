use Rattle.std.proofs.Common.{arith, slice_index_or}
use Rattle.std.proofs.lemmas.List.{get_or_default}
use Rattle.ds_base.specs.declared.fault.Part.TheVariants as parts
use Rattle.layout.specs.declared.table.Content.TheVariants as contents
use Rattle.layout.specs.declared.table.Section.{Section}
use Rattle.dsym_write.proofs.Records.{records_more, total_step}
use Rattle.dsym_write.proofs.dwarf.append_parts.Goals as goal

pub loop-section-preserved : goal.loop-section-preserved
loop-section-preserved c =
    let w = c.loop-section.invariant in
    let none : Section = record { part = parts.Header; content = contents.Entries } in
    let sizes = c.args.layout.now in
    let i = c.loop-section.section-index in
    let p = slice_index_or c.args.sections.now i none in
    let is = get_or_default c.args.sections.now i none p c.loop-section-test.true in
    let more = total_step sizes c.args.sections.now i p c.section_size-size.result c.loop-section-test.true is c.section_size-size.ensures in
    record {
      put = records_more sizes c.args.sections.now i p c.section_size-size.result c.loop-section-test.true is c.section_size-size.ensures _ _ _ _ _ _ c.from-offset.ensures c.in_ok-append_sized.ensures w.put;
      above = omega (arith, w.above, more);
      small = omega (arith, w.small, more, c.from-offset.ensures);
    }
