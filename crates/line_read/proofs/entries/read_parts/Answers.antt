use Rattle.std.proofs.lemmas.Result.{err_from_is_err_and}
use Rattle.dwarf_types.specs.SectionBytes.{bytes_in}
use Rattle.line_read.specs.declared.formats.EntryItem.TheVariants as items
use Rattle.line_read.specs.declared.formats.TextForm.TheVariants as texts
use Rattle.line_read.proofs.EntryLoop.{parts_more, parts_refused}
use Rattle.line_read.proofs.entries.read_parts.Goals as goal

pub returns-in_err-read_item : goal.returns-in_err-read_item
returns-in_err-read_item c =
    let p = err_from_is_err_and c.from_residual.result c.from_residual.ensures.1 in
    rw (p.1, p.2) (parts_refused c.args.header (bytes_in c.args.sections.now) c.args.format.now c.loop-item.item-index (items.Path texts.Inline) c.loop-item.parts c.loop-item.cursor _ _ c.loop-item-test.true c.in_err-read_item.ensures c.loop-item.invariant)

pub loop-item-preserved : goal.loop-item-preserved
loop-item-preserved c =
    parts_more c.args.header (bytes_in c.args.sections.now) c.args.format.now c.loop-item.item-index (items.Path texts.Inline) c.loop-item.parts _ c.loop-item.cursor _ _ c.loop-item-test.true c.in_ok-read_item.ensures c.loop-item.invariant
