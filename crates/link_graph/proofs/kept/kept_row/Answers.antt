use Rattle.std.proofs.Common.{◌≡◌, ◌∙◌, arith, length, subst}
use Rattle.dwarf_types.specs.Kept.{kept_of}
use Rattle.type_names.specs.Rows.{IsRowTo}
use Rattle.type_names.specs.Tree.{is_marked}
use Rattle.type_names.proofs.MarkRows.{row_more}
use Rattle.link_graph.proofs.KeptRows.{kept_more, kept_row_is}
use Rattle.link_graph.proofs.kept.kept_row.Goals as goal

pub loop-i-preserved : goal.loop-i-preserved
loop-i-preserved c =
    let entries = c.args.entries.now in
    let live = c.args.live.now in
    let merged = c.args.merged.now in
    let i = c.loop-i.i in
    let is : c.is_kept-kept.result ≡ is_marked (kept_of entries live merged) i =
    c.is_kept-kept.ensures ∙ kept_more entries live merged c.in_ok-plain.plain c.in_ok-above.above i c.entry.result c.entry.ensures.stands c.requires.live c.in_ok-plain.ensures (c.in_ok-above.ensures.exact i) in
    rw c.set_if.ensures (row_more (is_marked (kept_of entries live merged)) (length entries) c.loop-i.row i c.is_kept-kept.result c.loop-i.invariant (omega arith) is)

pub returns : goal.returns
returns c =
    let entries = c.args.entries.now in
    let live = c.args.live.now in
    let merged = c.args.merged.now in
    let all : c.loop-i.i ≡ length entries = omega arith in
    kept_row_is entries live merged c.loop-i.row (subst (IsRowTo (is_marked (kept_of entries live merged)) (length entries) c.loop-i.row) all c.loop-i.invariant)
