use Rattle.std.proofs.Common.{◌∙◌, ℕ, sym, arith, length}
use Rattle.type_names.specs.Heads.{Object, entries_of, is_common, is_in_named_head, is_named_head}
use Rattle.type_names.specs.Objects.{object_of}
use Rattle.type_names.proofs.Lineages.{inside_more}
use Rattle.type_names.proofs.MarkRows.{row_more}
use Rattle.type_names.proofs.heads.named_of.Goals as goal

pub is_within-inside-requires : goal.is_within-inside-requires
is_within-inside-requires c x is =
    let above = c.requires.parents c.loop-i.i x c.entry-entry.result c.entry-entry.ensures.stands (sym c.parent.ensures ∙ is) in
    omega (arith, above, c.loop-i.invariant.inside.len)

pub is_common-means_same-requires-clause-inside : goal.is_common-means_same-requires-clause-inside
is_common-means_same-requires-clause-inside c =
    c.is_within-inside.ensures ∙ inside_more c.args.seen.now.entries (is_named_head (object_of c.args.seen.now c.args.live.now)) c.loop-i.in_named c.loop-i.i c.entry-entry.result c.is_named_head-head.result c.parent.result c.requires.parents c.entry-entry.ensures.stands c.loop-i.invariant.inside.each c.is_named_head-head.ensures c.parent.ensures

pub loop-i-preserved : goal.loop-i-preserved
loop-i-preserved c =
    let o : Object = object_of c.args.seen.now c.args.live.now in
    let n : ℕ = length (entries_of o) in
    let i = c.loop-i.i in
    let inside_is = c.is_within-inside.ensures ∙ inside_more c.args.seen.now.entries (is_named_head (object_of c.args.seen.now c.args.live.now)) c.loop-i.in_named c.loop-i.i c.entry-entry.result c.is_named_head-head.result c.parent.result c.requires.parents c.entry-entry.ensures.stands c.loop-i.invariant.inside.each c.is_named_head-head.ensures c.parent.ensures in
    record {
      heads = rw c.set_if.ensures (row_more (is_named_head o) n c.loop-i.named i c.is_named_head-head.result c.loop-i.invariant.heads (omega arith) c.is_named_head-head.ensures);
      inside = rw c.set_if-in-loop-i.ensures (row_more (is_in_named_head o) n c.loop-i.in_named i c.is_within-inside.result c.loop-i.invariant.inside (omega arith) inside_is);
      means_same = rw c.set_if-in-loop-i-2.ensures (row_more (is_common o) n c.loop-i.common i c.is_common-means_same.result c.loop-i.invariant.means_same (omega arith) c.is_common-means_same.ensures);
    }
