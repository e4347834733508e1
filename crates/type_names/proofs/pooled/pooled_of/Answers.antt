use Rattle.std.proofs.Common.{◌≡◌, ◌∙◌, ◌&&◌, ◌||◌, Bool, ap, arith, length, is_some}
use Rattle.type_names.specs.Heads.{Object, is_head, is_in_head, is_live, is_pooled}
use Rattle.type_names.specs.Objects.{object_of}
use Rattle.type_names.specs.Tree.{is_marked, parent_of}
use Rattle.type_names.proofs.MarkRows.{row_more}
use Rattle.type_names.proofs.Pooling.{above_is, head_past}
use Rattle.type_names.proofs.pooled.pooled_of.Goals as goal

pub loop-i-preserved : goal.loop-i-preserved
loop-i-preserved c =
    let seen = c.args.seen.now in
    let o : Object = object_of seen c.args.live.now in
    let i = c.loop-i.i in
    let above = above_is seen.entries (is_head o) c.args.heads.now c.in_ok-above.above i c.requires.heads (head_past o) (c.in_ok-above.ensures.exact i) in
    let is : c.is_pooled-pooled.result ≡ is_pooled o i =
    c.is_pooled-pooled.ensures ∙ ap (λ (b : Bool). (is_live o i && b) || (is_some (parent_of seen.entries i) && is_marked c.in_ok-above.above i)) (c.requires.in_heads.each i (omega arith))
    ∙ ap (λ (b : Bool). (is_live o i && is_in_head o i) || (is_some (parent_of seen.entries i) && b)) above in
    rw c.set_if.ensures (row_more (is_pooled o) (length seen.entries) c.loop-i.row i c.is_pooled-pooled.result c.loop-i.invariant (omega arith) is)
