use Rattle.std.proofs.Common.{◌∙◌, arith, sym}
use Rattle.std.proofs.lemmas.Result.{err_from_is_err_and}
use Rattle.list_items.proofs.Turns.{list_starts, item_refused, list_ends, base_selected, default_refused, default_kept, behind_refused, span_kept, span_dropped, bytes_end}
use Rattle.list_items.proofs.list.read_items.Goals.{in-Base, in-Default+in_ok-item-in-Default+in_ok-push-in-Default, in-Span+in_ok-item-in-Span+then-not-is_empty+in_ok-push-in-Span, in-Span+in_ok-item-in-Span+else-not-is_empty}
use Rattle.list_items.proofs.list.read_items.Goals as goal

pub loop-init : goal.loop-init
loop-init g c = (c.requires.small, rw (c.left-left.ensures, c.new-items.ensures) (list_starts _ (g.B.Behind.behind c.args.behind.now) _ _ _))

pub returns-in_err-read_item : goal.returns-in_err-read_item
returns-in_err-read_item g c =
    let p = err_from_is_err_and c.from_residual.result c.from_residual.ensures.1 in
    rw (p.1, p.2) (item_refused _ (g.B.Behind.behind c.args.behind.now) _ c.loop.counter c.loop.items _ c.loop.cursor _ _ (omega arith) c.in_err-read_item.ensures.read c.loop.invariant.1)

pub returns-in-End : goal.returns-in-End
returns-in-End g c =
    list_ends _ (g.B.Behind.behind c.args.behind.now) _ c.loop.counter c.loop.items _ c.loop.cursor c.read_item.new.cursor _ (omega arith) (rw (← c.in-End.is) c.in_ok-read_item.ensures.read) c.loop.invariant.1

pub returns-in_err-item-in-Default : goal.returns-in_err-item-in-Default
returns-in_err-item-in-Default g c =
    let p = err_from_is_err_and c.from_residual-in_err-item-in-Default.result c.from_residual-in_err-item-in-Default.ensures.1 in
    rw (p.1, p.2) (default_refused _ (g.B.Behind.behind c.args.behind.now) _ c.loop.counter c.loop.items _ c.loop.cursor c.read_item.new.cursor _ _ _ (omega arith) (rw (← c.in-Default.is) c.in_ok-read_item.ensures.read) (rw c.place-place.ensures at c.in_err-item-in-Default.ensures.read) c.loop.invariant.1)

pub returns-in_err-item-in-Span : goal.returns-in_err-item-in-Span
returns-in_err-item-in-Span g c =
    let p = err_from_is_err_and c.from_residual-in_err-item-in-Span.result c.from_residual-in_err-item-in-Span.ensures.1 in
    rw (p.1, p.2) (behind_refused _ (g.B.Behind.behind c.args.behind.now) _ c.loop.counter c.loop.items _ c.in-Span.span c.loop.cursor c.read_item.new.cursor _ _ _ (omega arith) (rw (← c.in-Span.is) c.in_ok-read_item.ensures.read) (rw c.place-place.ensures at c.in_err-item-in-Span.ensures.read) c.loop.invariant.1)

pub loop-preserved : goal.loop-preserved
loop-preserved g c = elim c.match-branch-2.branch [
  | in-Base w ↦
      rw (w.cursor-is, w.base-is, w.items-is) (
        c.in_ok-read_item.ensures.small,
        base_selected _ (g.B.Behind.behind c.args.behind.now) _ c.loop.counter c.loop.items _ _ c.loop.cursor _ _ (omega arith) (rw (← w.in-Base.is) c.in_ok-read_item.ensures.read) c.loop.invariant.1,
      )
  | in-Default+in_ok-item-in-Default+in_ok-push-in-Default w ↦
      rw (w.cursor-is, w.base-is, w.items-is, w.in_ok-push-in-Default.ensures.ok) (
        w.in_ok-item-in-Default.ensures.small,
        default_kept _ (g.B.Behind.behind c.args.behind.now) _ c.loop.counter c.loop.items _ _ c.loop.cursor _ _ _ (omega arith) (rw (← w.in-Default.is) c.in_ok-read_item.ensures.read) (rw c.place-place.ensures at w.in_ok-item-in-Default.ensures.read) c.loop.invariant.1,
      )
  | in-Span+in_ok-item-in-Span+then-not-is_empty+in_ok-push-in-Span w ↦
      let some = sym w.is_empty.ensures ∙ w.if-not-is_empty.true in
      rw (w.cursor-is, w.base-is, w.items-is, w.in_ok-push-in-Span.ensures.ok) (
        w.in_ok-item-in-Span.ensures.small,
        span_kept _ (g.B.Behind.behind c.args.behind.now) _ c.loop.counter c.loop.items _ _ w.in-Span.span c.loop.cursor _ _ _ (omega arith) (rw (← w.in-Span.is) c.in_ok-read_item.ensures.read) (rw c.place-place.ensures at w.in_ok-item-in-Span.ensures.read) some c.loop.invariant.1,
      )
  | in-Span+in_ok-item-in-Span+else-not-is_empty w ↦
      let none = sym w.is_empty.ensures ∙ w.if-not-is_empty.false in
      rw (w.cursor-is, w.base-is, w.items-is) (
        w.in_ok-item-in-Span.ensures.small,
        span_dropped _ (g.B.Behind.behind c.args.behind.now) _ c.loop.counter c.loop.items _ _ w.in-Span.span c.loop.cursor _ _ _ (omega arith) (rw (← w.in-Span.is) c.in_ok-read_item.ensures.read) (rw c.place-place.ensures at w.in_ok-item-in-Span.ensures.read) none c.loop.invariant.1,
      )
]

pub returns : goal.returns
returns g c = rw c.fault.ensures (bytes_end _ (g.B.Behind.behind c.args.behind.now) _ c.loop.counter c.loop.items _ c.loop.cursor _ (omega arith) c.loop.invariant.1)
