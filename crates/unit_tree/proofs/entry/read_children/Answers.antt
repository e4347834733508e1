use Rattle.std.proofs.Common.{sym, ◌∙◌}
use Rattle.std.proofs.lemmas.Bool.{eq-eqb, ne_eqb}
use Rattle.std.proofs.lemmas.Result.{err_from_is_err_and}
use Rattle.unit_tree.specs.Bounds.{parsed_seen}
use Rattle.unit_tree.specs.Entry.{Walk}
use Rattle.unit_tree.proofs.ChildLoop.{all_closed, begins, child_more, child_refused, fewer_left, unclosed}
use Rattle.ds_base.proofs.Onward.{small_kept}
use Rattle.unit_tree.proofs.Rising.{child_further}
use Rattle.ds_base.proofs.Refusals.{refused_is, refused_from}
use Rattle.unit_tree.proofs.entry.read_children.Goals as goal

pub loop-context-init : goal.loop-context-init
loop-context-init c = (c.requires.small, c.requires.ready, c.requires.numbers, begins _ _ _ _ _)

pub returns-then-left-eq0-clause-read : goal.returns-then-left-eq0-clause-read
returns-then-left-eq0-clause-read c =
    rw c.fault.ensures (unclosed _ _ _ (parsed_seen c.loop-context.parsed, c.loop-context.lists) c.loop-context.cursor _ (sym c.are_closed.ensures ∙ c.loop-context-test.true) (eq-eqb _ _ (sym c.left.ensures ∙ c.if-left-eq0.true)) c.loop-context.invariant.3)

pub returns-in_err-read_child-clause-read : goal.returns-in_err-read_child-clause-read
returns-in_err-read_child-clause-read c =
    let p = err_from_is_err_and c.from_residual.result c.from_residual.ensures.1 in
    let view : Unit {0} → Walk = λ u. (parsed_seen c.read_child.new.parsed, c.read_child.new.lists) in
    let r = refused_from view _ _ _ c.in_err-read_child.ensures.read in
    let h = child_refused _ _ _ (parsed_seen c.loop-context.parsed, c.loop-context.lists) c.loop-context.cursor _ _ (sym c.are_closed.ensures ∙ c.loop-context-test.true) (ne_eqb _ _ (rw c.left.ensures at c.if-left-eq0.false)) r c.loop-context.invariant.3 in
    rw (p.1, p.2) (search (refused_is, h))

pub loop-context-smaller : goal.loop-context-smaller
loop-context-smaller c =
    fewer_left c.loop-context.cursor c.read_child.new.cursor (child_further _ _ _ _ c.loop-context.cursor _ c.in_ok-read_child.ensures.read) (ne_eqb _ _ (rw c.left.ensures at c.if-left-eq0.false))

pub loop-context-preserved : goal.loop-context-preserved
loop-context-preserved c =
    let f = child_further _ _ _ _ c.loop-context.cursor _ c.in_ok-read_child.ensures.read in
    let some = ne_eqb _ _ (rw c.left.ensures at c.if-left-eq0.false) in (
      small_kept _ _ f.onward c.loop-context.invariant.0,
      c.in_ok-read_child.ensures.ready,
      c.in_ok-read_child.ensures.numbers,
      child_more _ _ _ (parsed_seen c.loop-context.parsed, c.loop-context.lists) c.loop-context.cursor _ _ (sym c.are_closed.ensures ∙ c.loop-context-test.true) some c.in_ok-read_child.ensures.read (fewer_left c.loop-context.cursor c.read_child.new.cursor f some) c.loop-context.invariant.3,
    )

pub returns-clause-read : goal.returns-clause-read
returns-clause-read c = all_closed _ _ _ (parsed_seen c.loop-context.parsed, c.loop-context.lists) c.loop-context.cursor _ (sym c.are_closed.ensures ∙ c.loop-context-test.false) c.loop-context.invariant.3
