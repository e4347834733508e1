use Rattle.std.proofs.Common.{◌-◌, ◌+◌, sym, refl, arith}
use Rattle.accel_tables.proofs.Leading.{has_none, has_text, no_node, none_left, none_waits}
use Rattle.accel_tables.proofs.calling.called.Goals as goal

pub returns-in_default : goal.returns-in_default
returns-in_default c = none_waits (17 - c.loop.counter) c.args.graph.now c.args.at c.loop.waiting _ (c.in_default.ensures.none.0 refl) c.loop.invariant

pub loop-preserved-in_default-node_at : goal.loop-preserved-in_default-node_at
loop-preserved-in_default-node_at c =
    no_node (17 - c.loop.counter) (17 - (c.loop.counter + 1)) c.args.graph.now c.args.at c.loop.waiting c.pop.new.self c.in-Some.next _ (omega (arith, c.loop-test.true)) c.in-Some.ensures.last (sym c.in_default-node_at.ensures) c.loop.invariant

pub returns-in-Some-text_at : goal.returns-in-Some-text_at
returns-in-Some-text_at c =
    has_text (17 - c.loop.counter) (17 - (c.loop.counter + 1)) c.args.graph.now c.args.at c.loop.waiting c.pop.new.self c.in-Some.next c.in-Some-node_at.node.now c.in-Some-text_at.text.now _ (omega (arith, c.loop-test.true)) c.in-Some.ensures.last
    (sym c.in-Some-node_at.ensures) (sym c.in-Some-text_at.ensures) c.loop.invariant

pub loop-preserved : goal.loop-preserved
loop-preserved c =
    has_none (17 - c.loop.counter) (17 - (c.loop.counter + 1)) c.args.graph.now c.args.at c.loop.waiting c.pop.new.self c.push_leads.new.waiting c.in-Some.next c.in-Some-node_at.node.now _ (omega (arith, c.loop-test.true)) c.in-Some.ensures.last
    (sym c.in-Some-node_at.ensures) (sym c.in_default-text_at.ensures) c.in_ok-push_leads.ensures c.loop.invariant

pub returns : goal.returns
returns c = none_left (17 - c.loop.counter) c.args.graph.now c.args.at c.loop.waiting _ (omega (arith, c.loop-test.false)) c.loop.invariant
