use Rattle.std.proofs.Common.{◌∙◌, sym, arith}
use Rattle.type_names.specs.Tree.{numbers_above}
use Rattle.type_names.proofs.Scopes.{too_deep, walked_on, walked_out}
use Rattle.type_names.proofs.spell.push_scopes.Goals as goal

pub loop-left-preserved-in-Continue-1 : goal.loop-left-preserved-in-Continue-1
loop-left-preserved-in-Continue-1 c =
    rw c.in_ok-push.ensures.items (walked_on c.args.entries.now c.loop-left.left c.in-Some.a c.parent_of-left-in-Some.result c.loop-left.scopes.items (numbers_above c.args.entries.now c.args.k)
    c.requires.parents c.in-Some.is (sym c.parent_of-left-in-Some.ensures) (sym c.is_some.ensures ∙ c.if-is_some.true) c.loop-left.invariant)

pub loop-left-preserved : goal.loop-left-preserved
loop-left-preserved c =
    walked_out c.args.entries.now c.loop-left.left c.in-Some.a c.parent_of-left-in-Some.result c.loop-left.scopes.items (numbers_above c.args.entries.now c.args.k)
    c.in-Some.is (sym c.parent_of-left-in-Some.ensures) (sym c.is_some.ensures ∙ c.if-is_some.false) c.loop-left.invariant

pub returns-then-len-gt-MOST_SCOPES-clause-deep : goal.returns-then-len-gt-MOST_SCOPES-clause-deep
returns-then-len-gt-MOST_SCOPES-clause-deep c = λ is out. (
    too_deep c.args.entries.now c.loop-left.left c.loop-left.scopes.items (numbers_above c.args.entries.now c.args.k) out c.loop-left.invariant (omega (arith, c.len.ensures)))
