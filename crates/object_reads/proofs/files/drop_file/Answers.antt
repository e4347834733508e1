use Rattle.std.proofs.Common.{ℕ, List, set, sym, subst, ◌∙◌}
use Rattle.object_reads.specs.Reading.{AreHeld}
use Rattle.object_reads.proofs.Holding.{held_without}
use Rattle.object_reads.proofs.files.drop_file.Goals as goal

pub returns-in_err-push-clause-held : goal.returns-in_err-push-clause-held
returns-in_err-push-clause-held c = λ source files lasts are.
    subst (λ (empty : List ℕ). AreHeld c.args.end source files (set c.args.left.now c.in-Some.n empty)) (sym (c.swap.ensures.x_after ∙ c.new-file.ensures))
    (held_without source files c.args.left.now c.args.last.now c.in-Some.n c.args.end _ lasts c.if-n-last.true c.if-last-n.true are)

pub returns-in_ok-push-clause-held : goal.returns-in_ok-push-clause-held
returns-in_ok-push-clause-held c = λ source files lasts are.
    subst (λ (empty : List ℕ). AreHeld c.args.end source files (set c.args.left.now c.in-Some.n empty)) (sym (c.swap.ensures.x_after ∙ c.new-file.ensures))
    (held_without source files c.args.left.now c.args.last.now c.in-Some.n c.args.end _ lasts c.if-n-last.true c.if-last-n.true are)
