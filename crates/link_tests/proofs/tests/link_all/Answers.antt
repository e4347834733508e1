use Rattle.std.proofs.Common.{◌<◌, ℕ, Option, length, sym, subst}
use Rattle.std.specs.List.{All}
use Rattle.std.specs.Prelude.{IfSome}
use Rattle.std.proofs.lemmas.Result.{IfOk-weaker}
use Rattle.link_tests.proofs.tests.link_all.Goals as goal

pub link_left-linked-requires-clause-held : goal.link_left-linked-requires-clause-held
link_left-linked-requires-clause-held g c κs within =
    IfOk-weaker c.new-left.result _ _ (λ it h. subst (λ (n : ℕ). All (λ (k : Option ℕ). IfSome k (λ m. m < n)) c.args.source.now) (sym h.long) c.requires.held) c.new-left.ensures

pub link_left-linked-requires-clause-files : goal.link_left-linked-requires-clause-files
link_left-linked-requires-clause-files g c κs within = IfOk-weaker c.new-left.result _ _ (λ it h. (c.args.made.files, h)) c.new-left.ensures
