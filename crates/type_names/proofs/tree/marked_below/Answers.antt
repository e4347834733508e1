use Rattle.std.proofs.Common.{◌∙◌, ap, ℕ, Bool, false, List, length, replicate, sym, subst}
use Rattle.std.proofs.lemmas.List.{length-replicate}
use Rattle.type_names.specs.Tree.{IsPassedTo}
use Rattle.type_names.proofs.Subtrees.{below_is_from, none_marked, passed_none}
use Rattle.type_names.proofs.tree.marked_below.Goals as goal

pub pass_all-requires-clause-begun : goal.pass_all-requires-clause-begun
pass_all-requires-clause-begun c =
    let entries = c.args.entries.now in
    subst (λ (row : List Bool). IsPassedTo entries c.args.marks.now row (length entries)) (sym (c.in_ok-row.ensures ∙ ap (λ (n : ℕ). replicate n false) c.len.ensures))
    (passed_none entries c.args.marks.now (replicate (length entries) false) (length-replicate (length entries) false) (none_marked (length entries)))

pub returns-clause-exact : goal.returns-clause-exact
returns-clause-exact c = λ a. (
    let from = c.pass_all.ensures.each a in
    let below = below_is_from c.args.entries.now c.args.marks.now a c.requires.parents in
    ((λ t. below.0 (from.0 t)), (λ w. from.1 (below.1 w))))
