use Rattle.std.proofs.Common.{◌≡◌, ◌++◌, ◌⊎◌, ◌↔◌, ℕ, List, ap, subst, ◌∙◌}
use Rattle.std.specs.List.{Contains}
use Rattle.std.specs.Option.{option_to_list}
use Rattle.liveness.specs.ChildTable.{IsKept}
use Rattle.liveness.proofs.NeedLists.{named_by, needs_are, own_needs}
use Rattle.liveness.proofs.needs.find_needs.Goals as goal

pub returns : goal.returns
returns c =
    let entries = c.args.entries.now in
    let e = c.entry-entry.result in
    let own : c.push_named.new.out.items ≡ own_needs e = c.in_ok-push_named.ensures ∙ ap (λ xs. xs ++ named_by e) (c.in_ok-push_parent.ensures ∙ ap (λ xs. xs ++ option_to_list e.parent) c.clear.ensures.items) in
    needs_are entries c.args.k e c.push_children.new.out.items c.entry-entry.ensures.stands (subst (λ (xs : List ℕ). (j : ℕ) → Contains c.push_children.new.out.items j ↔ (Contains xs j ⊎ IsKept entries c.args.k j)) own c.in_ok-push_children.ensures)
