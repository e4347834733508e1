use Rattle.std.proofs.Common.{ℕ, Bool, false, List, [], length, replicate, ap, subst, ◌∙◌}
use Rattle.std.proofs.lemmas.List.{length-replicate}
use Rattle.dwarf_types.specs.Live.{IsRoot}
use Rattle.liveness.specs.Marking.{Grown}
use Rattle.liveness.proofs.Elements.{all_below}
use Rattle.liveness.proofs.NeedLists.{parents_stand_before}
use Rattle.liveness.proofs.RootTests.{root_within}
use Rattle.liveness.proofs.Spreading.{spread_done, spread_first}
use Rattle.liveness.proofs.spread.live.Goals as goal

pub roots_of-requires-clause-parents : goal.roots_of-requires-clause-parents
roots_of-requires-clause-parents c = parents_stand_before c.args.seen.now c.requires

pub mark_all-requires : goal.mark_all-requires
mark_all-requires c =
    rw (c.deref.ensures.value, c.in_ok-row.ensures, c.len.ensures, length-replicate (length c.args.seen.now.entries) false) (all_below (IsRoot c.args.seen.now.entries) c.in_ok-roots_of.field-0.items (length c.args.seen.now.entries) c.in_ok-roots_of.ensures (root_within c.args.seen.now.entries))

pub children_of-requires-clause-parents : goal.children_of-requires-clause-parents
children_of-requires-clause-parents c = parents_stand_before c.args.seen.now c.requires

pub spread-requires-clause-begun : goal.spread-requires-clause-begun
spread-requires-clause-begun c =
    let entries = c.args.seen.now.entries in
    let marked : Grown c.in_ok-row.row c.new-work.result.items c.mark_all.new.row c.mark_all.new.work.items c.in_ok-roots_of.field-0.items =
    subst (Grown c.in_ok-row.row c.new-work.result.items c.mark_all.new.row c.mark_all.new.work.items) c.deref.ensures.value c.in_ok-mark_all.ensures in
    let grown : Grown (replicate (length entries) false) [] c.mark_all.new.row c.mark_all.new.work.items c.in_ok-roots_of.field-0.items =
    subst (λ (work : List ℕ). Grown (replicate (length entries) false) work c.mark_all.new.row c.mark_all.new.work.items c.in_ok-roots_of.field-0.items) c.new-work.ensures.items
    (subst (λ (row : List Bool). Grown row c.new-work.result.items c.mark_all.new.row c.mark_all.new.work.items c.in_ok-roots_of.field-0.items) (c.in_ok-row.ensures ∙ ap (λ n. replicate n false) c.len.ensures) marked) in
    spread_first entries c.mark_all.new.row c.mark_all.new.work.items c.in_ok-roots_of.field-0.items c.in_ok-roots_of.ensures grown

pub returns-clause-exact : goal.returns-clause-exact
returns-clause-exact c = spread_done c.args.seen.now.entries c.spread.new.row c.in_ok-spread.ensures
