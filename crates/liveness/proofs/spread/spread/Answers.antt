use Rattle.std.proofs.Common.{◌↔◌, ℕ, ◌∷◌, [], ◌++◌, length, arith, subst}
use Rattle.std.specs.List.{Contains}
use Rattle.std.proofs.lemmas.List.Elements.{Contains-push}
use Rattle.dwarf_types.specs.Live.{Needs}
use Rattle.liveness.specs.Marking.{Grown, Spread}
use Rattle.liveness.proofs.Elements.{all_below}
use Rattle.liveness.proofs.Marks.{marked_within}
use Rattle.liveness.proofs.NeedLists.{needs_within}
use Rattle.liveness.proofs.Spreading.{spread_more}
use Rattle.liveness.proofs.spread.spread.Goals as goal

pub find_needs-requires-clause-place : goal.find_needs-requires-clause-place
find_needs-requires-clause-place c =
    let before : Spread c.args.seen.now.entries c.loop-k.row (c.pop.new.self.items ++ c.in-Some.k ∷ []) = subst (Spread c.args.seen.now.entries c.loop-k.row) c.in-Some.ensures.items c.loop-k.invariant in
    let marked = marked_within c.loop-k.row c.in-Some.k (before.waits c.in-Some.k (Contains-push c.pop.new.self.items c.in-Some.k)) in
    omega (arith, marked, before.len)

pub mark_all-requires : goal.mark_all-requires
mark_all-requires c =
    let needs : (j : ℕ) → Contains c.find_needs.new.out.items j ↔ Needs c.args.seen.now.entries c.in-Some.k j = c.in_ok-find_needs.ensures in
    rw (c.deref.ensures.value, c.loop-k.invariant.len) (all_below (Needs c.args.seen.now.entries c.in-Some.k) c.find_needs.new.out.items (length c.args.seen.now.entries) needs (needs_within c.args.seen.now c.requires.sound c.in-Some.k))

pub loop-k-preserved : goal.loop-k-preserved
loop-k-preserved c =
    let before : Spread c.args.seen.now.entries c.loop-k.row (c.pop.new.self.items ++ c.in-Some.k ∷ []) = subst (Spread c.args.seen.now.entries c.loop-k.row) c.in-Some.ensures.items c.loop-k.invariant in
    let needs : (j : ℕ) → Contains c.find_needs.new.out.items j ↔ Needs c.args.seen.now.entries c.in-Some.k j = c.in_ok-find_needs.ensures in
    let grown = subst (Grown c.loop-k.row c.pop.new.self.items c.mark_all.new.row c.mark_all.new.work.items) c.deref.ensures.value c.in_ok-mark_all.ensures in
    spread_more c.args.seen.now.entries c.loop-k.row c.pop.new.self.items c.in-Some.k c.mark_all.new.row c.mark_all.new.work.items c.find_needs.new.out.items before needs grown
