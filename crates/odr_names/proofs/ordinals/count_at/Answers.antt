use Rattle.std.proofs.Common.{◌≡◌, ◌<◌, ◌+◌, ◌-◌, ℕ, length, get_or, ap, sym, subst, ◌∙◌, arith}
use Rattle.std.proofs.lemmas.Bool.{both_ways}
use Rattle.std.proofs.lemmas.List.{get_or_default}
use Rattle.std.proofs.lemmas.Option.{same_Some, slice_get_within}
use Rattle.odr_names.specs.declared.ordinals.Sibling.{Sibling}
use Rattle.odr_names.specs.Twins.{IsNewest, IsWalked, cell_of, twins_before}
use Rattle.type_names.specs.Heads.{Object, entries_of}
use Rattle.type_names.specs.Objects.{object_of}
use Rattle.odr_names.proofs.Counting.{twins_few}
use Rattle.odr_names.proofs.Siblings.{none_taken, taken, walked_begun, walked_more}
use Rattle.odr_names.proofs.ordinals.count_at.Goals as goal

pub loop-init : goal.loop-init
loop-init c =
    let o : Object = object_of c.args.seen.now c.args.live.now in
    let n = c.args.object in
    let ranks = c.args.ranks.now in
    let here = c.rank_at-here.result in
    let newest = c.args.chains.now.newest.items in
    let cell = c.cell_of.result in
    let within : cell < length newest = omega (arith, c.cell_of.ensures.within, c.len.ensures) in
    let len : c.len.result ≡ length newest = omega (arith, c.len.ensures) in
    let is : cell ≡ cell_of (length newest) here = c.cell_of.ensures.cell ∙ ap (λ (cells : ℕ). cell_of cells here) len in
    let link : c.index-j.result.now ≡ get_or newest cell 0 = c.index-j.ensures ∙ get_or_default newest cell c.index-j.result.now 0 within in
    walked_begun n o ranks (length newest) here c.index-j.result.now c.args.i c.requires.siblings c.rank_at-here.ensures
    (subst (λ (d : ℕ). IsNewest ranks (length newest) d c.args.i c.index-j.result.now) is (subst (IsNewest ranks (length newest) cell c.args.i) (sym link) (c.requires.chained.newest cell within)))

pub overflow_add-result : goal.overflow_add-result
overflow_add-result c =
    let o : Object = object_of c.args.seen.now c.args.live.now in
    let n = c.args.object in
    let ranks = c.args.ranks.now in
    let here = c.rank_at-here.result in
    let newest = c.args.chains.now.newest.items in
    let other = c.rank_at-other.result in
    let before = c.args.chains.now.before.items in
    let k = c.loop.j - 1 in
    let below : k < c.args.i = omega (arith, c.loop.invariant.le, c.if-j-eq0.false) in
    let it = c.requires.siblings.each k other c.rank_at-other.ensures in
    let few = twins_few n o other.number in
    let is = c.requires.counted.each k other below c.rank_at-other.ensures in
    omega (arith, few, is, c.requires.few, slice_get_within (entries_of o) other.number it.entry it.stands)

pub returns-then-are_ranked_twins : goal.returns-then-are_ranked_twins
returns-then-are_ranked_twins c = λ r at_r. (
    let o : Object = object_of c.args.seen.now c.args.live.now in
    let n = c.args.object in
    let ranks = c.args.ranks.now in
    let here = c.rank_at-here.result in
    let newest = c.args.chains.now.newest.items in
    let other = c.rank_at-other.result in
    let before = c.args.chains.now.before.items in
    let k = c.loop.j - 1 in
    let below : k < c.args.i = omega (arith, c.loop.invariant.le, c.if-j-eq0.false) in
    subst (λ (r : Sibling). get_or c.args.counts.now other.number 0 + 1 ≡ twins_before n o r.number) (same_Some here r (sym c.rank_at-here.ensures ∙ at_r))
    (taken n o ranks c.args.counts.now here other k c.args.i c.requires.siblings c.rank_at-here.ensures c.rank_at-other.ensures below (c.are_ranked_twins.ensures.0 c.if-are_ranked_twins.true)
    (λ m s from under at_m. c.loop.invariant.differ m s (omega (arith, from)) under at_m) c.requires.counted))

pub loop-preserved : goal.loop-preserved
loop-preserved c =
    let o : Object = object_of c.args.seen.now c.args.live.now in
    let n = c.args.object in
    let ranks = c.args.ranks.now in
    let here = c.rank_at-here.result in
    let newest = c.args.chains.now.newest.items in
    let other = c.rank_at-other.result in
    let before = c.args.chains.now.before.items in
    let k = c.loop.j - 1 in
    let below : k < c.args.i = omega (arith, c.loop.invariant.le, c.if-j-eq0.false) in
    let its = c.requires.chained.before k other below c.rank_at-other.ensures in
    let link : c.index-j-in-loop.result.now ≡ get_or before k 0 = c.index-j-in-loop.ensures ∙ get_or_default before k c.index-j-in-loop.result.now 0 (omega (arith, below, c.requires.chained.len)) in
    let back : c.loop.j ≡ k + 1 = omega (arith, c.if-j-eq0.false) in
    walked_more n o ranks (length newest) here other k c.index-j-in-loop.result.now c.args.i c.requires.siblings c.rank_at-here.ensures c.rank_at-other.ensures
    (λ twins. both_ways _ c.if-are_ranked_twins.false (c.are_ranked_twins.ensures.1 twins)) (subst (IsNewest ranks (length newest) (cell_of (length newest) other) k) (sym link) its)
    (subst (λ (j : ℕ). IsWalked n o ranks (length newest) here j c.args.i) back c.loop.invariant)

pub returns-then-j-eq0 : goal.returns-then-j-eq0
returns-then-j-eq0 c = λ r at_r. (
    let o : Object = object_of c.args.seen.now c.args.live.now in
    let n = c.args.object in
    let ranks = c.args.ranks.now in
    let here = c.rank_at-here.result in
    let newest = c.args.chains.now.newest.items in
    subst (λ (r : Sibling). 0 ≡ twins_before n o r.number) (same_Some here r (sym c.rank_at-here.ensures ∙ at_r))
    (none_taken n o ranks here c.args.i c.requires.siblings c.rank_at-here.ensures (λ m s from under at_m. c.loop.invariant.differ m s (omega (arith, c.if-j-eq0.true)) under at_m)))
