use Rattle.std.proofs.Common.{◌≡◌, ◌+◌, ◌<◌, ◌++◌, [], ◌∷◌, ℕ, Option, Some, None, List, cond, get_or, length, sym, subst, ◌∙◌, arith}
use Rattle.std.specs.Option.{option_map_or}
use Rattle.std.proofs.lemmas.List.{get_or_default}
use Rattle.std.proofs.lemmas.Option.{slice_get_within}
use Rattle.dwarf_types.specs.Live.{keeps_children}
use Rattle.liveness.specs.ChildTable.{IsLastChild, is_wanted}
use Rattle.liveness.proofs.ChildChains.{HasWalked, next_is_last, walk_begins, walk_ends, walk_falls, walk_goes_on}
use Rattle.liveness.proofs.needs.push_children.Goals as goal

pub loop-next-init : goal.loop-next-init
loop-next-init c =
    let entries = c.args.entries.now in
    let last = c.args.children.now.last.items in
    let within : c.args.k < length last = omega (arith, c.requires.place, c.requires.table.last_len) in
    let is : c.index-next.result.now ≡ get_or last c.args.k None = c.index-next.ensures ∙ get_or_default last c.args.k c.index-next.result.now None within in
    walk_begins entries c.args.k c.args.out.now.items c.index-next.result.now (subst (IsLastChild entries c.args.k (length entries)) (sym is) (c.requires.table.lasts c.args.k c.requires.place))

pub entry-requires-in-Some : goal.entry-requires-in-Some
entry-requires-in-Some c =
    let walked : HasWalked c.args.entries.now c.args.k c.args.out.now.items c.loop-next.out.items (Some c.in-Some.child) = subst (HasWalked c.args.entries.now c.args.k c.args.out.now.items c.loop-next.out.items) c.in-Some.is c.loop-next.invariant in
    slice_get_within c.args.entries.now c.in-Some.child walked.1.1.0 walked.1.1.1

pub index-next-requires-in-Some : goal.index-next-requires-in-Some
index-next-requires-in-Some c =
    let walked : HasWalked c.args.entries.now c.args.k c.args.out.now.items c.loop-next.out.items (Some c.in-Some.child) = subst (HasWalked c.args.entries.now c.args.k c.args.out.now.items c.loop-next.out.items) c.in-Some.is c.loop-next.invariant in
    omega (arith, slice_get_within c.args.entries.now c.in-Some.child walked.1.1.0 walked.1.1.1, c.requires.table.before_len)

pub loop-next-smaller : goal.loop-next-smaller
loop-next-smaller c =
    let walked : HasWalked c.args.entries.now c.args.k c.args.out.now.items c.loop-next.out.items (Some c.in-Some.child) = subst (HasWalked c.args.entries.now c.args.k c.args.out.now.items c.loop-next.out.items) c.in-Some.is c.loop-next.invariant in
    let last = next_is_last c.args.entries.now c.args.k c.in-Some.child c.args.children.now.last.items c.args.children.now.before.items c.index-next-in-Some.result.now c.requires.table walked.1.1 c.index-next-in-Some.ensures in
    let falls : option_map_or (λ n. n + 1) c.index-next-in-Some.result.now 0 < option_map_or (λ n. n + 1) c.loop-next.next 0 =
    subst (λ (o : Option ℕ). option_map_or (λ n. n + 1) c.index-next-in-Some.result.now 0 < option_map_or (λ n. n + 1) o 0) (sym c.in-Some.is) (walk_falls c.args.entries.now c.args.k c.in-Some.child c.index-next-in-Some.result.now last) in
    falls

pub loop-next-preserved : goal.loop-next-preserved
loop-next-preserved c =
    let entries = c.args.entries.now in
    let walked : HasWalked entries c.args.k c.args.out.now.items c.loop-next.out.items (Some c.in-Some.child) = subst (HasWalked entries c.args.k c.args.out.now.items c.loop-next.out.items) c.in-Some.is c.loop-next.invariant in
    let last = next_is_last entries c.args.k c.in-Some.child c.args.children.now.last.items c.args.children.now.before.items c.index-next-in-Some.result.now c.requires.table walked.1.1 c.index-next-in-Some.ensures in
    let pushed : c.push_wanted.new.out.items ≡ c.loop-next.out.items ++ cond (is_wanted (keeps_children c.entry.result) c.entry-in-Some.result) (c.in-Some.child ∷ []) [] = rw (← c.keeps_children-keeps.ensures) c.in_ok-push_wanted.ensures in
    subst (λ (out : List ℕ). HasWalked entries c.args.k c.args.out.now.items out c.index-next-in-Some.result.now) (sym pushed)
    (walk_goes_on entries c.args.k c.in-Some.child c.entry.result c.entry-in-Some.result c.args.out.now.items c.loop-next.out.items c.index-next-in-Some.result.now c.entry.ensures.stands c.entry-in-Some.ensures.stands walked last)

pub returns : goal.returns
returns c = walk_ends c.args.entries.now c.args.k c.args.out.now.items c.loop-next.out.items (subst (HasWalked c.args.entries.now c.args.k c.args.out.now.items c.loop-next.out.items) c.in_default.is c.loop-next.invariant)
