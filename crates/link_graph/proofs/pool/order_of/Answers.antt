use Rattle.std.proofs.Common.{◌+◌, ◌-◌, ◌<◌, List, None, length, map, slice_index_or, subst, sym, arith}
use Rattle.std.proofs.lemmas.List.{length-map}
use Rattle.link_graph.specs.declared.pool.Link.{Link}
use Rattle.link_graph.specs.PoolOrder.{AnyName, AreChains, firsts, name_of, nexts}
use Rattle.link_graph.proofs.Families.{ranked_apart}
use Rattle.link_graph.proofs.Links.{name_none, name_some, opened_more, opened_one, opened_two}
use Rattle.link_graph.proofs.PoolWalks.{name_wins, smaller_more, walk_first, walk_more, walk_past}
use Rattle.link_graph.proofs.pool.order_of.Goals as goal

pub loop-top-init : goal.loop-top-init
loop-top-init c =
    let tree = c.args.tree.now in
    let names = tree.names.now in
    let winners = tree.winners.now in
    let links = c.as_slice-links.result.now in
    let chains : AreChains names winners AnyName (firsts links) (nexts links) = subst (λ (xs : List Link). AreChains names winners AnyName (firsts xs) (nexts xs)) (sym c.as_slice-links.ensures.value) c.requires.chains in
    let some : 0 < length links = omega (arith, chains.wide, length-map links (λ (link : Link). name_of link.first)) in
    walk_first names winners (nexts links) (firsts links) c.in_ok-order.order.items (map name_of c.push.new.self.items) (ranked_apart names c.requires.ranked) c.requires.winners c.requires.linked chains c.in_ok-order.ensures.items
    (opened_one links _ c.new-open.result.items c.push.new.self.items some c.new-open.ensures.items c.in_ok-push.ensures.items)

pub loop-top-preserved-then-top-eq0 : goal.loop-top-preserved-then-top-eq0
loop-top-preserved-then-top-eq0 c =
    let tree = c.args.tree.now in
    let top = c.in-Some.top in
    let opened = c.loop-top.open.items in
    let left = c.pop.new.self.items in
    walk_past tree.names.now tree.winners.now (nexts c.as_slice-links.result.now) c.loop-top.order.items (map name_of opened) (map name_of left) (name_of top) (opened_more left opened top c.in-Some.ensures.items) (name_none top c.if-top-eq0.true) c.loop-top.invariant

pub bounds-links-top : goal.bounds-links-top
bounds-links-top c =
    let tree = c.args.tree.now in
    let top = c.in-Some.top in
    let opened = c.loop-top.open.items in
    let left = c.pop.new.self.items in
    let wins = name_wins tree.names.now tree.winners.now (nexts c.as_slice-links.result.now) c.loop-top.order.items (map name_of opened) (map name_of left) (name_of top) (top - 1) (opened_more left opened top c.in-Some.ensures.items) (name_some top c.if-top-eq0.false) c.loop-top.invariant in
    omega (arith, wins.within, c.requires.chains.wide, length-map tree.chains.items (λ (link : Link). name_of link.first), c.as_slice-links.ensures.len)

pub loop-top-smaller : goal.loop-top-smaller
loop-top-smaller c =
    let tree = c.args.tree.now in
    let links = c.as_slice-links.result.now in
    let top = c.in-Some.top in
    let opened = c.loop-top.open.items in
    let left = c.pop.new.self.items in
    let is_open = opened_more left opened top c.in-Some.ensures.items in
    let some = name_some top c.if-top-eq0.false in
    let wins = name_wins tree.names.now tree.winners.now (nexts links) c.loop-top.order.items (map name_of opened) (map name_of left) (name_of top) (top - 1) is_open some c.loop-top.invariant in
    let within : top < length links = omega (arith, wins.within, c.requires.chains.wide, length-map tree.chains.items (λ (link : Link). name_of link.first), c.as_slice-links.ensures.len) in
    smaller_more tree.names.now tree.winners.now (nexts links) c.loop-top.order.items (map name_of opened) (map name_of left) (name_of top) (top - 1) is_open some c.loop-top.invariant
    c.push-in-Some.new.self.items (map name_of c.push-in-Some-3.new.self.items) (slice_index_or (nexts links) (top - 1) None) (slice_index_or (firsts links) (top - 1 + 1) None) c.in_ok-push-2.ensures.items
    (opened_two links _ top left c.push-in-Some-2.new.self.items c.push-in-Some-3.new.self.items c.if-top-eq0.false within c.in_ok-push-3.ensures.items c.in_ok-push-4.ensures.items)

pub loop-top-preserved : goal.loop-top-preserved
loop-top-preserved c =
    let tree = c.args.tree.now in
    let names = tree.names.now in
    let winners = tree.winners.now in
    let links = c.as_slice-links.result.now in
    let top = c.in-Some.top in
    let opened = c.loop-top.open.items in
    let left = c.pop.new.self.items in
    let is_open = opened_more left opened top c.in-Some.ensures.items in
    let some = name_some top c.if-top-eq0.false in
    let wins = name_wins names winners (nexts links) c.loop-top.order.items (map name_of opened) (map name_of left) (name_of top) (top - 1) is_open some c.loop-top.invariant in
    let within : top < length links = omega (arith, wins.within, c.requires.chains.wide, length-map tree.chains.items (λ (link : Link). name_of link.first), c.as_slice-links.ensures.len) in
    let chains : AreChains names winners AnyName (firsts links) (nexts links) = subst (λ (xs : List Link). AreChains names winners AnyName (firsts xs) (nexts xs)) (sym c.as_slice-links.ensures.value) c.requires.chains in
    walk_more names winners (nexts links) c.loop-top.order.items (map name_of opened) (map name_of left) (name_of top) (top - 1) is_open some c.loop-top.invariant
    (firsts links) c.push-in-Some.new.self.items (map name_of c.push-in-Some-3.new.self.items) (ranked_apart names c.requires.ranked) c.requires.winners c.requires.linked chains c.in_ok-push-2.ensures.items
    (opened_two links _ top left c.push-in-Some-2.new.self.items c.push-in-Some-3.new.self.items c.if-top-eq0.false within c.in_ok-push-3.ensures.items c.in_ok-push-4.ensures.items)
