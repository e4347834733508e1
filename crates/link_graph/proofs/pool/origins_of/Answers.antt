use Rattle.std.proofs.Common.{◌≡◌, ◌+◌, ◌++◌, ◌∙◌, ℕ, take, drop, length, ap, arith}
use Rattle.link_graph.proofs.Gathered.{lent_all}
use Rattle.link_graph.proofs.PoolNodes.{origins_are}
use Rattle.link_graph.proofs.pool.origins_of.Goals as goal

pub returns : goal.returns
returns g c =
    let order = c.args.merged.now.order.items in
    let old = c.in_ok-origins.origins.items in
    let new = c.put_origins.new.origins in
    let whole : c.in_ok-origins.origins.len ≡ length old = omega (arith, c.in_ok-origins.origins.ok) in
    let same : length new ≡ length old = c.put_origins.ensures.len ∙ ap length c.as_mut_slice.ensures.value in
    let long : length new ≡ length order + 1 = omega (arith, same, whole, c.in_ok-origins.ensures.len, c.len.ensures, c.args.merged.now.order.ok) in
    c.from_vec.ensures ∙ ap (λ (n : ℕ). take n (new ++ drop (length new) old)) whole ∙ lent_all new old same ∙ origins_are c.args.names.now order new long c.put_origins.ensures.each
