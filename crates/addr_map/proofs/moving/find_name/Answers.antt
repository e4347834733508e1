use Rattle.std.proofs.Common.{◌≡◌, rules, sym}
use Rattle.std.proofs.lemmas.Fn.{always_returns_same}
use Rattle.reloc_table.proofs.Found.{found, not_found}
use Rattle.addr_map.proofs.moving.find_name.Goals as goal

pub returns-in-Ok : goal.returns-in-Ok
returns-in-Ok c =
    let at = c.in-Ok.ensures.position (λ n. n.symbol) (always_returns_same _ (λ a r. r ≡ a.0.now.symbol) _ (λ a r q k. search rules)) in
    sym (found (λ n. n.symbol) _ c.args.symbol c.in-Ok.i _ c.requires c.in-Ok.ensures.bound (at _))

pub returns-in-Err : goal.returns-in-Err
returns-in-Err c =
    sym (not_found (λ n. n.symbol) _ c.args.symbol _ (record { symbol = 0; linked = 0 }) c.requires (c.in-Err.ensures.position (λ n. n.symbol) (always_returns_same _ (λ a r. r ≡ a.0.now.symbol) _ (λ a r q k. search rules))))
