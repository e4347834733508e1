use Rattle.std.proofs.Common.{◌≡◌, rules, sym}
use Rattle.std.proofs.lemmas.Fn.{always_returns_same}
use Rattle.reloc_table.proofs.Found.{found, not_found}
use Rattle.expr_resolve.proofs.lookup.base_at.Goals as goal

pub returns-in-Ok : goal.returns-in-Ok
returns-in-Ok c =
    let at = c.in-Ok.ensures.position (λ b. b.place) (always_returns_same _ (λ a r. r ≡ a.0.now.place) _ (λ a r q k. search rules)) in
    sym (found (λ b. b.place) c.args.bases.now c.args.place c.in-Ok.i _ c.requires c.in-Ok.ensures.bound (at _))

pub returns-in-Err : goal.returns-in-Err
returns-in-Err c =
    sym (not_found (λ b. b.place) c.args.bases.now c.args.place _ (record { entry = 0; unit = 0; place = 0 }) c.requires (c.in-Err.ensures.position (λ b. b.place) (always_returns_same _ (λ a r. r ≡ a.0.now.place) _ (λ a r q k. search rules))))
