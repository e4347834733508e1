use Rattle.std.proofs.Common.{◌≡◌, ◌≤◌, ◌+◌, ◌∙◌, List, rules, sym, ap, arith, false}
use Rattle.std.specs.List.{AllPairs, find}
use Rattle.std.proofs.lemmas.Fn.{always_returns_same}
use Rattle.reloc_table.specs.declared.relocation.Reloc.{Reloc}
use Rattle.reloc_table.proofs.Found.{found, has_key, not_found, Rises}
use Rattle.reloc_table.proofs.address.find_reloc.Goals as goal

rises : (rs : List Reloc) → AllPairs (λ r later. r.place + 8 ≤ later.place) rs → Rises (λ r. r.place) rs
rises rs apart i j d before lt = let h = apart i j d before lt in omega arith

pub returns-in-Ok-clause-found : goal.returns-in-Ok-clause-found
returns-in-Ok-clause-found c =
    let at = c.in-Ok.ensures.position (λ r. r.place) (always_returns_same _ (λ a r. r ≡ a.0.now.place) _ (λ a r q k. search rules)) in
    sym (found (λ r. r.place) _ c.args.place c.in-Ok.i _ (rises _ (rw c.as_slice-list.ensures c.requires)) c.in-Ok.ensures.bound (at _)) ∙ ap (find (has_key (λ r. r.place) c.args.place)) c.as_slice-list.ensures

pub returns-in-Err-clause-found : goal.returns-in-Err-clause-found
returns-in-Err-clause-found c =
    sym (not_found (λ r. r.place) _ c.args.place _ (record { place = 0; symbol = 0; outer = false }) (rises _ (rw c.as_slice-list.ensures c.requires)) (c.in-Err.ensures.position (λ r. r.place) (always_returns_same _ (λ a r. r ≡ a.0.now.place) _ (λ a r q k. search rules))))
    ∙ ap (find (has_key (λ r. r.place) c.args.place)) c.as_slice-list.ensures
