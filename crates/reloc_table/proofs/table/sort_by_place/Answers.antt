use Rattle.std.proofs.Common.{◌≡◌, rules}
use Rattle.std.proofs.lemmas.Fn.{always_returns_same}
use Rattle.std.proofs.lemmas.List.Sorted.{IsNonDecreasingBy-from_sort_by_key}
use Rattle.reloc_table.proofs.Places.{sorted_is}
use Rattle.reloc_table.proofs.table.sort_by_place.Goals as goal

pub returns : goal.returns
returns c = sorted_is _ _
    (IsNonDecreasingBy-from_sort_by_key (λ r. r.place) _ c.in_ok-sort_by_key.ensures.sorted (λ a r q k. search rules))
    (c.in_ok-sort_by_key.ensures.stable (λ r. r.place) (always_returns_same _ (λ a r. r ≡ a.0.now.place) _ (λ a r q k. search rules)))
