use Rattle.std.proofs.Common.{◌≡◌, ◌<◌, ◌∙◌, ℕ, List, ap, arith, length, slice_index, slice_index_or}
use Rattle.std.proofs.lemmas.Option.{slice_get-get_or}
use Rattle.work_share.proofs.ordered.each_in_order.Goals as goal

pub by_items-requires-clause-given : goal.by_items-requires-clause-given
by_items-requires-clause-given g c κs within = λ k d lt.
    let done = c.in_ok-done.done in
    let order = c.in_ok-order.order.items in
    let given = c.in_ok-done.ensures.1 k (slice_index_or done k d) (slice_get-get_or done k d lt) in
    let there : k < length order = omega (arith, lt, c.in_ok-done.ensures.0, c.len.ensures, c.in_ok-order.order.ok) in
    let is : (slice_index_or done k d).item ≡ slice_index order k = given.0 ∙ ap (λ (l : List ℕ). slice_index l k) c.as_slice.ensures.value in
    (omega (arith, is, c.in_ok-order.ensures.inside k 0 there), given.1)
