use Rattle.std.proofs.Common.{ℕ, List, sym, refl, subst, arith}
use Rattle.std.specs.Mem.Slots.{slots_items}
use Rattle.type_pool.specs.Keeping.{Keeps}
use Rattle.type_pool.specs.Seats.{known}
use Rattle.type_pool.specs.Ends.{Closes}
use Rattle.type_pool.specs.ClosedWords.{AreOfTable, state_of}
use Rattle.type_pool.proofs.table.Pool.close.Goals as goal
use Rattle.type_pool.proofs.ClosedWords.{are_of_table, closes_words}

pub invariant_of-result : goal.invariant_of-result
invariant_of-result c =
    let pool = c.args.self in
    let key = pool.table.shared.key in
    let words = slots_items c.close_with-closed.result.words in
    let final = c.close_with-closed.ensures.values.2 in
    let rule : Keeps key words final.0.views = subst (λ (l : List ℕ). Keeps key l final.0.views) final.2 final.1.0 in
    subst (AreOfTable pool.cells pool.names) (sym c.copied-words.ensures) (are_of_table key words final.0.views pool.cells pool.names rule pool.sized.0 pool.sized.1 pool.ample (omega arith))

pub returns-clause-closed : goal.returns-clause-closed
returns-clause-closed c =
    let pool = c.args.self in
    let key = pool.table.shared.key in
    let words = slots_items c.close_with-closed.result.words in
    let final = c.close_with-closed.ensures.values.2 in
    let rule : Keeps key words final.0.views = subst (λ (l : List ℕ). Keeps key l final.0.views) final.2 final.1.0 in
    let closes : Closes key.cells (known c.args.seat) (state_of words) = closes_words key words final.0.views c.args.seat.seat.id c.args.seat.seat.me.0 rule final.1.1 c.requires.whole in (
      subst (λ (l : List ℕ). Closes pool.cells (known c.args.seat) (state_of l)) (sym c.copied-words.ensures) (subst (λ (n : ℕ). Closes n (known c.args.seat) (state_of words)) pool.sized.0 closes),
      refl,
    )
