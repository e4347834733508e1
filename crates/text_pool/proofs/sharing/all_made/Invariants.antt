use Rattle.std.proofs.Common.{◌≡◌, ◌++◌, map, Ok}
use Rattle.text_pool.proofs.sharing.all_made.Given as goal

-- the shards so far are the first
abbrev pub invariant-loop-one : goal.invariant-loop-one
invariant-loop-one l = (l.yielded ++ l.one-iterator.rest.items ≡ l.initial.one-iterator.rest.items) × (map (λ it. Ok it) l.shards.items ≡ l.yielded)
