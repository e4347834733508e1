use Rattle.std.proofs.Common.{◌≡◌, ℕ, ◌<◌, length, get_or}
use Rattle.std.specs.Mem.Slots.{slots_items}
use Rattle.type_pool.proofs.closed.copied.Given as goal

-- the words so far
abbrev pub invariant-loop-i : goal.invariant-loop-i
invariant-loop-i l = record {
  len : length l.to.items ≡ length l.fn.to.items;
  words : (k : ℕ) → k < l.i → get_or l.to.items k 0 ≡ get_or (slots_items l.closed.words) k 0;
}
