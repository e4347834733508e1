use Rattle.std.proofs.Common.{◌≡◌, ◌≤◌, ◌++◌, ℕ, length, replicate}
use Rattle.dwarf_types.proofs.place_table.add_steps.Given as goal

abbrev pub invariant-loop-step : goal.invariant-loop-step
invariant-loop-step l = ((k : ℕ) × (l.before.items ≡ l.fn.before.items ++ replicate k l.count)) × (l.step ≤ length l.before.items)
