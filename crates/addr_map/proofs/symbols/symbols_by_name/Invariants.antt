use Rattle.std.proofs.Common.{◌≡◌, ℕ, List as Listed, drop}
use Rattle.std.specs.List.{enumerate_from, find}
use Rattle.std.specs.Option.{option_map}
use Rattle.addr_map.specs.Entries.{has_name}
use Rattle.addr_map.specs.Tables.{index_in}
use Rattle.addr_map.proofs.symbols.symbols_by_name.Given as goal

-- the table has the first index of each name among the symbols from here on
abbrev pub invariant-loop-i : goal.invariant-loop-i
invariant-loop-i l = (name : Listed ℕ) → index_in l.table name ≡ option_map (λ s. s.0) (find (has_name name) (enumerate_from l.i (drop l.i l.symbols)))
