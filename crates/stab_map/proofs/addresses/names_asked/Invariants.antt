use Rattle.std.proofs.Common.{◌≡◌, ℕ, List as Listed, drop}
use Rattle.stab_map.specs.Addresses.{has_name, is_asked}
use Rattle.stab_map.proofs.addresses.names_asked.Given as goal

-- the names are those for which the symbols from here on ask
abbrev pub invariant-loop-i : goal.invariant-loop-i
invariant-loop-i l = (name : Listed ℕ) → has_name l.names name ≡ is_asked (drop l.i l.image.symbols) name
