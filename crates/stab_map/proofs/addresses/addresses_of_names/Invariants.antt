use Rattle.std.proofs.Common.{◌≡◌, true, ℕ, List as Listed, drop}
use Rattle.stab_map.specs.Addresses.{address_among, address_in, has_name}
use Rattle.stab_map.proofs.addresses.addresses_of_names.Given as goal

-- the table has the addresses of the names among the symbols from here on
abbrev pub invariant-loop-i : goal.invariant-loop-i
invariant-loop-i l = (name : Listed ℕ) → has_name l.names name ≡ true → address_in l.addresses name ≡ address_among l.image (drop l.i l.image.symbols) name
