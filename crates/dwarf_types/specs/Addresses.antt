-- Addresses of an object: what they count from, and sums with them.
use Rattle.std.specs.Prelude.{ℕ, ◌+◌, ◌%◌, ◌^◌}
use Rattle.dwarf_types.specs.declared.address.Addr.{Addr}
use Rattle.dwarf_types.specs.declared.address.Addr.TheVariants as addrs

-- an address and so many bytes more, modulo 2^64: what it counts from stays
abbrev pub plus : Addr → ℕ → Addr
plus (addrs.Placed at) n = addrs.Placed ((at + n) % 2 ^ 64)
plus (addrs.Named symbol addend) n = addrs.Named symbol ((addend + n) % 2 ^ 64)
plus (addrs.Fixed number) n = addrs.Fixed ((number + n) % 2 ^ 64)

-- the address, the bytes behind the symbol, or the number
abbrev pub number_of : Addr → ℕ
number_of (addrs.Placed at) = at
number_of (addrs.Named symbol addend) = addend
number_of (addrs.Fixed number) = number
