-- What a number means that stands at a place of a debug section, where an address is expected.
use Rattle.std.specs.Prelude.{ℕ, ◌+◌, ◌%◌, ◌^◌, ◌==◌, slice_get, Option, Some, None, if◌then◌else◌}
use Rattle.std.specs.List.{find}
use Rattle.dwarf_types.specs.declared.address.Addr.{Addr}
use Rattle.dwarf_types.specs.declared.address.Addr.TheVariants as addrs
use Rattle.macho_read.specs.declared.image.Image.{Image}
use Rattle.macho_read.specs.declared.image.Symbol.{Symbol}
use Rattle.reloc_table.specs.declared.relocation.Reloc.{Reloc}
use Rattle.reloc_table.specs.declared.relocation.Relocs.{Relocs}
use Rattle.macho_read.specs.declared.standing.Standing.{Standing}
use Rattle.macho_read.specs.declared.standing.Standing.TheVariants as standings
use Rattle.macho_read.specs.Standings.{standing_of}

-- the sum in 64 bits
abbrev pub sum64 : ℕ → ℕ → ℕ
sum64 a b = (a + b) % 2 ^ 64

-- a number behind a symbol, by what that stands for; the index is the symbol's, from 0
abbrev pub behind_standing : Standing → ℕ → Symbol → ℕ → Addr
behind_standing (standings.Defined section) index symbol stored = addrs.Placed (sum64 symbol.value stored)
behind_standing standings.Common index symbol stored = addrs.Named index stored
behind_standing standings.Undefined index symbol stored = addrs.Named index stored
behind_standing standings.Absolute index symbol stored = addrs.Fixed (sum64 symbol.value stored)

-- a number behind the symbol of an index; behind one that isn't there, which sound relocations do not name, it is a number alone
abbrev pub behind_symbol : Image → ℕ → Option Symbol → ℕ → Addr
behind_symbol image index None stored = addrs.Fixed stored
behind_symbol image index (Some symbol) stored = behind_standing (standing_of image symbol) index symbol stored

-- a number to which a relocation adds, if there is one
abbrev pub relocated : Image → Option Reloc → ℕ → Addr
relocated image None stored = addrs.Fixed stored
relocated image (Some r) stored = if r.outer then behind_symbol image r.symbol (slice_get image.symbols r.symbol) stored else addrs.Placed stored

-- the relocation at a place
abbrev pub reloc_at : Relocs → ℕ → Option Reloc
reloc_at relocs place = find (λ r. r.place == place) relocs.list

unfoldable pub address_of : Image → Relocs → ℕ → ℕ → Addr
address_of image relocs place stored = relocated image (reloc_at relocs place) stored
