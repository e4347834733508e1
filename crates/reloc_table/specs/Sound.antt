-- Sound relocations: what every table that was read keeps to.
use Rattle.std.specs.Prelude.{◌≡◌, ◌+◌, ◌<◌, ◌≤◌, true, length}
use Rattle.std.specs.List.{All, AllPairs}
use Rattle.macho_read.specs.declared.image.Image.{Image}
use Rattle.reloc_table.specs.declared.relocation.Relocs.{Relocs}
use Rattle.ds_base.specs.DwarfNumbers.{ADDRESS_SIZE}

pub record IsSound (image : Image) (relocs : Relocs) : Type 0 where
  -- the places rise, by 8 bytes at least
  pub rise : AllPairs (λ r later. r.place + ADDRESS_SIZE ≤ later.place) relocs.list
  -- the symbols that are added are there
  pub symbols : All (λ r. r.outer ≡ true → r.symbol < length image.symbols) relocs.list
