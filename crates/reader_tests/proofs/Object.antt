-- An object without sections and symbols, of which two numbers are relocated, with a table of two addresses and with one range that was linked.
use Rattle.std.proofs.Common.{ℕ, false, List, [], ◌∷◌, ◌++◌, None}
use Rattle.std.specs.Prelude.{codes}
use Rattle.dwarf_types.specs.SectionBytes.{SectionBytes}
use Rattle.macho_read.specs.declared.image.Image.{Image}
use Rattle.reloc_table.specs.declared.relocation.Relocs.{Relocs}
use Rattle.addr_map.specs.declared.map.AddrMap.{AddrMap}

abbrev pub image : Image
image = record { cpu = 0x0100000c; sub = 0; filetype = 1; uuid = None; segments = []; sections = []; symbols = [] }

-- relocations at two places, to which a section is added
abbrev pub two : ℕ → ℕ → Relocs
two first second = record { list = record { place = first; symbol = 1; outer = false } ∷ record { place = second; symbol = 1; outer = false } ∷ [] }

-- a table of the addresses 0x18 and 0x20 (DWARF 5, section 7.27), whose base is 8
abbrev addresses : List ℕ
addresses = 0x14 ∷ 0 ∷ 0 ∷ 0 ∷ 5 ∷ 0 ∷ 8 ∷ 0 ∷ 0x18 ∷ 0 ∷ 0 ∷ 0 ∷ 0 ∷ 0 ∷ 0 ∷ 0 ∷ 0x20 ∷ 0 ∷ 0 ∷ 0 ∷ 0 ∷ 0 ∷ 0 ∷ 0 ∷ []

-- the section that is read, whichever it is, has these bytes; beside it stand the addresses, and the texts `/src` and `a.c`
abbrev pub sections : List ℕ → SectionBytes
sections bytes = record {
  info = [];
  abbrev_ = [];
  strings = [];
  str_offs = [];
  addr = addresses;
  line = bytes;
  line_str = codes "/src" ++ 0 ∷ (codes "a.c" ++ 0 ∷ []);
  ranges = bytes;
  rnglists = bytes;
  loc = bytes;
  loclists = bytes;
  aranges = [];
  frame = bytes;
}

-- 0x20 to 0x40 went to 0x100002000
abbrev pub map : AddrMap
map = record { ranges = record { start = 0x20; end = 0x40; linked = 0x100002000 } ∷ []; names = [] }
