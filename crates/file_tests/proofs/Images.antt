-- The images of the object and the program, by the layouts of mach-o/loader.h and mach-o/nlist.h.
use Rattle.std.proofs.Common.{ℕ, List, [], ◌∷◌, Some, None}
use Rattle.std.specs.Prelude.{codes}
use Rattle.macho_read.specs.declared.image.Image.{Image}
use Rattle.macho_read.specs.declared.image.Section.{Section}

-- a section without relocations and flags
abbrev section : List ℕ → List ℕ → ℕ → ℕ → ℕ → Section
section name segment addr size offset = record {
  name = name;
  segment = segment;
  addr = addr;
  size = size;
  offset = offset;
  align = 0;
  reloff = 0;
  nreloc = 0;
  flags = 0;
  reserved1 = 0;
  reserved2 = 0;
  reserved3 = 0;
}

-- `__debug_info` of the object, with two relocations
abbrev pub info : Section
info = record (section (codes "__debug_info") (codes "__DWARF") 0 30 407) { reloff = 437; nreloc = 2; flags = 0x02000000 }

abbrev pub object : Image
object = record {
  cpu = 0x0100000c;
  sub = 0;
  filetype = 1;
  uuid = Some (0x00 ∷ 0x11 ∷ 0x22 ∷ 0x33 ∷ 0x44 ∷ 0x55 ∷ 0x66 ∷ 0x77 ∷ 0x88 ∷ 0x99 ∷ 0xaa ∷ 0xbb ∷ 0xcc ∷ 0xdd ∷ 0xee ∷ 0xff ∷ []);
  segments = record { name = []; vmaddr = 0; vmsize = 0x10000; maxprot = 7; initprot = 7; flags = 0; sections = 3 } ∷ [];
  sections =
      section (codes "__text") (codes "__TEXT") 0 0x10000 0
      ∷ record (section (codes "__debug_abbrev") (codes "__DWARF") 0 15 392) { flags = 0x02000000 }
      ∷ info ∷ [];
  symbols =
      record { name = codes "_a"; kind = 0x0f; sect = 1; desc = 0; value = 0x20 }
      ∷ record { name = codes "a"; kind = 1; sect = 0; desc = 0; value = 8 } ∷ [];
}

-- the program whose object has this path
abbrev pub program : List ℕ → Image
program path = record {
  cpu = 0x0100000c;
  sub = 0;
  filetype = 2;
  uuid = None;
  segments = record { name = codes "__TEXT"; vmaddr = 0x100000000; vmsize = 0x4000; maxprot = 5; initprot = 5; flags = 0; sections = 1 } ∷ [];
  sections = record (section (codes "__text") (codes "__TEXT") 0x100002000 0x20 0) { align = 4; flags = 0x80000400 } ∷ [];
  symbols =
      record { name = path; kind = 0x66; sect = 0; desc = 1; value = 0 }
      ∷ record { name = codes "_a"; kind = 0x24; sect = 1; desc = 0; value = 0x100002000 }
      ∷ record { name = []; kind = 0x24; sect = 0; desc = 0; value = 0x20 }
      ∷ record { name = codes "a"; kind = 0x20; sect = 0; desc = 0; value = 0 }
      ∷ record { name = codes "a"; kind = 0x0f; sect = 1; desc = 0; value = 0x100008010 } ∷ [];
}
