-- What an expression of an object is understood by: where it stands, and the base types and the addresses that it may name.
use Rattle.std.specs.Prelude.{ℕ, ◌<◌, List}
use Rattle.std.specs.List.{AllPairs}
use Rattle.ds_base.specs.declared.fault.Part.{Part}
use Rattle.dwarf_types.specs.SectionBytes.{SectionBytes, bytes_in}
use Rattle.macho_read.specs.declared.image.Image.{Image}
use Rattle.reloc_table.specs.declared.relocation.Relocs.{Relocs}
use Rattle.addr_map.specs.declared.map.AddrMap.{AddrMap}
use Rattle.expr_resolve.specs.declared.context.BaseType.{BaseType}
use Rattle.expr_resolve.specs.declared.context.ExprContext.{ExprContext}
use Rattle.expr_resolve.specs.declared.context.ExprNames.{ExprNames}

-- the object, and where in it the expression stands: its part of the file with the relocations there, and its unit by number, first byte and version; the addresses that the unit names by indices stand in __debug_addr
pub record Context : Type 0 where
  pub image : Image
  pub map : AddrMap
  pub bases : List BaseType
  pub part : Part
  pub relocs : Relocs
  pub unit : ℕ
  pub start : ℕ
  pub version : ℕ
  pub sections : SectionBytes
  pub addresses : Relocs
  pub addr_base : ℕ

abbrev pub context_in : ExprContext → Context
context_in c = record {
  image = c.image.now;
  map = c.map.now;
  bases = c.bases.now;
  part = c.part;
  relocs = c.relocs.now;
  unit = c.unit;
  start = c.start;
  version = c.version;
  sections = bytes_in c.sections.now;
  addresses = c.addresses.now;
  addr_base = c.addr_base;
}

-- what an expression may name, and where it stands: its part of the file, and its unit by number, first byte and version; the base types of the object, and the table of addresses of the unit
pub record Names : Type 0 where
  pub bases : List BaseType
  pub part : Part
  pub unit : ℕ
  pub start : ℕ
  pub version : ℕ
  pub sections : SectionBytes
  pub addr_base : ℕ

abbrev pub names_in : ExprNames → Names
names_in n = record { bases = n.bases.now; part = n.part; unit = n.unit; start = n.start; version = n.version; sections = bytes_in n.sections.now; addr_base = n.addr_base }

-- the same of an expression of which more is known
abbrev pub names_of : Context → Names
names_of s = record { bases = s.bases; part = s.part; unit = s.unit; start = s.start; version = s.version; sections = s.sections; addr_base = s.addr_base }

-- each stands behind those before it
abbrev pub AreInOrder : List BaseType → Type 0
AreInOrder bases = AllPairs (λ b later. b.place < later.place) bases
