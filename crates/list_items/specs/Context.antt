-- What the items of a list are understood by.
use Rattle.std.specs.Prelude.{ℕ, ◌<◌, ◌^◌, length}
use Rattle.dwarf_types.specs.SectionBytes.{SectionBytes, bytes_in}
use Rattle.macho_read.specs.declared.image.Image.{Image}
use Rattle.macho_read.specs.Sound.{IsSound as IsSoundImage}
use Rattle.reloc_table.specs.declared.relocation.Relocs.{Relocs}
use Rattle.reloc_table.specs.Sound.{IsSound as AreSoundRelocs}
use Rattle.list_items.specs.declared.context.ListContext.{ListContext}
use Rattle.list_items.specs.declared.context.ListForm.{ListForm}

-- how the items are spelled, the object with the relocations of the list's section, and the addresses that the unit names by indices
pub record Context : Type 0 where
  pub form : ListForm
  pub image : Image
  pub relocs : Relocs
  pub sections : SectionBytes
  pub addresses : Relocs
  pub addr_base : ℕ

abbrev pub context_in : ListContext → Context
context_in c = record { form = c.form; image = c.image.now; relocs = c.relocs.now; sections = bytes_in c.sections.now; addresses = c.addresses.now; addr_base = c.addr_base }

-- all by which an item is understood is sound
pub record IsSoundContext (c : Context) : Type 0 where
  pub image : IsSoundImage c.image
  pub relocs : AreSoundRelocs c.image c.relocs
  pub addresses : AreSoundRelocs c.image c.addresses
  pub small : length c.sections.addr < 2 ^ 32
