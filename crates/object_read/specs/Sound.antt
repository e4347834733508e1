-- What every object keeps to that was read: its image and relocations are sound, its sections not too long, and its units those that they spell.
use Rattle.std.specs.Prelude.{◌≡◌, ℕ, List, map, Some}
use Rattle.dwarf_types.specs.declared.entry.RawUnits.{RawUnits}
use Rattle.dwarf_types.specs.Raw.{places_of}
use Rattle.macho_read.specs.declared.image.Image.{Image}
use Rattle.macho_read.specs.Sound.{IsSound as IsSoundImage}
use Rattle.reloc_table.specs.Sound.{IsSound}
use Rattle.reloc_table.specs.Tried.{AreSmall, LieInside}
use Rattle.unit_tree.specs.Inside.{AreInside}
use Rattle.unit_tree.specs.Sound.{AreSound as AreSoundUnits}
use Rattle.unit_tree.specs.Spelling.{IsSpelled}
use Rattle.unit_tree.specs.Targets.{number_at, targets_of}
use Rattle.object_read.specs.declared.open.DebugRelocs.{DebugRelocs}
use Rattle.object_read.specs.declared.read.ReadObject.{ReadObject}
use Rattle.object_read.specs.Opened.{Opened}
use Rattle.object_read.specs.Seen.{opened_in}

-- every table of relocations is sound
pub record AreSound (image : Image) (relocs : DebugRelocs) : Type 0 where
  pub info : IsSound image relocs.info
  pub addr : IsSound image relocs.addr
  pub line : IsSound image relocs.line
  pub ranges : IsSound image relocs.ranges
  pub rnglists : IsSound image relocs.rnglists
  pub loc : IsSound image relocs.loc
  pub loclists : IsSound image relocs.loclists
  pub frame : IsSound image relocs.frame

-- an object that was opened, with its units, and with the numbers of the entries to which their references lead
pub record IsRead (o : Opened) (raw : RawUnits) (numbers : List ℕ) : Type 0 where
  pub image : IsSoundImage o.image
  pub relocs : AreSound o.image o.relocs
  pub small : AreSmall o.sections
  pub units : AreSoundUnits raw
  pub inside : AreInside o.sections raw
  pub spelled : IsSpelled o.sections raw
  pub lead : map Some numbers ≡ map (number_at (places_of raw.entries)) (targets_of raw.entries)

-- one that was read of a file's bytes, in which its sections lie
pub record IsReadOf (bytes : List ℕ) (read : ReadObject) : Type 0 where
  pub lie : LieInside bytes read.image.sections
  pub sound : IsRead (opened_in bytes read) read.units read.numbers
