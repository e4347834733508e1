-- A sound image: what every image that was read keeps to.
use Rattle.std.specs.Prelude.{◌≡◌, ◌+◌, ◌≤◌, ◌<◌, ◌^◌, ◌==◌, false, length}
use Rattle.std.specs.List.{sum_by, list_any, All}
use Rattle.ds_base.specs.MachONumbers.{SEG_DWARF}
use Rattle.macho_read.specs.declared.image.Image.{Image}
use Rattle.macho_read.specs.declared.image.Segment.{Segment}
use Rattle.macho_read.specs.declared.image.Section.{Section}
use Rattle.macho_read.specs.declared.image.Symbol.{Symbol}
use Rattle.macho_read.specs.Fields.{is_named}
use Rattle.macho_read.specs.Commands.{last_end}

-- its name has at most 16 bytes, and unless it is `__DWARF` there is room above it
pub record IsSoundSegment (segment : Segment) : Type 0 where
  pub name : length segment.name ≤ 16
  pub end : is_named SEG_DWARF segment.name ≡ false → segment.vmaddr + segment.vmsize ≤ last_end

-- its names have at most 16 bytes
pub record IsSoundSection (section : Section) : Type 0 where
  pub name : length section.name ≤ 16
  pub segment : length section.segment ≤ 16

-- its name has no zero byte
abbrev pub IsSoundSymbol : Symbol → Type 0
IsSoundSymbol symbol = list_any (λ b. b == 0) symbol.name ≡ false

pub record IsSound (image : Image) : Type 0 where
  -- the sections are those of the segments, one segment after the other
  pub counts : sum_by (λ s. s.sections) image.segments ≡ length image.sections
  pub segments : All IsSoundSegment image.segments
  pub sections : All IsSoundSection image.sections
  pub symbols : All IsSoundSymbol image.symbols
  pub few : length image.symbols < 2 ^ 32
  pub few_sections : length image.sections < 2 ^ 32
