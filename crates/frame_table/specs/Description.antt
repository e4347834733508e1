-- What an FDE says (DWARF 4, section 6.4.1): initial_location, address_range, instructions.
use Rattle.std.specs.Prelude.{ℕ, ◌+◌, ◌-◌, List, Result, Ok, if◌then◌else◌}
use Rattle.ds_base.specs.declared.fault.Fault.{Fault}
use Rattle.ds_base.specs.Reading.{◌>>=◌, number_at, bytes_at}
use Rattle.dwarf_types.specs.declared.frames.RawFrame.{RawFrame}
use Rattle.macho_read.specs.declared.image.Image.{Image}
use Rattle.reloc_table.specs.declared.relocation.Relocs.{Relocs}
use Rattle.reloc_table.specs.Address.{address_of}
use Rattle.frame_table.specs.declared.description.Description.{Description as ReadDescription}
use Rattle.frame_table.specs.declared.entry.FrameEntry.{FrameEntry}
use Rattle.frame_table.specs.Entry.{behind_id, is_cie}

-- the initial location as it is stored, how many bytes of the program are described, and the instructions
pub record Said : Type 0 where
  pub location : ℕ
  pub length : ℕ
  pub code : List ℕ

-- what an FDE says behind its id; the instructions reach to its end
unfoldable pub description_at : List ℕ → FrameEntry → Result Said Fault
description_at bytes entry = do
  location ← number_at 8 (behind_id bytes entry)
  len ← number_at 8 location.1
  code ← bytes_at (len.1.end - len.1.place) len.1
  Ok (record { location = location.0; length = len.0; code = code.0 })

-- the values of an entry are there; a CIE is kept as bytes
abbrev pub values_at : List ℕ → FrameEntry → Result (Unit {0}) Fault
values_at bytes entry = if is_cie entry then Ok tt else (description_at bytes entry >>= λ said. Ok tt)

-- the frame of an FDE, with the content of its CIE
abbrev pub framed : Image → Relocs → FrameEntry → List ℕ → Said → RawFrame
framed image relocs entry cie said =
    record { cie = cie; at = address_of image relocs (entry.place + 8) said.location; length = said.length; code = said.code }

-- the same of what a call answered
abbrev pub seen : ReadDescription → Said
seen d = record { location = d.location; length = d.length; code = d.code.now }
