-- An entry of `__debug_frame` (DWARF 4, section 6.4.1): where it stands, and what it begins with.
use Rattle.std.specs.Prelude.{ℕ, ◌+◌, ◌-◌, ◌==◌, ◌||◌, Bool, List, length, Result, Ok, nat_lt, nat_le}
use Rattle.ds_base.specs.declared.fault.Fault.{Fault}
use Rattle.ds_base.specs.declared.fault.Kind.TheVariants as kinds
use Rattle.ds_base.specs.declared.fault.Part.TheVariants as parts
use Rattle.ds_base.specs.Spot.{Spot, rest}
use Rattle.ds_base.specs.Reading.{◌>>=◌, refuse_if, number_at}
use Rattle.frame_table.specs.declared.entry.FrameEntry.{FrameEntry}
use Rattle.ds_base.specs.DwarfNumbers.{LENGTH_RESERVED, DW_CIE_ID}

-- at a place of the section, to be read up to an end
abbrev pub frame_spot : List ℕ → ℕ → ℕ → Spot
frame_spot bytes place end = record { bytes = bytes; part = parts.Frame; place = place; end = end }

-- the entry at a place is wrong
abbrev pub bad_frame : ℕ → Fault
bad_frame place = record { kind = kinds.BadFrame; section = parts.Frame; place = place }

-- the entry that begins at a place: its length, which counts the bytes behind it, and in these the id
unfoldable pub entry_at : List ℕ → ℕ → Result FrameEntry Fault
entry_at bytes place = do
  len ← number_at 4 (frame_spot bytes place (length bytes))
  _ ← refuse_if (nat_le LENGTH_RESERVED len.0 || nat_lt (len.1.end - len.1.place) len.0) (bad_frame place)
  id ← number_at 4 (frame_spot bytes len.1.place (len.1.place + len.0))
  Ok (record { place = place; end = len.1.place + len.0; id = id.0 })

-- a common information entry, by its id; any other is a frame description entry, and its id is the place of its CIE
abbrev pub is_cie : FrameEntry → Bool
is_cie entry = entry.id == DW_CIE_ID

-- behind its length and id
abbrev pub behind_id : List ℕ → FrameEntry → Spot
behind_id bytes entry = frame_spot bytes (entry.place + 8) entry.end

-- what stands behind its id
abbrev pub content_of : List ℕ → FrameEntry → List ℕ
content_of bytes entry = rest (behind_id bytes entry)
