-- What the rows of frames stand for.
use Rattle.std.specs.Prelude.{◌≡◌, ℕ, ◌+◌, ◌<◌, ◌^◌, List, ◌∷◌, [], All, length, get_or, Option, Some, None}
use Rattle.dwarf_types.specs.declared.frame_columns.Before.{Before}
use Rattle.dwarf_types.specs.declared.frame_columns.FrameParts.{FrameParts}
use Rattle.dwarf_types.specs.declared.frame_columns.FrameSides.{FrameSides}
use Rattle.dwarf_types.specs.declared.frames.OutFrame.{OutFrame}
use Rattle.dwarf_types.specs.declared.frames.OutRow.{OutRow}
use Rattle.dwarf_types.specs.declared.frames.RawFrame.{RawFrame}
use Rattle.dwarf_types.specs.declared.frames.RawRow.{RawRow}
use Rattle.dwarf_types.specs.declared.runs.Run.{Run}
use Rattle.dwarf_types.specs.Cells.{Begins}
use Rattle.dwarf_types.specs.Runs.{InRun, no_run, run_of}

-- the content of a common information entry, by its number
abbrev pub content_of : FrameSides → ℕ → List ℕ
content_of s n = run_of s.bytes.items (get_or s.cies.items n no_run)

abbrev pub code_of : FrameSides → FrameParts → List ℕ
code_of s p = run_of s.bytes.items p.code

abbrev pub raw_frame_of : FrameSides → RawRow → RawFrame
raw_frame_of s r = record { cie = content_of s r.parts.cie; at = r.at; length = r.parts.length; code = code_of s r.parts }

abbrev pub out_frame_of : FrameSides → OutRow → OutFrame
out_frame_of s r = record { cie = content_of s r.parts.cie; address = r.address; length = r.parts.length; code = code_of s r.parts }

-- ---- rows whose parts lie in the columns

abbrev pub AreCies : FrameSides → Type 0
AreCies s = All (InRun s.bytes.items) s.cies.items

abbrev pub IsHeld : FrameSides → FrameParts → Type 0
IsHeld s p = (p.cie < length s.cies.items) × InRun s.bytes.items p.code

abbrev pub RawHeld : FrameSides → RawRow → Type 0
RawHeld s r = IsHeld s r.parts

abbrev pub OutHeld : FrameSides → OutRow → Type 0
OutHeld s r = IsHeld s r.parts

-- each column begins with what stood in it
pub record SidesGrow (old new : FrameSides) : Type 0 where
  pub cies : Begins old.cies.items new.cies.items
  pub bytes : Begins old.bytes.items new.bytes.items

-- each column has what another one has
pub record AreCopies (old new : FrameSides) : Type 0 where
  pub cies : new.cies.items ≡ old.cies.items
  pub bytes : new.bytes.items ≡ old.bytes.items

-- ---- columns behind others

abbrev pub run_moved : ℕ → Run → Run
run_moved by r = record { from = by + r.from; to = by + r.to }

abbrev pub parts_moved : Before → FrameParts → FrameParts
parts_moved before p = record { cie = before.cies + p.cie; length = p.length; code = run_moved before.bytes p.code }

abbrev pub out_row_moved : Before → OutRow → OutRow
out_row_moved before r = record { address = r.address; parts = parts_moved before r.parts }

-- a machine word tells the places
abbrev pub Fits : ℕ → Run → Type 0
Fits by r = (by + r.from < 2 ^ 64) × (by + r.to < 2 ^ 64)

abbrev pub PartsFit : Before → FrameParts → Type 0
PartsFit before p = (before.cies + p.cie < 2 ^ 64) × Fits before.bytes p.code

abbrev pub RowFits : Before → OutRow → Type 0
RowFits before r = PartsFit before r.parts

-- ---- rows with addresses of the linked program

-- the rows that have one
abbrev pub linked_rows : List RawRow → List (Option ℕ) → List OutRow
linked_rows [] addresses = []
linked_rows (r ∷ rows) [] = []
linked_rows (r ∷ rows) (Some address ∷ addresses) = record { address = address; parts = r.parts } ∷ linked_rows rows addresses
linked_rows (r ∷ rows) (None ∷ addresses) = linked_rows rows addresses
