-- What columns stand for that have what others have.
use Rattle.std.proofs.Common.{◌≡◌, List, [], map, All, refl, sym, ◌∙◌}
use Rattle.std.proofs.lemmas.List.{append-nil}
use Rattle.dwarf_types.specs.declared.columns.Cell.{Cell}
use Rattle.dwarf_types.specs.declared.columns.Head.{Head}
use Rattle.dwarf_types.specs.declared.frame_columns.FrameSides.{FrameSides}
use Rattle.dwarf_types.specs.declared.frames.OutRow.{OutRow}
use Rattle.dwarf_types.specs.declared.sides.Sides.{Sides}
use Rattle.dwarf_types.specs.Cells.{AreAsMany, AreCopies, Begins, Grows}
use Rattle.dwarf_types.specs.Columns.{AreEntries, cell_count, entries_of}
use Rattle.dwarf_types.specs.FrameColumns.{AreCies, OutHeld, SidesGrow, out_frame_of}
use Rattle.dwarf_types.specs.FrameColumns as frames
use Rattle.dwarf_types.proofs.Building.{entries_grow, flat_grows}
use Rattle.dwarf_types.proofs.Few.{few_same}
use Rattle.dwarf_types.proofs.FrameRows.{out_grows, out_held_grow}

-- what is the same begins with it
same_begins : {A : Type 0} (old new : List A) → new ≡ old → Begins old new
same_begins old new e = ([], e ∙ sym (append-nil old))

copies_grow : (old new : Sides) → AreCopies old new → Grows old new
copies_grow old new c = record {
  large = same_begins _ _ c.large;
  bytes = same_begins _ _ c.bytes;
  runs = same_begins _ _ c.runs;
  lists = same_begins _ _ c.lists;
  places = same_begins _ _ c.places;
  addresses = same_begins _ _ c.addresses;
  spans = same_begins _ _ c.spans;
  ops = same_begins _ _ c.ops;
  inner = same_begins _ _ c.inner;
  items = same_begins _ _ c.items;
}

copies_as_many : (old new : Sides) → AreCopies old new → AreAsMany old new
copies_as_many old new c = (rw (c.large, c.runs) refl, rw (c.places, c.lists) refl)

-- ---- entries

pub entries_copied : (old new : Sides) (heads : List Head) (cells : List Cell) → AreCopies old new → AreEntries old heads cells → entries_of new heads cells ≡ entries_of old heads cells
entries_copied old new heads cells c are = entries_grow old new heads cells (cell_count heads) (copies_grow old new c) are.flat

pub entries_still : (old new : Sides) (heads : List Head) (cells : List Cell) → AreCopies old new → AreEntries old heads cells → AreEntries new heads cells
entries_still old new heads cells c are =
    record { flat = flat_grows old new heads cells (cell_count heads) (copies_grow old new c) are.flat; columns = few_same old new cells are.columns (copies_as_many old new c) }

-- ---- frames

sides_grow : (old new : FrameSides) → frames.AreCopies old new → SidesGrow old new
sides_grow old new c = record { cies = same_begins _ _ c.cies; bytes = same_begins _ _ c.bytes }

pub frames_copied : (old new : FrameSides) (rows : List OutRow) → frames.AreCopies old new → AreCies old → All (OutHeld old) rows → map (out_frame_of new) rows ≡ map (out_frame_of old) rows
frames_copied old new rows c cies held = out_grows old new (sides_grow old new c) cies rows held

pub cies_still : (old new : FrameSides) → frames.AreCopies old new → AreCies old → AreCies new
cies_still old new c cies = rw (c.cies, c.bytes) cies

pub held_still : (old new : FrameSides) (rows : List OutRow) → frames.AreCopies old new → All (OutHeld old) rows → All (OutHeld new) rows
held_still old new rows c held = out_held_grow old new (sides_grow old new c) rows held
