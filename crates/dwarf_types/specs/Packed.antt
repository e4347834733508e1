-- What packed rows of line tables stand for.
use Rattle.std.specs.Prelude.{◌≡◌, ℕ, ◌<◌, ◌^◌, List, length, slice_index_or, true, false, if◌then◌else◌}
use Rattle.dwarf_types.specs.declared.lines.Row.{Row}
use Rattle.dwarf_types.specs.declared.packed_row.PackedRow.{PackedRow}

-- the row of its own numbers
abbrev pub own_row : PackedRow → Row
own_row p = record {
  address = p.address;
  file = p.file;
  line = p.line;
  column = p.column;
  discriminator = p.discriminator;
  isa = p.isa;
  is_stmt = p.is_stmt;
  basic_block = p.basic_block;
  prologue_end = p.prologue_end;
  epilogue_begin = p.epilogue_begin;
}

-- the row that it stands for: at its place among the wide rows, or that of its own numbers
abbrev pub row_of : List Row → PackedRow → Row
row_of wide p = if p.is_wide then slice_index_or wide p.address (own_row p) else own_row p

-- its place is one of theirs
abbrev pub RowWithin : List Row → PackedRow → Type 0
RowWithin wide p = p.is_wide ≡ true → p.address < length wide

-- ---- how rows are packed

-- the numbers of a row fit
pub record IsNarrow (row : Row) : Type 0 where
  pub file : row.file < 2 ^ 16
  pub column : row.column < 2 ^ 16
  pub discriminator : row.discriminator < 2 ^ 16
  pub isa : row.isa < 2 ^ 8

abbrev pub narrow : Row → PackedRow
narrow row = record {
  address = row.address;
  line = row.line;
  file = row.file;
  column = row.column;
  discriminator = row.discriminator;
  isa = row.isa;
  is_stmt = row.is_stmt;
  basic_block = row.basic_block;
  prologue_end = row.prologue_end;
  epilogue_begin = row.epilogue_begin;
  is_wide = false;
}

abbrev pub wide_at : ℕ → PackedRow
wide_at place = record {
  address = place;
  line = 0;
  file = 0;
  column = 0;
  discriminator = 0;
  isa = 0;
  is_stmt = false;
  basic_block = false;
  prologue_end = false;
  epilogue_begin = false;
  is_wide = true;
}
