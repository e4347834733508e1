-- Where spans and line tables of an object went, of which 0x20 to 0x40 went to 0x100002000.
use Rattle.std.proofs.Common.{◌≡◌, ℕ, Bool, true, false, [], ◌∷◌, refl}
use Rattle.dwarf_types.specs.declared.address.Addr.TheVariants as addrs
use Rattle.dwarf_types.specs.declared.address.Span.{Span}
use Rattle.dwarf_types.specs.declared.lines.Row.{Row}
use Rattle.dwarf_types.specs.declared.lists.RawSpan.{RawSpan}
use Rattle.moved_parts.specs.Lines.{lines_moved}
use Rattle.moved_parts.specs.Spans.{span_moved, spans_moved}
use Rattle.reader_tests.proofs.Object.{map}
use Rattle.reader_tests.proofs.WorkedLines.{printed}

-- a span that begins below the range, and the piece of it that the range holds
abbrev span : RawSpan
span = record { low = addrs.Placed 0x18; high = addrs.Placed 0x30 }

abbrev piece : Span
piece = record { low = 0x100002000; high = 0x100002010 }

a_span : span_moved map span ≡ piece ∷ []
a_span = refl

spans : spans_moved map (span ∷ span ∷ []) ≡ piece ∷ piece ∷ []
spans = refl

-- address, line, column, and whether it has the flag is_stmt
abbrev row : ℕ → ℕ → ℕ → Bool → Row
row address line column is_stmt = record {
  address = address;
  file = 1;
  line = line;
  column = column;
  discriminator = 0;
  isa = 0;
  is_stmt = is_stmt;
  basic_block = false;
  prologue_end = false;
  epilogue_begin = false;
}

-- the rows of the first function from 0x20 on, which end with the range
a_line_table : lines_moved map printed ≡ record {
  dirs = [];
  files = printed.files;
  sequences =
      record {
        rows =
            row 0x100002000 7 25 true
            ∷ row 0x100002008 6 29 true
            ∷ row 0x10000200f 6 23 false
            ∷ row 0x10000201a 6 5 false
            ∷ row 0x10000201c 8 5 true ∷ [];
        end = 0x100002020;
      } ∷ [];
}
a_line_table = refl
