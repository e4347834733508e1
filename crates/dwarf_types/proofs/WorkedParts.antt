-- Parts of sections as they stand in a file, byte for byte: a line program, an expression, lists, frames.
use Rattle.std.proofs.Common.{◌≡◌, ◌==◌, ℕ, true, false, List, [], ◌∷◌, ◌++◌, length, replicate, Some, None, refl, if◌then◌else◌}
use Rattle.ds_base.specs.Leb.{uleb, sleb}
use Rattle.dwarf_types.specs.declared.address.Span.{Span}
use Rattle.dwarf_types.specs.declared.frames.OutFrame.{OutFrame}
use Rattle.dwarf_types.specs.declared.lines.FileName.{FileName}
use Rattle.dwarf_types.specs.declared.lines.Row.{Row}
use Rattle.dwarf_types.specs.declared.lines.Sequence.{Sequence}
use Rattle.dwarf_types.specs.declared.parts.ExprPart.{ExprPart}
use Rattle.dwarf_types.specs.declared.parts.ExprPart.TheVariants as parts
use Rattle.dwarf_types.specs.Expressions.{expression_len, expression_bytes}
use Rattle.dwarf_types.specs.Frames.{frames_len, frames_bytes}
use Rattle.dwarf_types.specs.LineProgram.{sequence_bytes}
use Rattle.dwarf_types.specs.LineTable.{line_table_bytes}
use Rattle.dwarf_types.specs.Lists.{behind_header, location_list_len, location_list_bytes, range_list_len, range_list_bytes}

-- ---- a line program: lines 11 and 12 at 0x100002000 and 0x100002010, up to 0x100002020

row : ℕ → ℕ → Row
row address line =
    record { address = address; file = 1; line = line; column = 0; discriminator = 0; isa = 0; is_stmt = true; basic_block = false; prologue_end = false; epilogue_begin = false }

sequence : Sequence
sequence = record { rows = row 0x100002000 11 ∷ row 0x100002010 12 ∷ []; end = 0x100002020 }

program : sequence_bytes sequence ≡
    0x00 ∷ 0x09 ∷ 0x02 ∷ 0x00 ∷ 0x20 ∷ 0x00 ∷ 0x00 ∷ 0x01 ∷ 0x00 ∷ 0x00 ∷ 0x00
    ∷ 0x03 ∷ 0x0a ∷ 0x01
    ∷ 0xf3
    ∷ 0x02 ∷ 0x10
    ∷ 0x00 ∷ 0x01 ∷ 0x01 ∷ []
unfolding row sequence uleb sleb
program = refl

-- ---- a conversion to a base type, which is placed at 0x35, and a stack value

converted : List ExprPart
converted = parts.Typed 0xa8 [] (Some 4) [] ∷ parts.Plain (0x9f ∷ []) ∷ []

expression : expression_bytes (λ k. 0x35) converted ≡ 0xa8 ∷ 0xb5 ∷ 0x80 ∷ 0x80 ∷ 0x00 ∷ 0x9f ∷ []
unfolding converted
expression = refl

expression_length : expression_len converted ≡ 6
unfolding converted
expression_length = refl

-- ---- lists of one item

span : Span
span = record { low = 0x100002000; high = 0x100002010 }

locations : location_list_bytes 4 (λ k. 0) (record { span = span; parts = parts.Plain (0x50 ∷ []) ∷ [] } ∷ []) ≡
    0x00 ∷ 0x20 ∷ 0x00 ∷ 0x00 ∷ 0x01 ∷ 0x00 ∷ 0x00 ∷ 0x00 ∷ 0x10 ∷ 0x20 ∷ 0x00 ∷ 0x00 ∷ 0x01 ∷ 0x00 ∷ 0x00 ∷ 0x00
    ∷ 0x01 ∷ 0x00 ∷ 0x50
    ∷ replicate 16 0
unfolding span
locations = refl

locations_length : location_list_len 4 (record { span = span; parts = parts.Plain (0x50 ∷ []) ∷ [] } ∷ []) ≡ 35
locations_length = refl

ranges : range_list_bytes 4 (span ∷ []) ≡
    0x00 ∷ 0x20 ∷ 0x00 ∷ 0x00 ∷ 0x01 ∷ 0x00 ∷ 0x00 ∷ 0x00 ∷ 0x10 ∷ 0x20 ∷ 0x00 ∷ 0x00 ∷ 0x01 ∷ 0x00 ∷ 0x00 ∷ 0x00
    ∷ replicate 16 0
unfolding span
ranges = refl

ranges_length : range_list_len 4 (span ∷ []) ≡ 32
ranges_length = refl

-- ---- the same lists in version 5, the range list behind the header of its section

locations_of_5 : location_list_bytes 5 (λ k. 0) (record { span = span; parts = parts.Plain (0x50 ∷ []) ∷ [] } ∷ []) ≡
    0x07 ∷ 0x00 ∷ 0x20 ∷ 0x00 ∷ 0x00 ∷ 0x01 ∷ 0x00 ∷ 0x00 ∷ 0x00 ∷ 0x10 ∷ 0x20 ∷ 0x00 ∷ 0x00 ∷ 0x01 ∷ 0x00 ∷ 0x00 ∷ 0x00
    ∷ 0x01 ∷ 0x50
    ∷ 0x00 ∷ []
unfolding span uleb
locations_of_5 = refl

ranges_of_5 : behind_header (range_list_bytes 5 (span ∷ [])) ≡
    0x1a ∷ 0x00 ∷ 0x00 ∷ 0x00 ∷ 0x05 ∷ 0x00 ∷ 0x08 ∷ 0x00 ∷ 0x00 ∷ 0x00 ∷ 0x00 ∷ 0x00
    ∷ 0x06 ∷ 0x00 ∷ 0x20 ∷ 0x00 ∷ 0x00 ∷ 0x01 ∷ 0x00 ∷ 0x00 ∷ 0x00 ∷ 0x10 ∷ 0x20 ∷ 0x00 ∷ 0x00 ∷ 0x01 ∷ 0x00 ∷ 0x00 ∷ 0x00
    ∷ 0x00 ∷ []
unfolding span
ranges_of_5 = refl

-- ---- a line table of version 5: two files of one name in one directory, without digests, whose texts stand at 0 and 5

named : List ℕ → ℕ
named text = if length text == 4 then 0 else 5

twice : FileName
twice = record { name = 0x61 ∷ 0x2e ∷ 0x63 ∷ []; dir = 0; time = 0; size = 0; digest = None }

table_of_5 : line_table_bytes 5 named (record { dirs = (0x2f ∷ 0x73 ∷ 0x72 ∷ 0x63 ∷ []) ∷ []; files = twice ∷ twice ∷ []; sequences = [] }) ≡
    0x3a ∷ 0x00 ∷ 0x00 ∷ 0x00 ∷ 0x05 ∷ 0x00 ∷ 0x08 ∷ 0x00 ∷ 0x32 ∷ 0x00 ∷ 0x00 ∷ 0x00 ∷ 0x01 ∷ 0x01 ∷ 0x01 ∷ 0xfb ∷ 0x0e ∷ 0x0d
    ∷ 0x00 ∷ 0x01 ∷ 0x01 ∷ 0x01 ∷ 0x01 ∷ 0x00 ∷ 0x00 ∷ 0x00 ∷ 0x01 ∷ 0x00 ∷ 0x00 ∷ 0x01
    ∷ 0x01 ∷ 0x01 ∷ 0x1f ∷ 0x01 ∷ 0x00 ∷ 0x00 ∷ 0x00 ∷ 0x00
    ∷ 0x04 ∷ 0x01 ∷ 0x1f ∷ 0x02 ∷ 0x0f ∷ 0x03 ∷ 0x0f ∷ 0x04 ∷ 0x0f
    ∷ 0x02 ∷ 0x05 ∷ 0x00 ∷ 0x00 ∷ 0x00 ∷ 0x00 ∷ 0x00 ∷ 0x00 ∷ 0x05 ∷ 0x00 ∷ 0x00 ∷ 0x00 ∷ 0x00 ∷ 0x00 ∷ 0x00 ∷ []
unfolding uleb named twice
table_of_5 = refl

-- ---- a common information entry, and a frame description that names it

content : List ℕ
content = 0x04 ∷ 0x00 ∷ 0x08 ∷ 0x00 ∷ 0x01 ∷ 0x78 ∷ 0x1e ∷ 0x00 ∷ []

frame : OutFrame
frame = record { cie = content; address = 0x100003f50; length = 0x2a; code = [] }

first_frame : List ℕ
first_frame =
    0x0c ∷ 0x00 ∷ 0x00 ∷ 0x00 ∷ 0xff ∷ 0xff ∷ 0xff ∷ 0xff ∷ 0x04 ∷ 0x00 ∷ 0x08 ∷ 0x00 ∷ 0x01 ∷ 0x78 ∷ 0x1e ∷ 0x00
    ∷ 0x14 ∷ 0x00 ∷ 0x00 ∷ 0x00 ∷ 0x00 ∷ 0x00 ∷ 0x00 ∷ 0x00
    ∷ 0x50 ∷ 0x3f ∷ 0x00 ∷ 0x00 ∷ 0x01 ∷ 0x00 ∷ 0x00 ∷ 0x00 ∷ 0x2a ∷ 0x00 ∷ 0x00 ∷ 0x00 ∷ 0x00 ∷ 0x00 ∷ 0x00 ∷ 0x00 ∷ []

frames : frames_bytes (frame ∷ []) ≡ first_frame
unfolding content frame first_frame
frames = refl

frames_length : frames_len (frame ∷ []) ≡ 40
unfolding content frame
frames_length = refl

-- a second description names the same one, which is not repeated
more_frames : frames_bytes (frame ∷ frame ∷ []) ≡ first_frame ++ (
    0x14 ∷ 0x00 ∷ 0x00 ∷ 0x00 ∷ 0x00 ∷ 0x00 ∷ 0x00 ∷ 0x00
    ∷ 0x50 ∷ 0x3f ∷ 0x00 ∷ 0x00 ∷ 0x01 ∷ 0x00 ∷ 0x00 ∷ 0x00 ∷ 0x2a ∷ 0x00 ∷ 0x00 ∷ 0x00 ∷ 0x00 ∷ 0x00 ∷ 0x00 ∷ 0x00 ∷ [])
unfolding content frame first_frame
more_frames = refl
