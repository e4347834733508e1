-- The operations of a line program for given rows (DWARF 4, section 6.2.5), and the registers between them (section 6.2.2).
use Rattle.std.specs.Prelude.{ℕ, ◌+◌, ◌-◌, ◌*◌, ◌==◌, ◌&&◌, not, Bool, true, false, pos, ◌-ℤ◌, List, [], ◌∷◌, ◌++◌, length, nat_le, if◌then◌else◌}
use Rattle.byteorder.specs.Endian.{little_bytes}
use Rattle.ds_base.specs.DwarfNumbers.{DW_LNE_end_sequence, DW_LNE_set_address, DW_LNE_set_discriminator, DW_LNS_advance_line, DW_LNS_advance_pc, DW_LNS_copy, DW_LNS_extended_op, DW_LNS_negate_stmt, DW_LNS_set_basic_block, DW_LNS_set_column, DW_LNS_set_epilogue_begin, DW_LNS_set_file, DW_LNS_set_isa, DW_LNS_set_prologue_end}
use Rattle.ds_base.specs.Leb.{uleb, sleb}
use Rattle.dwarf_types.specs.declared.lines.Row.{Row}
use Rattle.dwarf_types.specs.declared.lines.Sequence.{Sequence}
use Rattle.dwarf_types.specs.Abbreviations.{same_flag}

-- ---- registers

-- at the beginning of a sequence, whose address is set
abbrev pub registers_at : ℕ → Row
registers_at address =
    record { address = address; file = 1; line = 1; column = 0; discriminator = 0; isa = 0; is_stmt = true; basic_block = false; prologue_end = false; epilogue_begin = false }

-- after a row
abbrev pub registers_after : Row → Row
registers_after row = record row { discriminator = 0; basic_block = false; prologue_end = false; epilogue_begin = false }

-- ---- operations

abbrev pub extended : List ℕ → List ℕ
extended body = DW_LNS_extended_op ∷ (uleb (length body) ++ body)

abbrev pub set_address : ℕ → List ℕ
set_address address = extended (DW_LNE_set_address ∷ little_bytes 8 address)

abbrev pub end_sequence : List ℕ
end_sequence = extended (DW_LNE_end_sequence ∷ [])

-- sets a register, where it has another number
abbrev pub set_number : ℕ → ℕ → ℕ → List ℕ
set_number code before n = if n == before then [] else code ∷ uleb n

abbrev pub set_discriminator : ℕ → List ℕ
set_discriminator n = if n == 0 then [] else extended (DW_LNE_set_discriminator ∷ uleb n)

-- an operation without operands, where it is wanted
abbrev pub when : Bool → ℕ → List ℕ
when wanted code = if wanted then code ∷ [] else []

abbrev pub advance_pc : ℕ → List ℕ
advance_pc step = if step == 0 then [] else DW_LNS_advance_pc ∷ uleb step

abbrev pub advance_line : ℕ → ℕ → List ℕ
advance_line before line = if line == before then [] else DW_LNS_advance_line ∷ sleb (pos line -ℤ pos before)

-- ---- a special operation: line and address advance together, and a row is appended

abbrev pub line_range : ℕ
line_range = 14

abbrev pub opcode_base : ℕ
opcode_base = 13

-- "opcode = (desired line increment - line_base) + (line_range * operation advance) + opcode_base", where line_base is -5
abbrev pub special_opcode : Row → Row → ℕ
special_opcode before row = (row.line + 5 - before.line) + line_range * (row.address - before.address) + opcode_base

-- the line advances by -5 to 8, and the opcode is a byte
abbrev pub is_special : Row → Row → Bool
is_special before row = nat_le before.line (row.line + 5) && nat_le row.line (before.line + 8) && nat_le (special_opcode before row) 255

abbrev pub append_row : Row → Row → List ℕ
append_row before row =
    if is_special before row then special_opcode before row ∷ []
    else advance_line before.line row.line ++ (advance_pc (row.address - before.address) ++ (DW_LNS_copy ∷ []))

-- ---- rows and sequences

-- what appends a row, by the registers before it
abbrev pub row_bytes : Row → Row → List ℕ
row_bytes before row =
    set_number DW_LNS_set_file before.file row.file
    ++ (set_number DW_LNS_set_column before.column row.column
    ++ (set_discriminator row.discriminator
    ++ (set_number DW_LNS_set_isa before.isa row.isa
    ++ (when (not (same_flag before.is_stmt row.is_stmt)) DW_LNS_negate_stmt
    ++ (when row.basic_block DW_LNS_set_basic_block
    ++ (when row.prologue_end DW_LNS_set_prologue_end
    ++ (when row.epilogue_begin DW_LNS_set_epilogue_begin
    ++ append_row before row)))))))

-- what appends rows and ends their sequence at an address, by the registers before them
abbrev pub rows_bytes : Row → List Row → ℕ → List ℕ
rows_bytes before [] end = advance_pc (end - before.address) ++ end_sequence
rows_bytes before (row ∷ rows) end = row_bytes before row ++ rows_bytes (registers_after row) rows end

-- the address of the first row
abbrev pub first_address : List Row → ℕ
first_address [] = 0
first_address (row ∷ rows) = row.address

abbrev pub sequence_bytes : Sequence → List ℕ
sequence_bytes sequence = set_address (first_address sequence.rows) ++ rows_bytes (registers_at (first_address sequence.rows)) sequence.rows sequence.end
