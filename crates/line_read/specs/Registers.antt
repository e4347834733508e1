-- The registers of the line state machine (DWARF 4, section 6.2.2), and what each operation does to them (section 6.2.5).
use Rattle.std.specs.Prelude.{unsigned_abs, ℕ, ◌-◌, ◌*◌, ◌/◌, ◌%◌, ◌^◌, ℤ, pos, ◌+ℤ◌, true, false, not}
use Rattle.std.specs.Int.{int_rem_euclid}
use Rattle.dwarf_types.specs.declared.address.Addr.{Addr}
use Rattle.dwarf_types.specs.declared.address.Addr.TheVariants as addrs
use Rattle.dwarf_types.specs.declared.lines.RawRow.{RawRow}
use Rattle.dwarf_types.specs.declared.lines.Row.{Row}
use Rattle.dwarf_types.specs.Addresses.{plus}
use Rattle.line_read.specs.declared.header.LineHeader.{LineHeader}
use Rattle.line_read.specs.declared.operation.LineOp.{LineOp}
use Rattle.line_read.specs.declared.operation.LineOp.TheVariants as ops

-- "at the beginning of each sequence"
abbrev pub initial : LineHeader → RawRow
initial header =
    record {
      at = addrs.Fixed 0;
      row = record { address = 0; file = 1; line = 1; column = 0; discriminator = 0; isa = 0; is_stmt = header.default_is_stmt; basic_block = false; prologue_end = false; epilogue_begin = false };
    }

-- so many instructions on, each of the shortest length
abbrev pub instructions_on : LineHeader → ℕ → Addr → Addr
instructions_on header n at = plus at (header.minimum_instruction_length * n)

-- so many lines on, modulo 2^32
abbrev pub lines_on : ℤ → ℕ → ℕ
lines_on step line = unsigned_abs (int_rem_euclid (pos line +ℤ step) (pos (2 ^ 32)))

abbrev pub with_row : RawRow → Row → RawRow
with_row r row = record r { row = row }

-- what a special operation does, by its code less opcode_base: "address increment" and "line increment"
abbrev pub special : LineHeader → ℕ → RawRow → RawRow
special header adjusted r =
    record {
      at = instructions_on header (adjusted / header.line_range) r.at;
      row = record r.row { line = lines_on (header.line_base +ℤ pos (adjusted % header.line_range)) r.row.line };
    }

-- what an operation does to the registers, before it appends a row
unfoldable pub changed : LineHeader → LineOp → RawRow → RawRow
changed header (ops.Special adjusted) r = special header adjusted r
changed header ops.Copy r = r
changed header (ops.AdvancePc n) r = record r { at = instructions_on header n r.at }
changed header (ops.AdvanceLine step) r = with_row r (record r.row { line = lines_on step r.row.line })
changed header (ops.SetFile n) r = with_row r (record r.row { file = n })
changed header (ops.SetColumn n) r = with_row r (record r.row { column = n })
changed header ops.NegateStmt r = with_row r (record r.row { is_stmt = not r.row.is_stmt })
changed header ops.SetBasicBlock r = with_row r (record r.row { basic_block = true })
changed header ops.ConstAddPc r = record r { at = instructions_on header ((255 - header.opcode_base) / header.line_range) r.at }
changed header (ops.FixedAdvancePc n) r = record r { at = plus r.at n }
changed header ops.SetPrologueEnd r = with_row r (record r.row { prologue_end = true })
changed header ops.SetEpilogueBegin r = with_row r (record r.row { epilogue_begin = true })
changed header (ops.SetIsa n) r = with_row r (record r.row { isa = n })
changed header ops.EndSequence r = r
changed header (ops.SetAddress at) r = record r { at = at }
changed header (ops.DefineFile file) r = r
changed header (ops.SetDiscriminator n) r = with_row r (record r.row { discriminator = n })
changed header ops.Unknown r = r

-- what a row leaves behind
abbrev pub cleared : RawRow → RawRow
cleared r = with_row r (record r.row { discriminator = 0; basic_block = false; prologue_end = false; epilogue_begin = false })

-- the registers after an operation
abbrev pub next : LineHeader → LineOp → RawRow → RawRow
next header (ops.Special adjusted) r = cleared (changed header (ops.Special adjusted) r)
next header ops.Copy r = cleared r
next header ops.EndSequence r = initial header
next header op r = changed header op r
