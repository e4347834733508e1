-- One operation of a line program (DWARF 4 and DWARF 5, section 6.2.5): what its bytes say, or the first fault.
use Rattle.std.specs.Prelude.{ℕ, zero, suc, ◌-◌, ◌==◌, not, length, nat_le, slice_index, Option, Some, None, Result, Ok, Err, if◌then◌else◌}
use Rattle.ds_base.specs.DwarfNumbers.{DW_LNS_extended_op}
use Rattle.ds_base.specs.declared.fault.Fault.{Fault}
use Rattle.ds_base.specs.declared.fault.Kind.{Kind}
use Rattle.ds_base.specs.declared.fault.Kind.TheVariants as kinds
use Rattle.ds_base.specs.Spot.{Spot, fault_at}
use Rattle.ds_base.specs.Reading.{◌>>=◌, refuse_if, bytes_at, number_at, text_at, uleb_at, sleb_at}
use Rattle.dwarf_types.specs.declared.lines.FileName.{FileName}
use Rattle.macho_read.specs.declared.image.Image.{Image}
use Rattle.reloc_table.specs.declared.relocation.Relocs.{Relocs}
use Rattle.reloc_table.specs.Address.{address_of}
use Rattle.line_read.specs.declared.header.LineHeader.{LineHeader}
use Rattle.line_read.specs.declared.codes.StandardOp.{StandardOp}
use Rattle.line_read.specs.declared.codes.StandardOp.TheVariants as standard
use Rattle.line_read.specs.declared.codes.ExtendedOp.{ExtendedOp}
use Rattle.line_read.specs.declared.codes.ExtendedOp.TheVariants as extended
use Rattle.line_read.specs.declared.operation.LineOp.{LineOp}
use Rattle.line_read.specs.declared.operation.LineOp.TheVariants as ops
use Rattle.line_read.specs.Codes.{standard_of, extended_of}

-- an operation made of its one operand
abbrev pub made : {A : Type 0} → (A → LineOp) → Result (A × Spot) Fault → Result (LineOp × Spot) Fault
made op operand = operand >>= λ x. Ok (op x.0, x.1)

-- a standard operation, behind its code (section 6.2.5.2)
unfoldable pub standard_at : StandardOp → Spot → Result (LineOp × Spot) Fault
standard_at standard.Copy s = Ok (ops.Copy, s)
standard_at standard.AdvancePc s = made (λ n. ops.AdvancePc n) (uleb_at s)
standard_at standard.AdvanceLine s = made (λ n. ops.AdvanceLine n) (sleb_at s)
standard_at standard.SetFile s = made (λ n. ops.SetFile n) (uleb_at s)
standard_at standard.SetColumn s = made (λ n. ops.SetColumn n) (uleb_at s)
standard_at standard.NegateStmt s = Ok (ops.NegateStmt, s)
standard_at standard.SetBasicBlock s = Ok (ops.SetBasicBlock, s)
standard_at standard.ConstAddPc s = Ok (ops.ConstAddPc, s)
standard_at standard.FixedAdvancePc s = made (λ n. ops.FixedAdvancePc n) (number_at 2 s)
standard_at standard.SetPrologueEnd s = Ok (ops.SetPrologueEnd, s)
standard_at standard.SetEpilogueBegin s = Ok (ops.SetEpilogueBegin, s)
standard_at standard.SetIsa s = made (λ n. ops.SetIsa n) (uleb_at s)

-- so many LEB numbers are passed over
unfoldable pub ulebs_at : ℕ → Spot → Result (Unit {0} × Spot) Fault
ulebs_at zero s = Ok (tt, s)
ulebs_at (suc count) s = uleb_at s >>= λ n. ulebs_at count n.1

-- how many operands an operation has that is not known, by its code, which counts from 1: a header that was read tells it of each code below opcode_base
abbrev pub operand_count : LineHeader → ℕ → ℕ
operand_count header code = slice_index header.standard_opcode_lengths (code - 1)

-- behind the code of an operation below opcode_base: one that is not known is passed over
unfoldable pub low_at : LineHeader → ℕ → Option StandardOp → Spot → Result (LineOp × Spot) Fault
low_at header code (Some op) s = standard_at op s
low_at header code None s = ulebs_at (operand_count header code) s >>= λ x. Ok (ops.Unknown, x.1)

-- the body of an operation that begins at first does not fill its length, or has no name
abbrev pub bad_op : Spot → Fault
bad_op first = fault_at first kinds.BadLineOp

-- a file, of which the name is not empty
unfoldable pub defined_at : Spot → Spot → Result (FileName × Spot) Fault
defined_at first s = do
  name ← text_at s
  _ ← refuse_if (length name.0 == 0) (bad_op first)
  dir ← uleb_at name.1
  time ← uleb_at dir.1
  size ← uleb_at time.1
  Ok (record { name = name.0; dir = dir.0; time = time.0; size = size.0; digest = None }, size.1)

-- the operands of an extended operation (section 6.2.5.3); the place of an address decides what it means
unfoldable pub operands_at : Image → Relocs → Spot → ExtendedOp → Spot → Result (LineOp × Spot) Fault
operands_at image relocs first extended.EndSequence s = Ok (ops.EndSequence, s)
operands_at image relocs first extended.SetAddress s = made (λ n. ops.SetAddress (address_of image relocs s.place n)) (number_at 8 s)
operands_at image relocs first extended.DefineFile s = made (λ file. ops.DefineFile file) (defined_at first s)
operands_at image relocs first extended.SetDiscriminator s = made (λ n. ops.SetDiscriminator n) (uleb_at s)

-- the body behind its code: known operands fill it, and all else is passed over
unfoldable pub filled_at : Image → Relocs → Spot → Option ExtendedOp → Spot → Result LineOp Fault
filled_at image relocs first None s = Ok ops.Unknown
filled_at image relocs first (Some op) s = do
  x ← operands_at image relocs first op s
  _ ← refuse_if (not (x.1.end - x.1.place == 0)) (bad_op first)
  Ok x.0

-- the body of an extended operation, up to where it ends
unfoldable pub body_at : LineHeader → Image → Relocs → Spot → Spot → Result LineOp Fault
body_at header image relocs first s = do
  code ← number_at 1 s
  filled_at image relocs first (extended_of header.version code.0) code.1

-- what does not end in the body
abbrev pub fault_inside : Spot → Kind → Fault → Fault
fault_inside first kinds.Truncated f = bad_op first
fault_inside first kind f = f

abbrev pub inside : {A : Type 0} → Spot → Result A Fault → Result A Fault
inside first (Ok x) = Ok x
inside first (Err f) = Err (fault_inside first f.kind f)

-- the next n bytes, as where a cursor stands that ends with them
unfoldable pub part_at : ℕ → Spot → Result (Spot × Spot) Fault
part_at n s = do
  bytes ← bytes_at n s
  Ok (record s { end = bytes.1.place }, bytes.1)

-- an extended operation that begins at first: behind the zero the length of the body, and the body
unfoldable pub extended_at : LineHeader → Image → Relocs → Spot → Spot → Result (LineOp × Spot) Fault
extended_at header image relocs first s = do
  len ← uleb_at s
  _ ← refuse_if (len.0 == 0) (bad_op first)
  body ← part_at len.0 len.1
  op ← inside first (body_at header image relocs first body.0)
  Ok (op, body.1)

-- an operation; a special one is told by its code less opcode_base (section 6.2.5.1)
unfoldable pub op_at : LineHeader → Image → Relocs → Spot → Result (LineOp × Spot) Fault
op_at header image relocs s = do
  code ← number_at 1 s
  if nat_le header.opcode_base code.0 then Ok (ops.Special (code.0 - header.opcode_base), code.1)
      else if code.0 == DW_LNS_extended_op then extended_at header image relocs s code.1
      else low_at header code.0 (standard_of code.0) code.1
