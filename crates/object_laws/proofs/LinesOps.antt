-- What operations of a line program leave: registers that fit, and files that are files.
use Rattle.std.proofs.Common.{◌≡◌, ℕ, ◌-◌, ◌^◌, ◌<◌, Bool, true, false, List, [], ◌∷◌, length, Option, Some, None, Result, Ok, Err, refl, sym, subst, arith, ℤ, pos, negsuc, ◌+ℤ◌}
use Rattle.std.specs.Prelude.{◌==◌, nat_le, nat_lt, not, if◌then◌else◌, unsigned_abs}
use Rattle.std.specs.Int.{int_rem_euclid}
use Rattle.std.specs.List.{AllByRecursion}
use Rattle.ds_base.specs.DwarfNumbers.{DW_LNS_copy, DW_LNS_advance_pc, DW_LNS_advance_line, DW_LNS_set_file, DW_LNS_set_column, DW_LNS_negate_stmt, DW_LNS_set_basic_block, DW_LNS_const_add_pc, DW_LNS_extended_op, DW_LNS_fixed_advance_pc, DW_LNS_set_prologue_end, DW_LNS_set_epilogue_begin, DW_LNS_set_isa, DW_LNE_end_sequence, DW_LNE_set_address, DW_LNE_define_file, DW_LNE_set_discriminator}
use Rattle.ds_base.specs.declared.fault.Fault.{Fault}
use Rattle.ds_base.specs.Spot.{Spot}
use Rattle.ds_base.specs.Reading.{◌>>=◌, refuse_if, bytes_at, number_at, text_at, uleb_at, sleb_at}
use Rattle.ds_base.proofs.Passing.{bind_ok, passed, ok_is}
use Rattle.dwarf_types.specs.declared.lines.FileName.{FileName}
use Rattle.dwarf_types.specs.declared.lines.RawRow.{RawRow}
use Rattle.dwarf_types.specs.declared.lines.Row.{Row}
use Rattle.dwarf_types.specs.Spelled.{AreTextBytes}
use Rattle.macho_read.specs.declared.image.Image.{Image}
use Rattle.reloc_table.specs.declared.relocation.Relocs.{Relocs}
use Rattle.line_read.specs.Codes.{standard_of, extended_of}
use Rattle.line_read.specs.Operation.{standard_at, operand_count, low_at, ulebs_at, bad_op, defined_at, operands_at, filled_at, body_at, inside, part_at, extended_at, op_at}
use Rattle.line_read.specs.Program.{MatrixRow, defined, row_of}
use Rattle.line_read.specs.Registers.{initial, changed, next, lines_on}
use Rattle.line_read.proofs.OperationPlaces.{op_onward}
use Rattle.object_laws.proofs.LinesMoved.{FitsRow, FitsRaw}
use Rattle.object_laws.proofs.LinesReads.{Holds, onward_holds, number_holds, uleb_holds, text_is, uleb_below}

-- the type of a function's first argument, and of its second
abbrev pub First : {A B : Type 0} → (A → B) → Type 0
First {A = A} f = A

abbrev pub Second : {A B C : Type 0} → (A → B → C) → Type 0
Second {B = B} f = B

abbrev pub Header : Type 0
Header = First initial

abbrev pub Operation : Type 0
Operation = Second changed

abbrev pub RowFits : MatrixRow → Type 0
RowFits row = FitsRaw row.registers

-- a file that an operation defines in a table of a version before 5
pub record IsDefined (version : ℕ) (file : FileName) : Type 0 where
  pub old : nat_lt version 5 ≡ true
  pub some : 0 < length file.name
  pub text : AreTextBytes file.name
  pub dir : file.dir < 2 ^ 64
  pub time : file.time < 2 ^ 64
  pub size : file.size < 2 ^ 64
  pub digest : file.digest ≡ None

-- what an operation of a table of a version leaves
pub record IsGood (version : ℕ) (op : Operation) : Type 0 where
  pub defines : (place : ℕ) (more : List (ℕ × Operation)) → AllByRecursion (IsDefined version) (defined more) → AllByRecursion (IsDefined version) (defined ((place, op) ∷ more))
  pub rows : (header : Header) (place : ℕ) (r : RawRow) → FitsRaw r → AllByRecursion RowFits (row_of header place op r)
  pub registers : (header : Header) (r : RawRow) → FitsRaw r → FitsRaw (next header op r)

-- ---- registers

line_fits : (step : ℤ) (line : ℕ) → lines_on step line < 2 ^ 32
line_fits step line = small (pos line +ℤ step)
  where
    small : (z : ℤ) → unsigned_abs (int_rem_euclid z (pos (2 ^ 32))) < 2 ^ 32
    small (pos n) = omega arith
    small (negsuc n) = omega arith

cleared_fits : (row : Row) → FitsRow row → FitsRow (record row { discriminator = 0; basic_block = false; prologue_end = false; epilogue_begin = false })
cleared_fits row h = record { file = h.file; line = h.line; column = h.column; discriminator = omega arith; isa = h.isa }

with_line : (row : Row) (n : ℕ) → n < 2 ^ 32 → FitsRow row → FitsRow (record row { line = n })
with_line row n small h = record { file = h.file; line = small; column = h.column; discriminator = h.discriminator; isa = h.isa }

same_fits : (row new : Row) → FitsRow row → new.file ≡ row.file → new.line ≡ row.line → new.column ≡ row.column → new.discriminator ≡ row.discriminator → new.isa ≡ row.isa → FitsRow new
same_fits row new h a b c d e = record {
  file = subst (λ (n : ℕ). n < 2 ^ 64) (sym a) h.file;
  line = subst (λ (n : ℕ). n < 2 ^ 32) (sym b) h.line;
  column = subst (λ (n : ℕ). n < 2 ^ 64) (sym c) h.column;
  discriminator = subst (λ (n : ℕ). n < 2 ^ 64) (sym d) h.discriminator;
  isa = subst (λ (n : ℕ). n < 2 ^ 64) (sym e) h.isa;
}

abbrev done_at : {A : Type 0} → A → Spot → Result (A × Spot) Fault
done_at x s = Ok (x, s)

here : {version : ℕ} (op : Operation) (s : Spot) (y : Operation × Spot) → done_at op s ≡ Ok y → IsGood version op → IsGood version y.0
here {version} op s y e good = subst (λ (p : Operation × Spot). IsGood version p.0) (ok_is (op, s) y e) good

either : {A : Type 0} (P : A → Type 0) (b : Bool) (x y : A) → P x → P y → P (if b then x else y)
either P true x y p q = p
either P false x y p q = q

-- ---- standard operations

abbrev Standard : Type 0
Standard = First standard_at

-- an operation that is read behind its code is good
abbrev LowGood : Header → ℕ → Option Standard → Type 0
LowGood header code op = (s : Spot) (y : Operation × Spot) → low_at header code op s ≡ Ok y → IsGood header.version y.0

low_good : (header : Header) (code : ℕ) → LowGood header code (standard_of code)
unfolding standard_of low_at standard_at changed
low_good header code =
    either (LowGood header code) (code == DW_LNS_copy) _ _ (λ s y e. here _ _ y e (record { defines = λ place more h. h; rows = λ h place r fits. (fits, tt); registers = λ h r fits. cleared_fits r.row fits }))
    (either (LowGood header code) (code == DW_LNS_advance_pc) _ _ (λ s y e. let b = bind_ok (uleb_at s) _ y e in here _ _ y b.2 (record { defines = λ place more h. h; rows = λ h place r fits. tt; registers = λ h r fits. fits }))
    (either (LowGood header code) (code == DW_LNS_advance_line) _ _ (λ s y e. let b = bind_ok (sleb_at s) _ y e in here _ _ y b.2 (record { defines = λ place more h. h; rows = λ h place r fits. tt; registers = λ h r fits. with_line r.row _ (line_fits b.0.0 r.row.line) fits }))
    (either (LowGood header code) (code == DW_LNS_set_file) _ _ (λ s y e. let b = bind_ok (uleb_at s) _ y e in here _ _ y b.2 (record { defines = λ place more h. h; rows = λ h place r fits. tt; registers = λ h r fits. record { file = uleb_below s b.0 b.1; line = fits.line; column = fits.column; discriminator = fits.discriminator; isa = fits.isa } }))
    (either (LowGood header code) (code == DW_LNS_set_column) _ _ (λ s y e. let b = bind_ok (uleb_at s) _ y e in here _ _ y b.2 (record { defines = λ place more h. h; rows = λ h place r fits. tt; registers = λ h r fits. record { file = fits.file; line = fits.line; column = uleb_below s b.0 b.1; discriminator = fits.discriminator; isa = fits.isa } }))
    (either (LowGood header code) (code == DW_LNS_negate_stmt) _ _ (λ s y e. here _ _ y e (record { defines = λ place more h. h; rows = λ h place r fits. tt; registers = λ h r fits. same_fits r.row _ fits refl refl refl refl refl }))
    (either (LowGood header code) (code == DW_LNS_set_basic_block) _ _ (λ s y e. here _ _ y e (record { defines = λ place more h. h; rows = λ h place r fits. tt; registers = λ h r fits. same_fits r.row _ fits refl refl refl refl refl }))
    (either (LowGood header code) (code == DW_LNS_const_add_pc) _ _ (λ s y e. here _ _ y e (record { defines = λ place more h. h; rows = λ h place r fits. tt; registers = λ h r fits. fits }))
    (either (LowGood header code) (code == DW_LNS_fixed_advance_pc) _ _ (λ s y e. let b = bind_ok (number_at 2 s) _ y e in here _ _ y b.2 (record { defines = λ place more h. h; rows = λ h place r fits. tt; registers = λ h r fits. fits }))
    (either (LowGood header code) (code == DW_LNS_set_prologue_end) _ _ (λ s y e. here _ _ y e (record { defines = λ place more h. h; rows = λ h place r fits. tt; registers = λ h r fits. same_fits r.row _ fits refl refl refl refl refl }))
    (either (LowGood header code) (code == DW_LNS_set_epilogue_begin) _ _ (λ s y e. here _ _ y e (record { defines = λ place more h. h; rows = λ h place r fits. tt; registers = λ h r fits. same_fits r.row _ fits refl refl refl refl refl }))
    (either (LowGood header code) (code == DW_LNS_set_isa) _ _ (λ s y e. let b = bind_ok (uleb_at s) _ y e in here _ _ y b.2 (record { defines = λ place more h. h; rows = λ h place r fits. tt; registers = λ h r fits. record { file = fits.file; line = fits.line; column = fits.column; discriminator = fits.discriminator; isa = uleb_below s b.0 b.1 } }))
    (λ s y e. let b = bind_ok (ulebs_at (operand_count header code) s) _ y e in here _ _ y b.2 (record { defines = λ place more h. h; rows = λ h place r fits. tt; registers = λ h r fits. fits })))))))))))))

-- ---- extended operations

-- a name that is not empty
pub name_some : (name : List ℕ) → (length name == 0) ≡ false → 0 < length name
name_some [] some = absurd cc
name_some (b ∷ name) some = omega arith

file_here : (version : ℕ) (file : FileName) (s : Spot) (y : FileName × Spot) → done_at file s ≡ Ok y → IsDefined version file → IsDefined version y.0
file_here version file s y e is = subst (λ (p : FileName × Spot). IsDefined version p.0) (ok_is (file, s) y e) is

defined_is : (version : ℕ) (first s : Spot) (y : FileName × Spot) → nat_lt version 5 ≡ true → Holds s → defined_at first s ≡ Ok y → IsDefined version y.0
unfolding defined_at
defined_is version first s y old h e =
    let name = bind_ok (text_at s) _ y e in
    let some = passed (length name.0.0 == 0) (bad_op first) _ y name.2 in
    let dir = bind_ok (uleb_at name.0.1) _ y some.1 in
    let time = bind_ok (uleb_at dir.0.1) _ y dir.2 in
    let size = bind_ok (uleb_at time.0.1) _ y time.2 in
    file_here version (record { name = name.0.0; dir = dir.0.0; time = time.0.0; size = size.0.0; digest = None }) size.0.1 y size.2 (record {
      old = old;
      some = name_some name.0.0 some.0;
      text = text_is s name.0 h name.1;
      dir = uleb_below name.0.1 dir.0 dir.1;
      time = uleb_below dir.0.1 time.0 time.1;
      size = uleb_below time.0.1 size.0 size.1;
      digest = refl;
    })

abbrev done : {A : Type 0} → A → Result A Fault
done x = Ok x

whole : {version : ℕ} (op : Operation) (y : Operation) → done op ≡ Ok y → IsGood version op → IsGood version y
whole {version} op y e good = subst (IsGood version) (ok_is op y e) good

-- what known operands leave; they fill the body
filled : {version : ℕ} (x : Result (Operation × Spot) Fault) (first : Spot) (y : Operation)
    → (x >>= λ x. refuse_if (not (x.1.end - x.1.place == 0)) (bad_op first) >>= λ u. Ok x.0) ≡ Ok y → ((z : Operation × Spot) → x ≡ Ok z → IsGood version z.0) → IsGood version y
filled x first y e known =
    let b = bind_ok x _ y e in
    let p = passed (not (b.0.1.end - b.0.1.place == 0)) (bad_op first) (Ok b.0.0) y b.2 in
    whole b.0.0 y p.1 (known b.0 b.1)

abbrev Fourth : {A B C D E : Type 0} → (A → B → C → D → E) → Type 0
Fourth {D = D} f = D

abbrev Extended : Type 0
Extended = Fourth operands_at

abbrev FilledGood : ℕ → Image → Relocs → Spot → Option Extended → Type 0
FilledGood version image relocs first op = (s : Spot) (y : Operation) → Holds s → filled_at image relocs first op s ≡ Ok y → IsGood version y

pub initial_fits : (header : Header) → FitsRaw (initial header)
initial_fits header = record { file = omega arith; line = omega arith; column = omega arith; discriminator = omega arith; isa = omega arith }

-- operands that are read leave a good operation
abbrev OperandsGood : ℕ → Image → Relocs → Spot → Extended → Type 0
OperandsGood version image relocs first op = (s : Spot) (y : Operation × Spot) → Holds s → operands_at image relocs first op s ≡ Ok y → IsGood version y.0

abbrev KnownGood : ℕ → Image → Relocs → Spot → Option Extended → Type 0
KnownGood version image relocs first None = Unit {0}
KnownGood version image relocs first (Some op) = OperandsGood version image relocs first op

either_told : {A : Type 0} (P : A → Type 0) (b : Bool) (x y : A) → (b ≡ true → P x) → P y → P (if b then x else y)
either_told P true x y p q = p refl
either_told P false x y p q = q

known_good : (version : ℕ) (image : Image) (relocs : Relocs) (first : Spot) (code : ℕ) → KnownGood version image relocs first (extended_of version code)
unfolding extended_of operands_at changed
known_good version image relocs first code =
    either (KnownGood version image relocs first) (code == DW_LNE_end_sequence) _ _ (λ s z h is. here _ _ z is (record { defines = λ place more h. h; rows = λ h place r fits. (fits, tt); registers = λ h r fits. initial_fits h }))
    (either (KnownGood version image relocs first) (code == DW_LNE_set_address) _ _ (λ s z h is. let b = bind_ok (number_at 8 s) _ z is in here _ _ z b.2 (record { defines = λ place more h. h; rows = λ h place r fits. tt; registers = λ h r fits. fits }))
    (either (KnownGood version image relocs first) (code == DW_LNE_define_file) _ _
    (either_told (KnownGood version image relocs first) (nat_lt version 5) _ _
    (λ old s z h is. let b = bind_ok (defined_at first s) _ z is in here _ _ z b.2 (record { defines = λ place more all. (defined_is version first s b.0 old h b.1, all); rows = λ h place r fits. tt; registers = λ h r fits. fits })) tt)
    (either (KnownGood version image relocs first) (code == DW_LNE_set_discriminator) _ _ (λ s z h is. let b = bind_ok (uleb_at s) _ z is in here _ _ z b.2 (record { defines = λ place more h. h; rows = λ h place r fits. tt; registers = λ h r fits. record { file = fits.file; line = fits.line; column = fits.column; discriminator = uleb_below s b.0 b.1; isa = fits.isa } }))
    tt)))

filled_good : (version : ℕ) (image : Image) (relocs : Relocs) (first : Spot) (op : Option Extended) → KnownGood version image relocs first op → FilledGood version image relocs first op
unfolding filled_at changed
filled_good version image relocs first None good s y h e = whole _ y e (record { defines = λ place more h. h; rows = λ h place r fits. tt; registers = λ h r fits. fits })
filled_good version image relocs first (Some op) good s y h e = filled (operands_at image relocs first op s) first y e (λ z is. good s z h is)

body_good : (header : Header) (image : Image) (relocs : Relocs) (first s : Spot) (y : Operation) → Holds s → body_at header image relocs first s ≡ Ok y → IsGood header.version y
unfolding body_at
body_good header image relocs first s y h e =
    let code = bind_ok (number_at 1 s) _ y e in
    filled_good header.version image relocs first (extended_of header.version code.0.0) (known_good header.version image relocs first code.0.0) code.0.1 y (number_holds 1 s code.0 h code.1) code.2

inside_ok : {A : Type 0} (first : Spot) (r : Result A Fault) (x : A) → inside first r ≡ Ok x → r ≡ Ok x
inside_ok first (Ok y) x e = e
inside_ok first (Err f) x e = absurd cc

part_holds : (n : ℕ) (s : Spot) (y : Spot × Spot) → Holds s → part_at n s ≡ Ok y → Holds y.0
unfolding part_at
part_holds n s y h e =
    let b = bind_ok (bytes_at n s) _ y e in
    subst (λ (p : Spot × Spot). Holds p.0) (ok_is (record s { end = b.0.1.place }, b.0.1) y b.2) h

extended_good : (header : Header) (image : Image) (relocs : Relocs) (first s : Spot) (y : Operation × Spot) → Holds s → extended_at header image relocs first s ≡ Ok y → IsGood header.version y.0
unfolding extended_at
extended_good header image relocs first s y h e =
    let len = bind_ok (uleb_at s) _ y e in
    let some = passed (len.0.0 == 0) (bad_op first) _ y len.2 in
    let body = bind_ok (part_at len.0.0 len.0.1) _ y some.1 in
    let op = bind_ok (inside first (body_at header image relocs first body.0.0)) _ y body.2 in
    here op.0 body.0.1 y op.2 (body_good header image relocs first body.0.0 op.0 (part_holds len.0.0 len.0.1 body.0 (uleb_holds s len.0 h len.1) body.1) (inside_ok first (body_at header image relocs first body.0.0) op.0 op.1))

-- ---- all operations

abbrev OpGood : ℕ → Result (Operation × Spot) Fault → Type 0
OpGood version op = (y : Operation × Spot) → op ≡ Ok y → IsGood version y.0

op_is_good : (header : Header) (image : Image) (relocs : Relocs) (s : Spot) (y : Operation × Spot) → Holds s → op_at header image relocs s ≡ Ok y → IsGood header.version y.0
unfolding op_at changed
op_is_good header image relocs s y h e =
    let code = bind_ok (number_at 1 s) _ y e in
    let left = number_holds 1 s code.0 h code.1 in
    either (OpGood header.version) (nat_le header.opcode_base code.0.0) _ _
    (λ y e. here _ _ y e (record { defines = λ place more h. h; rows = λ g place r fits. (with_line r.row _ (line_fits _ r.row.line) fits, tt); registers = λ g r fits. cleared_fits _ (with_line r.row _ (line_fits _ r.row.line) fits) }))
    (either (OpGood header.version) (code.0.0 == DW_LNS_extended_op) _ _ (λ y e. extended_good header image relocs s code.0.1 y left e) (λ y e. low_good header code.0.0 code.0.1 y e)) y code.2

-- an operation that was read, and what is left
pub record WasRead (version : ℕ) (y : Operation × Spot) : Type 0 where
  pub good : IsGood version y.0
  pub left : Holds y.1

pub op_read : (header : Header) (image : Image) (relocs : Relocs) (s : Spot) (y : Operation × Spot) → Holds s → op_at header image relocs s ≡ Ok y → WasRead header.version y
op_read header image relocs s y h e = record { good = op_is_good header image relocs s y h e; left = onward_holds s y.1 (op_onward header image relocs s y e) h }
