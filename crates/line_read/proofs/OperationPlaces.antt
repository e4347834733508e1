-- Where the cursor stands behind a header's fields, and behind an operation.
use Rattle.std.proofs.Common.{◌≡◌, ℕ, zero, suc, ◌-◌, ◌≤◌, not, Bool, true, false, Option, Some, None, Result, Ok, refl, subst, arith}
use Rattle.std.proofs.lemmas.Bool.{ltb-false}
use Rattle.std.specs.Prelude.{nat_lt, nat_le, ◌==◌, ◌||◌, if◌then◌else◌}
use Rattle.ds_base.specs.DwarfNumbers.{ADDRESS_SIZE, DW_LNS_extended_op}
use Rattle.ds_base.specs.declared.fault.Fault.{Fault}
use Rattle.ds_base.specs.declared.fault.Kind.TheVariants as kinds
use Rattle.ds_base.specs.Spot.{Spot, after, fault_at}
use Rattle.ds_base.specs.Reading.{◌>>=◌, refuse_if, bytes_at, number_at, uleb_at, sleb_at}
use Rattle.ds_base.proofs.Passing.{bind_ok, passed, guard_ok, ok_is}
use Rattle.macho_read.specs.declared.image.Image.{Image}
use Rattle.reloc_table.specs.declared.relocation.Relocs.{Relocs}
use Rattle.line_read.specs.declared.header.LineHeader.{LineHeader}
use Rattle.line_read.specs.declared.codes.StandardOp.{StandardOp}
use Rattle.line_read.specs.declared.codes.StandardOp.TheVariants as standard
use Rattle.line_read.specs.declared.operation.LineOp.{LineOp}
use Rattle.line_read.specs.declared.operation.LineOp.TheVariants as ops
use Rattle.line_read.specs.Codes.{standard_of}
use Rattle.line_read.specs.Header.{bad, last_version, version_at, sizes_at, program_at}
use Rattle.line_read.specs.Operation.{made, standard_at, ulebs_at, operand_count, low_at, bad_op, body_at, inside, part_at, extended_at, op_at}
use Rattle.ds_base.proofs.Onward.{Onward, Further, stays, onward_then, further_then, number_onward, bytes_onward, uleb_onward, sleb_onward}

-- ---- an operation

abbrev done_at : {A : Type 0} → A → Spot → Result (A × Spot) Fault
done_at x s = Ok (x, s)

here : {A : Type 0} (x : A) (s : Spot) (y : A × Spot) → done_at x s ≡ Ok y → Onward s y.1
here {A = A} x s y e = subst (λ (p : A × Spot). Onward s p.1) (ok_is (x, s) y e) (stays s)

there : {A : Type 0} (x : A) (s t : Spot) (y : A × Spot) → Onward s t → done_at x t ≡ Ok y → Onward s y.1
there {A = A} x s t y o e = subst (λ (p : A × Spot). Onward s p.1) (ok_is (x, t) y e) o

made_onward : {A : Type 0} (op : A → LineOp) (operand : Result (A × Spot) Fault) (s : Spot) (y : LineOp × Spot)
    → ((x : A × Spot) → operand ≡ Ok x → Onward s x.1) → made op operand ≡ Ok y → Onward s y.1
made_onward op operand s y known e =
    let b = bind_ok operand (λ x. Ok (op x.0, x.1)) y e in
    there (op b.0.0) s b.0.1 y (known b.0 b.1) b.2

standard_onward : (op : StandardOp) (s : Spot) (y : LineOp × Spot) → standard_at op s ≡ Ok y → Onward s y.1
unfolding standard_at
standard_onward standard.Copy s y e = here ops.Copy s y e
standard_onward standard.AdvancePc s y e = made_onward (λ n. ops.AdvancePc n) (uleb_at s) s y (uleb_onward s) e
standard_onward standard.AdvanceLine s y e = made_onward (λ n. ops.AdvanceLine n) (sleb_at s) s y (sleb_onward s) e
standard_onward standard.SetFile s y e = made_onward (λ n. ops.SetFile n) (uleb_at s) s y (uleb_onward s) e
standard_onward standard.SetColumn s y e = made_onward (λ n. ops.SetColumn n) (uleb_at s) s y (uleb_onward s) e
standard_onward standard.NegateStmt s y e = here ops.NegateStmt s y e
standard_onward standard.SetBasicBlock s y e = here ops.SetBasicBlock s y e
standard_onward standard.ConstAddPc s y e = here ops.ConstAddPc s y e
standard_onward standard.FixedAdvancePc s y e = made_onward (λ n. ops.FixedAdvancePc n) (number_at 2 s) s y (number_onward 2 s) e
standard_onward standard.SetPrologueEnd s y e = here ops.SetPrologueEnd s y e
standard_onward standard.SetEpilogueBegin s y e = here ops.SetEpilogueBegin s y e
standard_onward standard.SetIsa s y e = made_onward (λ n. ops.SetIsa n) (uleb_at s) s y (uleb_onward s) e

ulebs_onward : (count : ℕ) (s : Spot) (y : Unit {0} × Spot) → ulebs_at count s ≡ Ok y → Onward s y.1
unfolding ulebs_at
ulebs_onward zero s y e = here tt s y e
ulebs_onward (suc count) s y e =
    let b = bind_ok (uleb_at s) (λ n. ulebs_at count n.1) y e in
    onward_then s b.0.1 y.1 (uleb_onward s b.0 b.1) (ulebs_onward count b.0.1 y b.2)

low_onward : (header : LineHeader) (code : ℕ) (op : Option StandardOp) (s : Spot) (y : LineOp × Spot) → low_at header code op s ≡ Ok y → Onward s y.1
unfolding low_at
low_onward header code (Some op) s y e = standard_onward op s y e
low_onward header code None s y e =
    let b = bind_ok (ulebs_at (operand_count header code) s) (λ x. Ok (ops.Unknown, x.1)) y e in
    there ops.Unknown s b.0.1 y (ulebs_onward (operand_count header code) s b.0 b.1) b.2

part_onward : (n : ℕ) (s : Spot) (y : Spot × Spot) → part_at n s ≡ Ok y → Onward s y.1
unfolding part_at
part_onward n s y e =
    let b = bind_ok (bytes_at n s) (λ bytes. Ok (record s { end = bytes.1.place }, bytes.1)) y e in
    there (record s { end = b.0.1.place }) s b.0.1 y (bytes_onward n s b.0 b.1) b.2

extended_onward : (header : LineHeader) (image : Image) (relocs : Relocs) (first s : Spot) (y : LineOp × Spot) → extended_at header image relocs first s ≡ Ok y → Onward s y.1
unfolding extended_at
extended_onward header image relocs first s y e =
    let len = bind_ok (uleb_at s) _ y e in
    let some = passed (len.0.0 == 0) (bad_op first) _ y len.2 in
    let body = bind_ok (part_at len.0.0 len.0.1) _ y some.1 in
    let op = bind_ok (inside first (body_at header image relocs first body.0.0)) (λ op. Ok (op, body.0.1)) y body.2 in
    onward_then s len.0.1 y.1 (uleb_onward s len.0 len.1) (there op.0 len.0.1 body.0.1 y (part_onward len.0.0 len.0.1 body.0 body.1) op.2)

choice_onward : (special extended : Bool) (op : LineOp) (s : Spot) (one other : Result (LineOp × Spot) Fault) (y : LineOp × Spot)
    → ((y : LineOp × Spot) → one ≡ Ok y → Onward s y.1) → ((y : LineOp × Spot) → other ≡ Ok y → Onward s y.1)
    → (if special then done_at op s else if extended then one else other) ≡ Ok y → Onward s y.1
choice_onward true extended op s one other y a b e = here op s y e
choice_onward false true op s one other y a b e = a y e
choice_onward false false op s one other y a b e = b y e

-- a byte
byte_further : (s : Spot) (y : ℕ × Spot) → number_at 1 s ≡ Ok y → Further s y.1
unfolding number_at
byte_further s y e =
    let p = guard_ok (nat_lt (s.end - s.place) 1) (fault_at s kinds.Truncated) _ y e in
    subst (λ (r : ℕ × Spot). Further s r.1) p.1 (record { onward = record { by = 1; is = refl; fits = ltb-false _ _ p.0 }; some = omega arith })

-- an operation goes on by its code at least
pub op_further : (header : LineHeader) (image : Image) (relocs : Relocs) (s : Spot) (y : LineOp × Spot) → op_at header image relocs s ≡ Ok y → Further s y.1
unfolding op_at
op_further header image relocs s y e =
    let code = bind_ok (number_at 1 s) _ y e in
    further_then s code.0.1 y.1 (byte_further s code.0 code.1) (
    choice_onward (nat_le header.opcode_base code.0.0) (code.0.0 == DW_LNS_extended_op) (ops.Special (code.0.0 - header.opcode_base)) code.0.1
    (extended_at header image relocs s code.0.1) (low_at header code.0.0 (standard_of code.0.0) code.0.1) y
    (extended_onward header image relocs s code.0.1) (low_onward header code.0.0 (standard_of code.0.0) code.0.1) code.2)

pub op_onward : (header : LineHeader) (image : Image) (relocs : Relocs) (s : Spot) (y : LineOp × Spot) → op_at header image relocs s ≡ Ok y → Onward s y.1
op_onward header image relocs s y e = let f = op_further header image relocs s y e in f.onward

-- ---- the header

pub version_onward : (unit : ℕ) (s : Spot) (y : ℕ × Spot) → version_at unit s ≡ Ok y → Onward s y.1
unfolding version_at
version_onward unit s y e =
    let b = bind_ok (number_at 2 s) _ y e in
    let p = passed (nat_lt b.0.0 2 || nat_lt (last_version unit) b.0.0) (fault_at s kinds.LineVersion) (Ok b.0) y b.2 in
    there b.0.0 s b.0.1 y (number_onward 2 s b.0 b.1) p.1

two_onward : (first s : Spot) (y : Unit {0} × Spot)
    → (number_at 1 s >>= λ size. refuse_if (not (size.0 == ADDRESS_SIZE)) (bad first) >>= λ u. number_at 1 size.1 >>= λ selector. refuse_if (not (selector.0 == 0)) (bad first) >>= λ u. Ok (tt, selector.1)) ≡ Ok y → Onward s y.1
two_onward first s y e =
    let size = bind_ok (number_at 1 s) _ y e in
    let p = passed (not (size.0.0 == ADDRESS_SIZE)) (bad first) _ y size.2 in
    let selector = bind_ok (number_at 1 size.0.1) _ y p.1 in
    let q = passed (not (selector.0.0 == 0)) (bad first) _ y selector.2 in
    onward_then s size.0.1 y.1 (number_onward 1 s size.0 size.1) (there tt size.0.1 selector.0.1 y (number_onward 1 size.0.1 selector.0 selector.1) q.1)

if_onward : (b : Bool) (s : Spot) (one : Result (Unit {0} × Spot) Fault) (y : Unit {0} × Spot) → ((y : Unit {0} × Spot) → one ≡ Ok y → Onward s y.1) → (if b then one else done_at tt s) ≡ Ok y → Onward s y.1
if_onward true s one y known e = known y e
if_onward false s one y known e = here tt s y e

pub sizes_onward : (first : Spot) (version : ℕ) (s : Spot) (y : Unit {0} × Spot) → sizes_at first version s ≡ Ok y → Onward s y.1
unfolding sizes_at
sizes_onward first version s y e = if_onward (nat_le 5 version) s _ y (two_onward first s) e

fits_after : (s : Spot) (n : ℕ) → n ≤ s.end - s.place → Onward s (after s n)
fits_after s n le = record { by = n; is = refl; fits = le }

first_onward : (s t b : Spot) (y : Spot × Spot) → Onward s t → done_at t b ≡ Ok y → Onward s y.0
first_onward s t b y o e = subst (λ (p : Spot × Spot). Onward s p.0) (ok_is (t, b) y e) o

-- the program's spot
pub program_onward : (first s : Spot) (y : Spot × Spot) → program_at first s ≡ Ok y → Onward s y.0
unfolding program_at
program_onward first s y e =
    let b = bind_ok (number_at 4 s) _ y e in
    let p = passed (nat_lt (b.0.1.end - b.0.1.place) b.0.0) (bad first) (Ok (after b.0.1 b.0.0, b.0.1)) y b.2 in
    first_onward s (after b.0.1 b.0.0) b.0.1 y (onward_then s b.0.1 (after b.0.1 b.0.0) (number_onward 4 s b.0 b.1) (fits_after b.0.1 b.0.0 (ltb-false _ _ p.0))) p.1
