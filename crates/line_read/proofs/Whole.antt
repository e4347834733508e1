-- No byte of a table's program is left out.
use Rattle.std.proofs.Common.{◌≡◌, ℕ, zero, suc, ◌+◌, ◌-◌, ◌≤◌, ◌||◌, ◌<◌, List, Option, Some, None, Result, Ok, Err, OnOk, refl, sym, ap, arith, inl, inr}
use Rattle.std.specs.Prelude.{nat_lt, nat_le}
use Rattle.std.proofs.lemmas.Bool.{eq-eqb, ne_eqb, cases_eq}
use Rattle.ds_base.specs.DwarfNumbers.{LENGTH_RESERVED}
use Rattle.ds_base.specs.declared.fault.Fault.{Fault}
use Rattle.ds_base.specs.Reading.{number_at}
use Rattle.ds_base.specs.Spot.{Spot}
use Rattle.ds_base.proofs.Onward.{Onward, Further, end_kept, onward_then}
use Rattle.ds_base.proofs.Passing.{bind_ok, passed, ok_is}
use Rattle.dwarf_types.specs.declared.lines.FileName.{FileName}
use Rattle.dwarf_types.specs.declared.lines.RawLines.{RawLines}
use Rattle.dwarf_types.specs.SectionBytes.{SectionBytes}
use Rattle.macho_read.specs.declared.image.Image.{Image}
use Rattle.reloc_table.specs.declared.relocation.Relocs.{Relocs}
use Rattle.line_read.specs.declared.header.LineHeader.{LineHeader}
use Rattle.line_read.specs.declared.operation.LineOp.{LineOp}
use Rattle.line_read.specs.Header.{bad, table_at, version_at, sizes_at, program_at, fields_at}
use Rattle.line_read.specs.Tables.{dirs_at, files_at}
use Rattle.line_read.specs.Operation.{op_at}
use Rattle.line_read.specs.Program.{Listing, listed, ops_at, all_rise, matrix, unless_stopped, program_of, header_end, lines_from}
use Rattle.line_read.specs.Registers.{initial}
use Rattle.line_read.specs.Whole.{Fill, HasTable, IsTable, IsWhole}
use Rattle.line_read.proofs.OperationPlaces.{op_further, version_onward, sizes_onward, program_onward}

-- ---- operations in turn

inside_end : (s t : Spot) → Further s t → t.place ≤ t.end
inside_end s t f =
    let o = f.onward in
    let some = f.some in
    let place : t.place ≡ s.place + o.by = ap (λ (x : Spot). x.place) o.is in
    let end : t.end ≡ s.end = end_kept s t o in
    omega (arith, o.fits, place, end, some)

one_filled : (read : Spot → Result (LineOp × Spot) Fault) (s : Spot) (one : Result (LineOp × Spot) Fault) (more : Spot → Listing) → read s ≡ one → s.place < s.end
    → ((y : LineOp × Spot) → one ≡ Ok y → Further s y.1) → ((y : LineOp × Spot) → Further s y.1 → Fill read y.1 (more y.1).ops (more y.1).stop)
    → Fill read s (listed s.place one more).ops (listed s.place one more).stop
one_filled read s (Ok y) more is lt further later =
    let f = further y refl in (y.1, refl, is, f.some, later y f)
one_filled read s (Err f) more is lt further later = (lt, is)

ops_fill : (read : Spot → Result (LineOp × Spot) Fault) → ((s : Spot) (y : LineOp × Spot) → read s ≡ Ok y → Further s y.1) → (left : ℕ) (s : Spot) → s.place ≤ s.end → s.end - s.place ≤ left
    → Fill read s (ops_at read left s).ops (ops_at read left s).stop
ops_fill read further zero s inside few = rw (eq-eqb (s.end - s.place) 0 (omega (arith, few))) (omega (arith, inside, few))
ops_fill read further (suc left) s inside few = elim (cases_eq (s.end - s.place) 0) [
  | inl done ↦ rw (eq-eqb (s.end - s.place) 0 done) (omega (arith, inside, done))
  | inr some ↦
      rw (ne_eqb (s.end - s.place) 0 some)
      (one_filled read s (read s) (λ t. ops_at read left t) refl (omega (arith, inside, some)) (further s)
      (λ y f. ops_fill read further left y.1 (inside_end s y.1 f) (omega (arith, few, f.some, end_kept s y.1 f.onward))))
]

-- ---- what a program means

not_stopped : (stop : Option Fault) (u : Unit {0}) → unless_stopped stop ≡ Ok u → stop ≡ None
not_stopped None u e = refl
not_stopped (Some f) u e = absurd cc

program_whole : (header : LineHeader) (dirs : List (List ℕ)) (files : List FileName) (listing : Listing) (answer : Result RawLines Fault) → answer ≡ program_of header dirs files listing → OnOk answer (listing.stop ≡ None)
unfolding program_of
program_whole header dirs files listing (Ok lines) e =
    let rise = bind_ok (all_rise None (matrix header (initial header) listing.ops)) _ lines (sym e) in
    let stop = bind_ok (unless_stopped listing.stop) _ lines rise.2 in
    not_stopped listing.stop stop.0 stop.1
program_whole header dirs files listing (Err f) e = tt

-- ---- the table

table_inside : (first s : Spot) → table_at first ≡ Ok s → s.place ≤ s.end
unfolding table_at
table_inside first s e =
    let len = bind_ok (number_at 4 first) _ s e in
    let p = passed (nat_le LENGTH_RESERVED len.0.0 || nat_lt (len.0.1.end - len.0.1.place) len.0.0) (bad first) _ s len.2 in
    let is = ok_is (record len.0.1 { end = len.0.1.place + len.0.0 }) s p.1 in
    omega (arith, ap (λ (x : Spot). x.place) is, ap (λ (x : Spot). x.end) is)

onward_inside : (s t : Spot) → Onward s t → s.place ≤ s.end → t.place ≤ t.end
onward_inside s t o inside =
    let place : t.place ≡ s.place + o.by = ap (λ (x : Spot). x.place) o.is in
    omega (arith, o.fits, place, end_kept s t o, inside)

program_behind : (first : Spot) (unit : ℕ) (table : Spot) (version : ℕ × Spot) (sizes : Unit {0} × Spot) (program : Spot × Spot)
    → version_at unit table ≡ Ok version → sizes_at first version.0 version.1 ≡ Ok sizes → program_at first sizes.1 ≡ Ok program → Onward table program.0
program_behind first unit table version sizes program versioned sized placed =
    onward_then table sizes.1 program.0 (onward_then table version.1 sizes.1 (version_onward unit table version versioned) (sizes_onward first version.0 version.1 sizes sized))
    (program_onward first sizes.1 program placed)

pub has_table : (image : Image) (relocs : Relocs) (sections : SectionBytes) (unit : ℕ) (first : Spot) (lines : RawLines) → lines_from image relocs sections unit first ≡ Ok lines → HasTable sections unit first
unfolding lines_from
has_table image relocs sections unit first lines e =
    let table = bind_ok (table_at first) _ lines e in
    let version = bind_ok (version_at unit table.0) _ lines table.2 in
    let sizes = bind_ok (sizes_at first version.0.0 version.0.1) _ lines version.2 in
    let program = bind_ok (program_at first sizes.0.1) _ lines sizes.2 in
    let header = bind_ok (fields_at first version.0.0 program.0.1) _ lines program.2 in
    let dirs = bind_ok (dirs_at (header_end first program.0.0) sections version.0.0 header.0.1) _ lines header.2 in
    let files = bind_ok (files_at (header_end first program.0.0) sections version.0.0 dirs.0.1) _ lines dirs.2 in
    record {
      header = header.0.0;
      dirs = dirs.0.0;
      files = files.0.0;
      program = program.0.0;
      stands = record {
        table = table.0;
        version = version.0;
        sizes = sizes.0;
        behind = program.0.1;
        dirs_from = header.0.1;
        files_from = dirs.0.1;
        files_to = files.0.1;
        opened = table.1;
        versioned = version.1;
        sized = sizes.1;
        placed = program.1;
        ended = end_kept table.0 program.0.0 (program_behind first unit table.0 version.0 sizes.0 program.0 version.1 sizes.1 program.1);
        headed = header.1;
        dirs_read = dirs.1;
        files_read = files.1;
      };
    }

pub table_whole : (image : Image) (relocs : Relocs) (sections : SectionBytes) (unit : ℕ) (first program : Spot) (header : LineHeader) (dirs : List (List ℕ)) (files : List FileName)
    → IsTable sections unit first program header dirs files → IsWhole (op_at header image relocs) program header dirs files (lines_from image relocs sections unit first)
unfolding lines_from
table_whole image relocs sections unit first program header dirs files t =
    let on = program_behind first unit t.table t.version t.sizes (program, t.behind) t.versioned t.sized t.placed in
    let inside = onward_inside t.table program on (table_inside first t.table t.opened) in
    let listing : Listing = ops_at (op_at header image relocs) (program.end - program.place) program in
    let means : lines_from image relocs sections unit first ≡ program_of header dirs files listing = rw (t.opened, t.versioned, t.sized, t.placed, t.headed, t.dirs_read, t.files_read) refl in
    record {
      listing = listing;
      filled = ops_fill (op_at header image relocs) (op_further header image relocs) (program.end - program.place) program inside (omega arith);
      means = means;
      ended = program_whole header dirs files listing (lines_from image relocs sections unit first) means;
    }
