-- What a unit's line table keeps to, as it is read, and as what of it went to the linked program.
use Rattle.std.proofs.Common.{◌≡◌, ℕ, ◌-◌, ◌≤◌, Bool, true, false, List, [], ◌∷◌, length, take, None, Ok, refl, sym, subst, arith}
use Rattle.std.specs.Prelude.{◌==◌, ◌&&◌, nat_lt, if◌then◌else◌}
use Rattle.std.specs.List.{AllByRecursion}
use Rattle.std.proofs.lemmas.Bool.{eqb-true}
use Rattle.std.proofs.lemmas.List.Elements.{All-from_recursion}
use Rattle.ds_base.specs.Spot.{Spot}
use Rattle.ds_base.proofs.Passing.{bind_ok, ok_is}
use Rattle.dwarf_types.specs.declared.lines.FileName.{FileName}
use Rattle.dwarf_types.specs.declared.lines.RawLines.{RawLines}
use Rattle.dwarf_types.specs.SectionBytes.{SectionBytes}
use Rattle.dwarf_types.specs.Spelled.{AreBytes, AreTextBytes}
use Rattle.dwarf_types.specs.WellLines.{HaveDigests, IsDigest, IsFile, IsLineTable, IsPath}
use Rattle.dwarf_types.proofs.Readers.{IsBytes-from}
use Rattle.macho_read.specs.declared.image.Image.{Image}
use Rattle.reloc_table.specs.declared.relocation.Relocs.{Relocs}
use Rattle.addr_map.specs.declared.map.AddrMap.{AddrMap}
use Rattle.addr_map.specs.Sound.{IsSound}
use Rattle.line_read.specs.Header.{fields_at, line_at, program_at, sizes_at, table_at, version_at, version_of}
use Rattle.line_read.specs.Operation.{op_at}
use Rattle.line_read.specs.Program.{header_end, lines_from, lines_of, ops_at}
use Rattle.line_read.specs.Tables.{dirs_at, files_at}
use Rattle.line_read.proofs.EntryTables.{AreTexts}
use Rattle.line_read.proofs.OperationPlaces.{program_onward, sizes_onward, version_onward}
use Rattle.moved_parts.specs.Lines.{lines_moved}
use Rattle.line_read.specs.Counting.{counted_from_0, lines_as}
use Rattle.object_read.specs.Opened.{Opened}
use Rattle.object_laws.proofs.Forms.{IsVersion}
use Rattle.object_laws.proofs.LinesHeader.{behind_lies, fields_lie, table_lies, table_version}
use Rattle.object_laws.proofs.LinesMoved.{sequences_are}
use Rattle.object_laws.proofs.LinesNames.{dirs_are, files_are}
use Rattle.object_laws.proofs.LinesOps.{op_read}
use Rattle.object_laws.proofs.LinesProgram.{AllGood, IsFileIn, IsRawTable, ops_good, program_is_raw}
use Rattle.object_laws.proofs.LinesReads.{Holds, lies_on}
use Rattle.object_laws.proofs.Spans.{all_as, both_all}
use Rattle.object_laws.proofs.Units.{AreTables}

-- ---- as it is read

table_is_raw : (image : Image) (relocs : Relocs) (sections : SectionBytes) (texts : AreTexts sections) (unit : ℕ) (known : IsVersion unit) (first : Spot) (lines : RawLines) → Holds first → first.end ≤ length first.bytes
    → lines_from image relocs sections unit first ≡ Ok lines → IsRawTable unit lines
unfolding lines_from
table_is_raw image relocs sections texts unit known first lines h inside e =
    let table = bind_ok (table_at first) _ lines e in
    let version = bind_ok (version_at unit table.0) _ lines table.2 in
    let sizes = bind_ok (sizes_at first version.0.0 version.0.1) _ lines version.2 in
    let program = bind_ok (program_at first sizes.0.1) _ lines sizes.2 in
    let header = bind_ok (fields_at first version.0.0 program.0.1) _ lines program.2 in
    let dirs = bind_ok (dirs_at (header_end first program.0.0) sections version.0.0 header.0.1) _ lines header.2 in
    let files = bind_ok (files_at (header_end first program.0.0) sections version.0.0 dirs.0.1) _ lines dirs.2 in
    let h1 = table_lies first table.0 h inside table.1 in
    let h2 = lies_on table.0 version.0.1 h1 (version_onward unit table.0 version.0 version.1) in
    let h3 = lies_on version.0.1 sizes.0.1 h2 (sizes_onward first version.0.0 version.0.1 sizes.0 sizes.1) in
    let at_program = lies_on sizes.0.1 program.0.0 h3 (program_onward first sizes.0.1 program.0 program.1) in
    let h4 = behind_lies first sizes.0.1 program.0 h3 program.1 in
    let fields = fields_lie first version.0.0 program.0.1 header.0 h4 header.1 in
    let five = table_version unit table.0 version.0 known version.1 in
    let paths = dirs_are unit (header_end first program.0.0) sections texts version.0.0 header.0.1 dirs.0 five fields.1 dirs.1 in
    let names = files_are unit (header_end first program.0.0) sections texts version.0.0 dirs.0.0 dirs.0.1 files.0 five paths.0 paths.1 files.1 in
    let listing = ops_at (op_at header.0.0 image relocs) (program.0.0.end - program.0.0.place) program.0.0 in
    let good = ops_good header.0.0.version (op_at header.0.0 image relocs) (λ s y h e. op_read header.0.0 image relocs s y h e) (program.0.0.end - program.0.0.place) program.0.0 at_program.holds in
    program_is_raw unit version.0.0 header.0.0 dirs.0.0 files.0.0 listing lines names (subst (λ (v : ℕ). AllGood v listing) fields.0 good) files.2

-- a table that is read from bytes
pub lines_raw : (image : Image) (relocs : Relocs) (sections : SectionBytes) (unit place : ℕ) (lines : RawLines) → AreTexts sections → IsVersion unit → AreBytes sections.line → lines_of image relocs sections unit place ≡ Ok lines
    → IsRawTable unit lines
lines_raw image relocs sections unit place lines texts known are e = table_is_raw image relocs sections texts unit known (line_at sections.line place) lines (IsBytes-from sections.line are) (omega arith) e

-- ---- as its unit has it

first_all : {Y : Type 0} (Q : Y → Type 0) (ys : List Y) → AllByRecursion Q ys → AllByRecursion Q (take 1 ys)
first_all Q [] all = tt
first_all Q (y ∷ ys) all = (all.0, tt)

raw_counted : (b : Bool) (dir : List ℕ) (lines : RawLines) → AreTextBytes dir → IsRawTable 5 lines → IsRawTable 5 (if b then counted_from_0 dir lines else lines)
raw_counted false dir lines text raw = raw
raw_counted true dir lines text raw = record {
  dirs = (record { some = λ four. absurd cc; text = text }, raw.dirs);
  has = raw.has;
  allowed = raw.allowed;
  files = both_all (IsFileIn 5 raw.has) (take 1 lines.files) lines.files (first_all (IsFileIn 5 raw.has) lines.files raw.files) raw.files;
  sequences = raw.sequences;
}

raw_if : (unit : ℕ) (b older : Bool) (dir : List ℕ) (lines : RawLines) → (unit == 5) ≡ b → AreTextBytes dir → IsRawTable unit lines → IsRawTable unit (if b && older then counted_from_0 dir lines else lines)
raw_if unit false older dir lines is text raw = raw
raw_if unit true older dir lines is text raw =
    let five : 5 ≡ unit = sym (eqb-true unit 5 is) in
    subst (λ (v : ℕ). IsRawTable v (if older then counted_from_0 dir lines else lines)) five (raw_counted older dir lines text (subst (λ (v : ℕ). IsRawTable v lines) (sym five) raw))

raw_as : (unit table : ℕ) (dir : List ℕ) (lines : RawLines) → AreTextBytes dir → IsRawTable unit lines → IsRawTable unit (lines_as unit table dir lines)
raw_as unit table dir lines text raw = raw_if unit (unit == 5) (nat_lt table 5) dir lines refl text raw

-- ---- what of it went to the linked program

digests_are : (version : ℕ) (has : Bool) (files : List FileName) → (has ≡ true → version ≡ 5) → AllByRecursion (IsFileIn version has) files → HaveDigests version files
digests_are version true files allowed all =
    HaveDigests.each_has (allowed refl) (All-from_recursion (λ (file : FileName). IsDigest file.digest) files (all_as (IsFileIn version true) (λ (file : FileName). IsDigest file.digest) (λ file is. is.digest) files all))
digests_are version false files allowed all =
    HaveDigests.none_has (All-from_recursion (λ (file : FileName). file.digest ≡ None) files (all_as (IsFileIn version false) (λ (file : FileName). file.digest ≡ None) (λ file is. is.digest) files all))

raw_moved : (version : ℕ) (map : AddrMap) (lines : RawLines) → IsSound map → IsRawTable version lines → IsLineTable version (lines_moved map lines)
raw_moved version map lines sound raw = record {
  dirs = All-from_recursion (IsPath version) lines.dirs raw.dirs;
  files = All-from_recursion (IsFile version) lines.files (all_as (IsFileIn version raw.has) (IsFile version) (λ file known. known.is) lines.files raw.files);
  digests = digests_are version raw.has lines.files raw.allowed raw.files;
  sequences = sequences_are map lines.sequences sound raw.sequences;
}

pub tables_are : (o : Opened) (m : AddrMap) → IsSound m → AreTexts o.sections → AreBytes o.sections.line → AreTables o m
tables_are o m sound texts are version dir place lines known text e =
    let table = bind_ok (version_of o.sections version place) _ lines e in
    let raw = bind_ok (lines_of o.image o.relocs.line o.sections version place) _ lines table.2 in
    subst (IsLineTable version) (ok_is (lines_moved m (lines_as version table.0 dir raw.0)) lines raw.2)
    (raw_moved version m (lines_as version table.0 dir raw.0) sound
    (raw_as version table.0 dir raw.0 text (lines_raw o.image o.relocs.line o.sections version place raw.0 texts known are raw.1)))
