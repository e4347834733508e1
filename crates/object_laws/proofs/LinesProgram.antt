-- What a line program gives: files that are files, and sequences whose rows fit and whose addresses do not fall.
use Rattle.std.proofs.Common.{◌≡◌, ℕ, zero, suc, ◌-◌, Bool, true, false, List, [], ◌∷◌, ◌++◌, Some, None, Result, Ok, Err, refl, sym, subst}
use Rattle.std.specs.Prelude.{◌==◌, if◌then◌else◌}
use Rattle.std.specs.List.{AllByRecursion}
use Rattle.std.proofs.lemmas.List.Elements.{recursion_from_All}
use Rattle.ds_base.specs.declared.fault.Fault.{Fault}
use Rattle.ds_base.specs.Spot.{Spot}
use Rattle.ds_base.proofs.Passing.{bind_ok, ok_is}
use Rattle.dwarf_types.specs.declared.lines.FileName.{FileName}
use Rattle.dwarf_types.specs.declared.lines.RawLines.{RawLines}
use Rattle.dwarf_types.specs.declared.lines.RawRow.{RawRow}
use Rattle.dwarf_types.specs.declared.lines.RawSequence.{RawSequence}
use Rattle.dwarf_types.specs.WellLines.{IsFile, IsPath}
use Rattle.line_read.specs.Program.{Listing, MatrixRow, all_rise, before, defined, listed, matrix, ops_at, program_of, row_of, sequences, unless_stopped}
use Rattle.line_read.specs.Registers.{initial, next}
use Rattle.line_read.specs.Rising.{DoesNotFall}
use Rattle.line_read.proofs.EntryTables.{HasDigest}
use Rattle.line_read.proofs.RisingRows.{program_rises}
use Rattle.object_laws.proofs.LinesMoved.{FitsRaw, IsRawSequence}
use Rattle.object_laws.proofs.LinesOps.{Header, IsDefined, IsGood, Operation, RowFits, WasRead, initial_fits}
use Rattle.object_laws.proofs.LinesReads.{Holds}
use Rattle.object_laws.proofs.Spans.{all_as, both_all}

-- ---- operations

-- of a table of a version
abbrev OpGood : ℕ → ℕ × Operation → Type 0
OpGood version op = IsGood version op.1

abbrev pub AllGood : ℕ → Listing → Type 0
AllGood version l = AllByRecursion (OpGood version) l.ops

at_end : (version : ℕ) (b : Bool) (l : Listing) → AllGood version l → AllGood version (if b then record { ops = []; stop = None } else l)
at_end version true l good = tt
at_end version false l good = good

one_more : (version place : ℕ) (op : Result (Operation × Spot) Fault) (more : Spot → Listing) → ((y : Operation × Spot) → op ≡ Ok y → WasRead version y) → ((t : Spot) → Holds t → AllGood version (more t)) → AllGood version (listed place op more)
one_more version place (Err f) more known left = tt
one_more version place (Ok y) more known left = let w = known y refl in (w.good, left y.1 w.left)

pub ops_good : (version : ℕ) (read : Spot → Result (Operation × Spot) Fault) → ((s : Spot) (y : Operation × Spot) → Holds s → read s ≡ Ok y → WasRead version y) → (n : ℕ) (s : Spot) → Holds s → AllGood version (ops_at read n s)
ops_good version read known zero s h = tt
ops_good version read known (suc n) s h =
    at_end version (s.end - s.place == 0) (listed s.place (read s) (λ t. ops_at read n t)) (one_more version s.place (read s) (λ t. ops_at read n t) (λ y e. known s y h e) (λ t left. ops_good version read known n t left))

-- ---- files and rows

defined_all : (version : ℕ) (ops : List (ℕ × Operation)) → AllByRecursion (OpGood version) ops → AllByRecursion (IsDefined version) (defined ops)
defined_all version [] all = tt
defined_all version ((place, op) ∷ more) all = let good = all.0 in good.defines place more (defined_all version more all.1)

matrix_all : (version : ℕ) (header : Header) (r : RawRow) (ops : List (ℕ × Operation)) → FitsRaw r → AllByRecursion (OpGood version) ops → AllByRecursion RowFits (matrix header r ops)
matrix_all version header r [] fits all = tt
matrix_all version header r (op ∷ more) fits all =
    let good = all.0 in
    both_all RowFits (row_of header op.0 op.1 r) (matrix header (next header op.1 r) more) (good.rows header op.0 r fits) (matrix_all version header (next header op.1 r) more (good.registers header r fits) all.1)

-- ---- sequences

abbrev RowsFit : RawSequence → Type 0
RowsFit s = AllByRecursion FitsRaw s.rows

before_all : (row : RawRow) (ss : List RawSequence) → FitsRaw row → AllByRecursion RowsFit ss → AllByRecursion RowsFit (before row ss)
before_all row [] fits all = ((fits, tt), tt)
before_all row (s ∷ more) fits all = ((fits, all.0), all.1)

one_row : (ends : Bool) (r : RawRow) (ss : List RawSequence) → FitsRaw r → AllByRecursion RowsFit ss → AllByRecursion RowsFit (if ends then record { rows = []; end = Some r.at } ∷ ss else before r ss)
one_row true r ss fits all = (tt, all)
one_row false r ss fits all = before_all r ss fits all

sequences_all : (rows : List MatrixRow) → AllByRecursion RowFits rows → AllByRecursion RowsFit (sequences rows)
sequences_all [] all = tt
sequences_all (row ∷ more) all = one_row row.ends row.registers (sequences more) all.0 (sequences_all more all.1)

raw_all : (ss : List RawSequence) → AllByRecursion RowsFit ss → AllByRecursion DoesNotFall ss → AllByRecursion IsRawSequence ss
raw_all [] fit rise = tt
raw_all (s ∷ ss) fit rise = (record { rows = fit.0; rises = rise.0 }, raw_all ss fit.1 rise.1)

-- ---- the whole

-- a file of a table of a unit of a version, in a table whose files have digests or do not
pub record IsFileIn (version : ℕ) (has : Bool) (file : FileName) : Type 0 where
  pub is : IsFile version file
  pub digest : HasDigest has file.digest

-- a table as it is read in a unit of a version
pub record IsRawTable (version : ℕ) (lines : RawLines) : Type 0 where
  pub dirs : AllByRecursion (IsPath version) lines.dirs
  pub has : Bool
  pub allowed : has ≡ true → version ≡ 5
  pub files : AllByRecursion (IsFileIn version has) lines.files
  pub sequences : AllByRecursion IsRawSequence lines.sequences

-- the directories and files of its header
pub record AreNames (version table : ℕ) (paths : List (List ℕ)) (names : List FileName) : Type 0 where
  pub dirs : AllByRecursion (IsPath version) paths
  pub has : Bool
  pub allowed : has ≡ true → version ≡ 5
  pub files : AllByRecursion (IsFileIn version has) names
  -- a file that an operation defines is as they are
  pub more : (file : FileName) → IsDefined table file → IsFileIn version has file

record Fit (dirs : List (List ℕ)) (files : List FileName) (listing : Listing) (lines : RawLines) : Type 0 where
  same_dirs : lines.dirs ≡ dirs
  same_files : lines.files ≡ files ++ defined listing.ops
  sequences : AllByRecursion RowsFit lines.sequences

program_fits : (table : ℕ) (header : Header) (dirs : List (List ℕ)) (files : List FileName) (listing : Listing) (lines : RawLines) → AllGood table listing → program_of header dirs files listing ≡ Ok lines → Fit dirs files listing lines
unfolding program_of
program_fits table header dirs files listing lines good e =
    let rows = matrix header (initial header) listing.ops in
    let rise = bind_ok (all_rise None rows) _ lines e in
    let stop = bind_ok (unless_stopped listing.stop) _ lines rise.2 in
    subst (Fit dirs files listing) (ok_is (record { dirs = dirs; files = files ++ defined listing.ops; sequences = sequences rows }) lines stop.2) (record {
      same_dirs = refl;
      same_files = refl;
      sequences = sequences_all rows (matrix_all table header (initial header) listing.ops (initial_fits header) good);
    })

pub program_is_raw : (version table : ℕ) (header : Header) (dirs : List (List ℕ)) (files : List FileName) (listing : Listing) (lines : RawLines) → AreNames version table dirs files → AllGood table listing → program_of header dirs files listing ≡ Ok lines
    → IsRawTable version lines
program_is_raw version table header dirs files listing lines names good e =
    let fit = program_fits table header dirs files listing lines good e in
    let all = both_all (IsFileIn version names.has) files (defined listing.ops) names.files (all_as (IsDefined table) (IsFileIn version names.has) names.more (defined listing.ops) (defined_all table listing.ops good)) in
    record {
      dirs = subst (AllByRecursion (IsPath version)) (sym fit.same_dirs) names.dirs;
      has = names.has;
      allowed = names.allowed;
      files = subst (AllByRecursion (IsFileIn version names.has)) (sym fit.same_files) all;
      sequences = raw_all lines.sequences fit.sequences (recursion_from_All DoesNotFall lines.sequences (program_rises header dirs files listing lines e));
    }
