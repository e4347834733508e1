-- The directories and files of a line table's header, of every version, in a unit of a version.
use Rattle.std.proofs.Common.{◌≡◌, ℕ, Bool, true, false, List, Ok, refl, arith}
use Rattle.std.specs.Prelude.{nat_le, if◌then◌else◌}
use Rattle.std.specs.List.{AllByRecursion}
use Rattle.std.proofs.lemmas.Bool.{leb-true, ltb-true}
use Rattle.std.proofs.lemmas.List.Elements.{recursion_from_All}
use Rattle.ds_base.specs.Spot.{Spot}
use Rattle.dwarf_types.specs.declared.lines.FileName.{FileName}
use Rattle.dwarf_types.specs.SectionBytes.{SectionBytes}
use Rattle.dwarf_types.specs.Spelled.{AreTextBytes}
use Rattle.dwarf_types.specs.WellLines.{IsPath}
use Rattle.dwarf_types.proofs.Readers.{Stands}
use Rattle.line_read.specs.Entries.{dir_entry_at, entries_of, file_entry_at}
use Rattle.line_read.specs.Names.{dir_at, file_at, table_of}
use Rattle.line_read.specs.Tables.{dirs_at, files_at}
use Rattle.line_read.proofs.EntryTables.{AreTexts, IsEntry, dirs_give, files_give}
use Rattle.object_laws.proofs.LinesOps.{IsDefined}
use Rattle.object_laws.proofs.LinesProgram.{AreNames, IsFileIn}
use Rattle.object_laws.proofs.LinesReads.{Holds, Lies}
use Rattle.object_laws.proofs.LinesTables.{End, IsName, IsOldFile, dir_is, file_is, table_all}
use Rattle.object_laws.proofs.Spans.{all_as}

-- where a reader of a table stands, by whether it is of version 5
abbrev pub Left : Bool → Spot → Type 0
Left true s = Stands s
Left false s = Holds s

never_four : (unit : ℕ) → unit ≡ 5 → unit ≡ 4 → ⊥
never_four unit five four = omega (arith, five, four)

name_is : (unit : ℕ) (name : List ℕ) → IsName name → IsPath unit name
name_is unit name is = record { some = λ four. is.some; text = is.text }

entry_is : (unit : ℕ) (has : Bool) (file : FileName) → unit ≡ 5 → IsEntry has file → IsFileIn unit has file
entry_is unit has file five is = record {
  is = record { name = record { some = λ four. absurd (never_four unit five four); text = is.name }; dir = is.dir; time = is.time; size = is.size };
  digest = is.digest;
}

old_is : (unit : ℕ) (file : FileName) → IsOldFile file → IsFileIn unit false file
old_is unit file is = record { is = record { name = name_is unit file.name is.name; dir = is.dir; time = is.time; size = is.size }; digest = is.digest }

defined_is : (unit table : ℕ) (file : FileName) → IsDefined table file → IsFileIn unit false file
defined_is unit table file is = record {
  is = record { name = record { some = λ four. is.some; text = is.text }; dir = is.dir; time = is.time; size = is.size };
  digest = is.digest;
}

none_defined : (unit table : ℕ) (has : Bool) (file : FileName) → nat_le 5 table ≡ true → IsDefined table file → IsFileIn unit has file
none_defined unit table has file since is = absurd (omega (arith, leb-true 5 table since, ltb-true table 5 is.old))

module _ (unit : ℕ) (header : End) (sections : SectionBytes) (texts : AreTexts sections) where
  dirs_by : (b : Bool) (s : Spot) (y : List (List ℕ) × Spot) → (b ≡ true → unit ≡ 5) → Lies s → (if b then entries_of (dir_entry_at header sections) header s else table_of (dir_at header) s) ≡ Ok y
      → AllByRecursion (IsPath unit) y.0 × Left b y.1
  dirs_by true s y five h e =
      let all = dirs_give header sections texts s y h.stands e in
      (all_as AreTextBytes (IsPath unit) (λ name is. record { some = λ four. absurd (never_four unit (five refl) four); text = is }) y.0 (recursion_from_All AreTextBytes y.0 all.0), all.1)
  dirs_by false s y five h e =
      let all = table_all IsName (dir_at header) (λ s y h e. dir_is header s y h e) s y h.holds e in
      (all_as IsName (IsPath unit) (name_is unit) y.0 all.items, all.left)

  pub dirs_are : (table : ℕ) (s : Spot) (y : List (List ℕ) × Spot) → (nat_le 5 table ≡ true → unit ≡ 5) → Lies s → dirs_at header sections table s ≡ Ok y → AllByRecursion (IsPath unit) y.0 × Left (nat_le 5 table) y.1
  unfolding dirs_at
  dirs_are table s y five h e = dirs_by (nat_le 5 table) s y five h e

  files_by : (table : ℕ) (dirs : List (List ℕ)) (b : Bool) (s : Spot) (y : List FileName × Spot) → nat_le 5 table ≡ b → (b ≡ true → unit ≡ 5) → AllByRecursion (IsPath unit) dirs → Left b s
      → (if b then entries_of (file_entry_at header sections) header s else table_of (file_at header) s) ≡ Ok y → AreNames unit table dirs y.0
  files_by table dirs true s y is five paths h e =
      let all = files_give header sections texts s y h e in
      record {
        dirs = paths;
        has = all.0;
        allowed = λ has. five refl;
        files = all_as (IsEntry all.0) (IsFileIn unit all.0) (λ file known. entry_is unit all.0 file (five refl) known) y.0 (recursion_from_All (IsEntry all.0) y.0 all.1);
        more = λ file known. none_defined unit table all.0 file is known;
      }
  files_by table dirs false s y is five paths h e =
      let all = table_all IsOldFile (file_at header) (λ s y h e. file_is header s y h e) s y h e in
      record {
        dirs = paths;
        has = false;
        allowed = λ has. absurd cc;
        files = all_as IsOldFile (IsFileIn unit false) (old_is unit) y.0 all.items;
        more = defined_is unit table;
      }

  pub files_are : (table : ℕ) (dirs : List (List ℕ)) (s : Spot) (y : List FileName × Spot) → (nat_le 5 table ≡ true → unit ≡ 5) → AllByRecursion (IsPath unit) dirs → Left (nat_le 5 table) s → files_at header sections table s ≡ Ok y
      → AreNames unit table dirs y.0
  unfolding files_at
  files_are table dirs s y five paths h e = files_by table dirs (nat_le 5 table) s y refl five paths h e
