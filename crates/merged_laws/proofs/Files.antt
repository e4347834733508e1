-- The line table of merged entries, and the numbers of files in it.
use Rattle.std.proofs.Common.{◌≡◌, ℕ, zero, suc, ◌+◌, ◌-◌, ◌^◌, ◌<◌, ◌≤◌, ◌==◌, not, Bool, true, false, cond, List, [], ◌∷◌, ◌++◌, length, take, slice_get, get_or, Option, Some, None, IfSome, refl, subst, arith}
use Rattle.std.specs.List.{All, cons_option, filter, filter_map, find, position}
use Rattle.std.specs.Option.{option_and_then, option_map, option_map_or, unwrap_or}
use Rattle.std.specs.Str.{bytes_eq}
use Rattle.std.proofs.lemmas.Bool.{eqb-false, eqb-true}
use Rattle.std.proofs.lemmas.List.Elements.{All-append, All-cons, All-filter, All-head, All-map, All-nil, All-tail, All-weaker}
use Rattle.std.proofs.lemmas.List.Quantifiers.{position-Some}
use Rattle.std.proofs.lemmas.List.Sums.{count_by-le-length, length-filter}
use Rattle.std.proofs.lemmas.Option.{get_or_from_slice_get, none-some, same_Some, slice_get_within}
use Rattle.ds_base.specs.DwarfNumbers.{DW_AT_comp_dir}
use Rattle.ds_base.specs.FirstUse.{once}
use Rattle.dwarf_types.specs.declared.analysis.Analysis.{Analysis}
use Rattle.dwarf_types.specs.declared.entry.Attr.{Attr}
use Rattle.dwarf_types.specs.declared.entry.Entry.{Entry}
use Rattle.dwarf_types.specs.declared.entry.InUnit.{InUnit}
use Rattle.dwarf_types.specs.declared.lines.FileName.{FileName}
use Rattle.dwarf_types.specs.declared.lines.OutLines.{OutLines}
use Rattle.dwarf_types.specs.declared.value.Value.{Value}
use Rattle.dwarf_types.specs.declared.value.Value.TheVariants as values
use Rattle.dwarf_types.specs.Moves.{value_of}
use Rattle.dwarf_types.specs.Spelled.{AreTextBytes}
use Rattle.dwarf_types.specs.WellLines.{IsFile, IsLineTable, IsPath, IsSequence, none_has}
use Rattle.link_graph.specs.PoolFiles.{SourceFile, directories, directory_of_unit, file_at, file_by, file_in, file_named, file_written, files_named, first_directory, first_file, listed_directory, listed_file, number_among, number_of, number_of_directory, place_of_number, same_file, table_of, text_or_empty}
use Rattle.link_graph.proofs.Gathered.{All-filter_map}
use Rattle.linked_laws.specs.Spellable.{IsSpellable, IsSpellableAttr, IsSpellableEntry, IsSpellableUnit, IsSpellableValue, version_of}
use Rattle.linked_laws.proofs.Attributes.{Allows}

-- ---- items by first use

pub once_all : {A : Type 0} (P : A → Type 0) (same : A → A → Bool) (xs : List A) → All P xs → All P (once same xs)
once_all P same [] h = All-nil P
once_all P same (x ∷ xs) h = All-cons P x (filter (λ y. not (same x y)) (once same xs)) (All-head P x xs h) (All-filter (λ y. not (same x y)) P (once same xs) (once_all P same xs (All-tail P x xs h)))

once_long : {A : Type 0} (same : A → A → Bool) (xs : List A) → length (once same xs) ≤ length xs
once_long same [] = omega arith
once_long same (x ∷ xs) = omega (arith, once_long same xs, length-filter (λ y. not (same x y)) (once same xs), count_by-le-length (λ y. not (same x y)) (once same xs))

kept_long : {A B : Type 0} (f : A → Option B) (xs : List A) → length (filter_map f xs) ≤ length xs
kept_long f [] = omega arith
kept_long {A} {B} f (x ∷ xs) = go (f x) (kept_long f xs)
  where
    go : (o : Option B) → length (filter_map f xs) ≤ length xs → length (cons_option o (filter_map f xs)) ≤ suc (length xs)
    go None le = omega (arith, le)
    go (Some y) le = omega (arith, le)

-- ---- files

-- of a unit of a version: a file's name is a path, and that of its directory a text
pub record IsSourceFile (version : ℕ) (file : SourceFile) : Type 0 where
  pub name : IsPath version file.name
  pub dir : AreTextBytes file.dir

path_to : (from to : ℕ) (name : List ℕ) → Allows from to → IsPath from name → IsPath to name
path_to from to name allows h = record { some = λ four. h.some (allows.four four); text = h.text }

read_of : {A : Type 0} (P : A → Type 0) (xs : List A) → All P xs → (i : ℕ) (x : A) → slice_get xs i ≡ Some x → P x
read_of P xs h i x at = subst P (get_or_from_slice_get xs i x x at) (h i x (slice_get_within xs i x at))

found_in : {A : Type 0} (P : A → Type 0) (test : A → Bool) (xs : List A) → All P xs → (x : A) → find test xs ≡ Some x → P x
found_in P test [] h x is = absurd (none-some x is)
found_in {A} P test (y ∷ xs) h x is = go (test y) is (λ k. found_in P test xs (All-tail P y xs h) x k)
  where
    go : (b : Bool) → cond b (Some y) (find test xs) ≡ Some x → (find test xs ≡ Some x → P x) → P x
    go true e later = subst P (same_Some y x e) (All-head P y xs h)
    go false e later = later e

module _ (seen : Analysis) (given : IsSpellable seen) where
  text_given : (version : ℕ) (v : Value) (a : Attr) → a.value ≡ v → IsSpellableAttr version a → AreTextBytes (text_or_empty v)
  text_given version (values.Text text) a is h = subst (IsSpellableValue version a.name) is h.value
  text_given version (values.Address place) a is h = tt
  text_given version (values.Number form bits) a is h = tt
  text_given version (values.Wide bytes) a is h = tt
  text_given version (values.Block form bytes) a is h = tt
  text_given version (values.Expr ops) a is h = tt
  text_given version (values.Ref k) a is h = tt
  text_given version (values.Ranges spans) a is h = tt
  text_given version (values.Locations items) a is h = tt
  text_given version values.Lines a is h = tt
  text_given version (values.Offset n) a is h = tt

  entry_given : (k : ℕ) (e : Entry) → slice_get seen.entries k ≡ Some e → IsSpellableEntry (version_of seen.units e.unit) e
  entry_given k e at = subst (λ (e : Entry). IsSpellableEntry (version_of seen.units e.unit) e) (get_or_from_slice_get seen.entries k e e at) (given.entries k e (slice_get_within seen.entries k e at))

  comp_dir : (unit : InUnit) → AreTextBytes (directory_of_unit seen unit)
  comp_dir unit = of_root (slice_get seen.entries unit.first) refl
    where
      of_attr : (version : ℕ) (root : Entry) → IsSpellableEntry version root → (found : Option Attr) → find (λ a. a.name == DW_AT_comp_dir) root.attrs ≡ found → AreTextBytes (option_map_or text_or_empty (option_map (λ a. a.value) found) [])
      of_attr version root h None none = tt
      of_attr version root h (Some a) some = text_given version a.value a refl (found_in (IsSpellableAttr version) (λ a. a.name == DW_AT_comp_dir) root.attrs h.attrs a some)

      of_root : (found : Option Entry) → slice_get seen.entries unit.first ≡ found → AreTextBytes (option_map_or (λ root. option_map_or text_or_empty (value_of DW_AT_comp_dir root) []) found [])
      of_root None none = tt
      of_root (Some root) some = of_attr (version_of seen.units root.unit) root (entry_given unit.first root some) (find (λ a. a.name == DW_AT_comp_dir) root.attrs) refl

  listed_dir : (version : ℕ) (lines : OutLines) → IsLineTable version lines → (i : ℕ) → AreTextBytes (listed_directory lines i)
  listed_dir version lines h i = go (slice_get lines.dirs i) refl
    where
      go : (found : Option (List ℕ)) → slice_get lines.dirs i ≡ found → AreTextBytes (unwrap_or found [])
      go None none = tt
      go (Some dir) some = (read_of (IsPath version) lines.dirs h.dirs i dir some).text

  dir_at : (unit : InUnit) (lines : OutLines) → IsLineTable unit.version lines → (place : Option ℕ) → AreTextBytes (option_map_or (listed_directory lines) place (directory_of_unit seen unit))
  dir_at unit lines h None = comp_dir unit
  dir_at unit lines h (Some i) = listed_dir unit.version lines h i

  listed : (to : ℕ) (unit : InUnit) (lines : OutLines) → Allows unit.version to → IsLineTable unit.version lines → (file : FileName) → IsFile unit.version file → IsSourceFile to (listed_file seen unit lines file)
  listed to unit lines allows h file is = record { name = path_to unit.version to file.name allows is.name; dir = dir_at unit lines h (place_of_number unit.version file.dir) }

  file_given : (to u n : ℕ) (y : SourceFile) → Allows (version_of seen.units u) to → file_in seen u n ≡ Some y → IsSourceFile to y
  file_given to u n y allows is = of_unit (slice_get seen.units u) refl allows is
    where
      of_file : (unit : InUnit) (lines : OutLines) → Allows unit.version to → IsLineTable unit.version lines → (i : ℕ) (found : Option FileName) → slice_get lines.files i ≡ found → option_map (listed_file seen unit lines) found ≡ Some y → IsSourceFile to y
      of_file unit lines a h i None none e = absurd (none-some y e)
      of_file unit lines a h i (Some file) some e =
          subst (IsSourceFile to) (same_Some (listed_file seen unit lines file) y e) (listed to unit lines a h file (read_of (IsFile unit.version) lines.files h.files i file some))

      of_lines : (unit : InUnit) → Allows unit.version to → (i : ℕ) (found : Option OutLines) → IfSome found (IsLineTable unit.version) → option_and_then (λ lines. option_map (listed_file seen unit lines) (slice_get lines.files i)) found ≡ Some y → IsSourceFile to y
      of_lines unit a i None h e = absurd (none-some y e)
      of_lines unit a i (Some lines) h e = of_file unit lines a h i (slice_get lines.files i) refl e

      of_place : (unit : InUnit) → Allows unit.version to → IsSpellableUnit seen.entries unit → (place : Option ℕ) → option_and_then (file_at seen unit) place ≡ Some y → IsSourceFile to y
      of_place unit a h None e = absurd (none-some y e)
      of_place unit a h (Some i) e = of_lines unit a i unit.lines h.lines e

      of_unit : (found : Option InUnit) → slice_get seen.units u ≡ found → Allows (option_map_or (λ (unit : InUnit). unit.version) found 0) to → option_and_then (λ unit. option_and_then (file_at seen unit) (place_of_number unit.version n)) found ≡ Some y → IsSourceFile to y
      of_unit None none a e = absurd (none-some y e)
      of_unit (Some unit) some a e = of_place unit a (read_of (IsSpellableUnit seen.entries) seen.units given.units u unit some) (place_of_number unit.version n) e

  file_of : (to u : ℕ) (v : Value) (y : SourceFile) → Allows (version_of seen.units u) to → file_by seen u v ≡ Some y → IsSourceFile to y
  file_of to u (values.Number form bits) y allows is = file_given to u bits y allows is
  file_of to u (values.Text text) y allows is = absurd (none-some y is)
  file_of to u (values.Address place) y allows is = absurd (none-some y is)
  file_of to u (values.Wide bytes) y allows is = absurd (none-some y is)
  file_of to u (values.Block form bytes) y allows is = absurd (none-some y is)
  file_of to u (values.Expr ops) y allows is = absurd (none-some y is)
  file_of to u (values.Ref k) y allows is = absurd (none-some y is)
  file_of to u (values.Ranges spans) y allows is = absurd (none-some y is)
  file_of to u (values.Locations items) y allows is = absurd (none-some y is)
  file_of to u values.Lines y allows is = absurd (none-some y is)
  file_of to u (values.Offset n) y allows is = absurd (none-some y is)

  named_by : (to u : ℕ) (a : Attr) (b : Bool) (y : SourceFile) → Allows (version_of seen.units u) to → cond b (file_by seen u a.value) None ≡ Some y → IsSourceFile to y
  named_by to u a true y allows is = file_of to u a.value y allows is
  named_by to u a false y allows is = absurd (none-some y is)

  -- the files that an entry names
  pub named_files : (to : ℕ) (e : Entry) → Allows (version_of seen.units e.unit) to → All (IsSourceFile to) (files_named seen e)
  named_files to e allows = All-filter_map (IsSourceFile to) (file_named seen e.unit) e.attrs (λ k d lt y is. named_by to e.unit (get_or e.attrs k d) _ y allows is)

-- ---- the table

dir_by : (version : ℕ) (file : SourceFile) (b : Bool) (y : List ℕ) → (length file.dir == 0) ≡ b → IsSourceFile version file → cond b None (Some file.dir) ≡ Some y → IsPath version y
dir_by version file true y none h e = absurd (none-some y e)
dir_by version file false y some h e = subst (IsPath version) (same_Some file.dir y e) (record { some = λ four. more (length file.dir) some; text = h.dir })
  where
    more : (n : ℕ) → (n == 0) ≡ false → 0 < n
    more zero is = absurd (eqb-false zero 0 is refl)
    more (suc n) is = omega arith

dirs_hold : (version : ℕ) (files : List SourceFile) → All (IsSourceFile version) files → All (IsPath version) (directories files)
dirs_hold version files h = once_all (IsPath version) bytes_eq (filter_map (λ file. cond (length file.dir == 0) None (Some file.dir)) files)
    (All-filter_map (IsPath version) (λ (file : SourceFile). cond (length file.dir == 0) None (Some file.dir)) files
    (All-weaker (IsSourceFile version) (λ file. (y : List ℕ) → cond (length file.dir == 0) None (Some file.dir) ≡ Some y → IsPath version y) (λ file is y e. dir_by version file (length file.dir == 0) y refl is e) files h))

-- what stands at number 0 of a table of version 5
first_dir : (version : ℕ) (b : Bool) → (version == 5) ≡ b → All (IsPath version) (cond b ([] ∷ []) [])
first_dir version true is =
    let five : version ≡ 5 = eqb-true version 5 is in
    All-cons (IsPath version) [] [] (record { some = λ four. absurd (omega (arith, five, four)); text = tt }) (All-nil (IsPath version))
first_dir version false is = All-nil (IsPath version)

first_of : (version : ℕ) (files : List SourceFile) → All (IsSourceFile version) files → (b : Bool) → All (IsSourceFile version) (cond b (take 1 files) [])
first_of version files h false = All-nil (IsSourceFile version)
first_of version [] h true = All-nil (IsSourceFile version)
first_of version (file ∷ files) h true = All-cons (IsSourceFile version) file [] (All-head (IsSourceFile version) file files h) (All-nil (IsSourceFile version))

dirs_long : (files : List SourceFile) → length (directories files) ≤ length files
dirs_long files = omega (arith, once_long bytes_eq (filter_map (λ (file : SourceFile). cond (length file.dir == 0) None (Some file.dir)) files), kept_long (λ (file : SourceFile). cond (length file.dir == 0) None (Some file.dir)) files)

place_small : {A : Type 0} (test : A → Bool) (xs : List A) (d : A) (i : ℕ) → position test xs ≡ Some i → i + 1 ≤ length xs
place_small test xs d i is = omega (arith, (position-Some test xs i d is).0)

number_small : (dirs : List (List ℕ)) (dir : List ℕ) → number_of_directory dirs dir ≤ length dirs
number_small dirs dir = go (position (bytes_eq dir) dirs) refl
  where
    go : (found : Option ℕ) → position (bytes_eq dir) dirs ≡ found → option_map_or (λ i. i + 1) found 0 ≤ length dirs
    go None none = omega arith
    go (Some i) some = place_small (bytes_eq dir) dirs dir i some

-- the table is one, where there are not too many files
pub table_holds : (version : ℕ) (files : List SourceFile) → length files < 2 ^ 64 → All (IsSourceFile version) files → IsLineTable version (table_of version files)
table_holds version files few h = record {
  dirs = All-append (IsPath version) (first_directory version) (directories files) (first_dir version (version == 5) refl) (dirs_hold version files h);
  files = All-map (IsFile version) written all (All-weaker (IsSourceFile version) (λ file. IsFile version (written file)) (λ file is. record {
    name = is.name;
    dir = omega (arith, few, number_small (directories files) file.dir, dirs_long files);
    time = omega arith;
    size = omega arith;
  }) all (All-append (IsSourceFile version) (first_file version files) files (first_of version files h (version == 5)) h));
  digests = none_has (All-map (λ (file : FileName). file.digest ≡ None) written all (λ k d lt. refl));
  sequences = All-nil IsSequence;
}
  where
    written : SourceFile → FileName
    written = file_written (directories files)

    all : List SourceFile
    all = first_file version files ++ files

-- ---- numbers

-- a file's number is one of 64 bits
pub number_fits : (files : List SourceFile) → length files < 2 ^ 64 → (seen : Analysis) (u n m : ℕ) → number_among files seen u n ≡ Some m → m < 2 ^ 64
number_fits files few seen u n m is = of_unit (slice_get seen.units u) is
  where
    of_place : (file : SourceFile) (found : Option ℕ) → position (same_file file) files ≡ found → option_map (λ i. i + 1) found ≡ Some m → m < 2 ^ 64
    of_place file None none e = absurd (none-some m e)
    of_place file (Some i) some e = omega (arith, few, place_small (same_file file) files file i some, same_Some (i + 1) m e)

    of_file : (found : Option SourceFile) → option_and_then (number_of files) found ≡ Some m → m < 2 ^ 64
    of_file None e = absurd (none-some m e)
    of_file (Some file) e = of_place file (position (same_file file) files) refl e

    of_number : (unit : InUnit) (place : Option ℕ) → option_map_or (λ i. option_and_then (number_of files) (file_at seen unit i)) place (Some 0) ≡ Some m → m < 2 ^ 64
    of_number unit None e = omega (arith, same_Some 0 m e)
    of_number unit (Some i) e = of_file (file_at seen unit i) e

    of_unit : (found : Option InUnit) → option_and_then (λ unit. option_map_or (λ i. option_and_then (number_of files) (file_at seen unit i)) (place_of_number unit.version n) (Some 0)) found ≡ Some m → m < 2 ^ 64
    of_unit None e = absurd (none-some m e)
    of_unit (Some unit) e = of_number unit (place_of_number unit.version n) e
