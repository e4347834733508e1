-- A number of a source file in the table of merged entries names the file that the entry's own number names.
use Rattle.std.proofs.Common.{◌≡◌, inl, inr, ℕ, suc, ◌+◌, ◌-◌, ◌<◌, ◌==◌, not, Bool, true, false, cond, List, [], ◌∷◌, ◌++◌, length, map, take, get_or, slice_get, Option, Some, None, is_none, refl, sym, ap, subst, ◌∙◌, arith}
use Rattle.std.specs.Cmp.Lexicographic.{bytes_decides}
use Rattle.std.specs.List.{Contains, filter, filter_map, position, position_or_len}
use Rattle.std.specs.Option.{option_and_then, option_map, option_map_or, unwrap_or}
use Rattle.std.specs.Str.{bytes_eq}
use Rattle.std.proofs.lemmas.Bool.{both_ways, cases_lt, eq-eqb, eqb-true, lt-ltb, ne_eqb}
use Rattle.std.proofs.lemmas.List.Quantifiers.{position-Some}
use Rattle.std.proofs.lemmas.List.Sums.{fails_before_first}
use Rattle.std.proofs.lemmas.Option.{none-some, same_Some, slice_get-get_or, slice_get-map}
use Rattle.ds_base.specs.DwarfNumbers.{DW_AT_decl_file}
use Rattle.ds_base.specs.FirstUse.{once}
use Rattle.dwarf_types.specs.declared.analysis.Analysis.{Analysis}
use Rattle.dwarf_types.specs.declared.entry.Attr.{Attr}
use Rattle.dwarf_types.specs.declared.entry.Entry.{Entry}
use Rattle.dwarf_types.specs.declared.entry.InUnit.{InUnit}
use Rattle.dwarf_types.specs.declared.graph.OutUnit.{OutUnit}
use Rattle.dwarf_types.specs.declared.lines.FileName.{FileName}
use Rattle.dwarf_types.specs.declared.lines.OutLines.{OutLines}
use Rattle.dwarf_types.specs.declared.value.Value.TheVariants as values
use Rattle.link_graph.specs.PoolFiles.{SourceFile, directories, file_at, file_by, file_in, file_named, file_written, files_named, number_among, number_of, number_of_directory, place_of_number, same_file, table_of}
use Rattle.merged_laws.specs.SourceFiles.{Becomes, file_as_told, file_told, names_none}
use Rattle.merged_laws.proofs.Members.{first_in, in_cases, in_filter, in_filter_map, later_in, none_in}
use Rattle.merged_laws.proofs.Plain.{and_made, and_parts}

-- ---- items by first use

-- a test that tells what is one and the same
abbrev pub Tells : {A : Type 0} → (A → A → Bool) → Type 0
Tells {A} same = (a b : A) → same a b ≡ true → a ≡ b

-- each item stands among those of first use
pub once_has : {A : Type 0} (same : A → A → Bool) → Tells same → (xs : List A) (x : A) → Contains xs x → Contains (once same xs) x
once_has same tells [] x h = absurd (none_in x h)
once_has {A} same tells (z ∷ xs) x h = elim (in_cases z xs x h) [
  | inl here ↦ subst (Contains (once same (z ∷ xs))) here (first_in z (filter (λ y. not (same z y)) (once same xs)))
  | inr later ↦ decide (same z x) refl (once_has same tells xs x later)
]
  where
    decide : (b : Bool) → same z x ≡ b → Contains (once same xs) x → Contains (once same (z ∷ xs)) x
    decide true is there = subst (Contains (once same (z ∷ xs))) (tells z x is) (first_in z (filter (λ y. not (same z y)) (once same xs)))
    decide false is there = later_in z (filter (λ y. not (same z y)) (once same xs)) x (in_filter (λ y. not (same z y)) (once same xs) x there (ap not is))

-- the first place of an item, where it stands in a list
pub record Placed {A : Type 0} (same : A → A → Bool) (xs : List A) (x : A) : Type 0 where
  pub place : ℕ
  pub is : position (same x) xs ≡ Some place
  pub at : slice_get xs place ≡ Some x

placed_at : {A : Type 0} (same : A → A → Bool) → Tells same → (xs : List A) (x : A) (n : ℕ) → position (same x) xs ≡ Some n → Placed same xs x
placed_at same tells xs x n is =
    let w = position-Some (same x) xs n x is in
    record { place = n; is = is; at = slice_get-get_or xs n x w.0 ∙ ap (λ y. Some y) (sym (tells x (get_or xs n x) w.1)) }

pub placed : {A : Type 0} (same : A → A → Bool) → Tells same → (xs : List A) (x : A) → same x x ≡ true → Contains xs x → Placed same xs x
placed same tells xs x itself h =
    let low : position_or_len (same x) xs < length xs = elim (cases_lt h.0 (position_or_len (same x) xs)) [
      | inl lt ↦ absurd (both_ways _ (fails_before_first (same x) xs h.0 x lt) (ap (same x) h.2 ∙ itself))
      | inr le ↦ omega (arith, le, h.1)
    ] in
    placed_at same tells xs x (position_or_len (same x) xs) (ap (λ (b : Bool). cond b (Some (position_or_len (same x) xs)) None) (lt-ltb (position_or_len (same x) xs) (length xs) low))

bytes_tell : Tells bytes_eq
bytes_tell a b is = (bytes_decides a b).0 is

bytes_same : (a : List ℕ) → bytes_eq a a ≡ true
bytes_same a = (bytes_decides a a).1 refl

pub files_tell : Tells same_file
files_tell a b is =
    let parts = and_parts (bytes_eq a.dir b.dir) (bytes_eq a.name b.name) is in
    let dir = bytes_tell a.dir b.dir parts.0 in
    let name = bytes_tell a.name b.name parts.1 in
    (λ i. record { dir = dir i; name = name i })

file_same : (a : SourceFile) → same_file a a ≡ true
file_same a = and_made (bytes_eq a.dir a.dir) (bytes_eq a.name a.name) (bytes_same a.dir) (bytes_same a.name)

-- ---- the table

-- the place of a number, where numbers count from 0
abbrev place_by : Bool → ℕ → Option ℕ
place_by five n = cond five (Some n) (cond (n == 0) None (Some (n - 1)))

place_next : (i : ℕ) → place_by false (suc i) ≡ Some i
place_next i = let same : suc i - 1 ≡ i = omega arith in ap (λ (b : Bool). cond b None (Some (suc i - 1))) (ne_eqb (suc i) 0 (λ none. omega (arith, none))) ∙ ap (λ (n : ℕ). Some n) same

module _ (files : List SourceFile) where
  abbrev dirs : List (List ℕ)
  dirs = directories files

  abbrev some_dir : SourceFile → Option (List ℕ)
  some_dir file = cond (length file.dir == 0) None (Some file.dir)

  abbrev all_dirs : Bool → List (List ℕ)
  all_dirs five = cond five ([] ∷ []) [] ++ dirs

  abbrev dir_by : Bool → ℕ → List ℕ
  dir_by five n = option_map_or (λ i. unwrap_or (slice_get (all_dirs five) i) []) (place_by five n) []

  dir_listed : (file : SourceFile) → Contains files file → (length file.dir == 0) ≡ false → Contains dirs file.dir
  dir_listed file h some = once_has bytes_eq bytes_tell (filter_map some_dir files) file.dir (in_filter_map some_dir files file file.dir h (ap (λ (b : Bool). cond b None (Some file.dir)) some))

  no_bytes : (dir : List ℕ) → (length dir == 0) ≡ true → dir ≡ []
  no_bytes [] is = refl
  no_bytes (b ∷ dir) is = absurd (let none = eqb-true (length (b ∷ dir)) 0 is in omega (arith, none))

  dir_at : (five : Bool) (i : ℕ) (dir : List ℕ) → slice_get dirs i ≡ Some dir → dir_by five (suc i) ≡ dir
  dir_at true i dir at = ap (λ (found : Option (List ℕ)). unwrap_or found []) at
  dir_at false i dir at = ap (λ (place : Option ℕ). option_map_or (λ i. unwrap_or (slice_get dirs i) []) place []) (place_next i) ∙ ap (λ (found : Option (List ℕ)). unwrap_or found []) at

  dir_none : (five : Bool) → dir_by five 0 ≡ []
  dir_none true = refl
  dir_none false = refl

  -- the number of a file's directory leads to it
  dir_told : (five : Bool) (file : SourceFile) → Contains files file → dir_by five (number_of_directory dirs file.dir) ≡ file.dir
  dir_told five file h = go (position (bytes_eq file.dir) dirs) refl
    where
      number : Option ℕ → ℕ
      number found = option_map_or (λ i. i + 1) found 0

      empty : (b : Bool) → (length file.dir == 0) ≡ b → position (bytes_eq file.dir) dirs ≡ None → dir_by five 0 ≡ file.dir
      empty true is none = dir_none five ∙ sym (no_bytes file.dir is)
      empty false is none = let w = placed bytes_eq bytes_tell dirs file.dir (bytes_same file.dir) (dir_listed file h is) in absurd (none-some w.place (sym none ∙ w.is))

      go : (found : Option ℕ) → position (bytes_eq file.dir) dirs ≡ found → dir_by five (number found) ≡ file.dir
      go None none = empty (length file.dir == 0) refl none
      go (Some i) some =
          let next : i + 1 ≡ suc i = omega arith in
          ap (dir_by five) next ∙ dir_at five i file.dir (let w = placed_at bytes_eq bytes_tell dirs file.dir i some in subst (λ (n : ℕ). slice_get dirs n ≡ Some file.dir) (same_Some w.place i (sym w.is ∙ some)) w.at)

  abbrev all_files : Bool → List SourceFile
  all_files five = cond five (take 1 files) [] ++ files

  one_first : (xs : List SourceFile) (i : ℕ) (file : SourceFile) → slice_get xs i ≡ Some file → slice_get (take 1 xs ++ xs) (suc i) ≡ Some file
  one_first [] i file at = absurd (none-some file at)
  one_first (x ∷ xs) i file at = at

  abbrev told : Bool → FileName → SourceFile
  told five file = record { dir = dir_by five file.dir; name = file.name }

  told_there : (five : Bool) (i : ℕ) (file : SourceFile) → slice_get files i ≡ Some file → Contains files file
      → option_and_then (λ k. option_map (told five) (slice_get (map (file_written dirs) (all_files five)) k)) (place_by five (suc i)) ≡ Some file
  told_there true i file at h =
      ap (option_map (told true)) (slice_get-map (file_written dirs) (all_files true) (suc i) ∙ ap (option_map (file_written dirs)) (one_first files i file at))
      ∙ ap (λ (dir : List ℕ). Some (record { dir = dir; name = file.name })) (dir_told true file h)
  told_there false i file at h =
      ap (option_and_then (λ k. option_map (told false) (slice_get (map (file_written dirs) files) k))) (place_next i)
      ∙ ap (option_map (told false)) (slice_get-map (file_written dirs) files i ∙ ap (option_map (file_written dirs)) at)
      ∙ ap (λ (dir : List ℕ). Some (record { dir = dir; name = file.name })) (dir_told false file h)

  -- ---- numbers

  module _ (unit : OutUnit) (lines : unit.lines ≡ Some (table_of unit.version files)) (seen : Analysis) (u n : ℕ) (listed_there : (file : SourceFile) → file_in seen u n ≡ Some file → Contains files file) where
    told_file : (i : ℕ) (file : SourceFile) → slice_get files i ≡ Some file → Contains files file → file_told unit (suc i) ≡ Some file
    told_file i file at h =
        ap (option_and_then (λ (lines : OutLines). option_and_then (λ i. option_map (file_as_told unit.version lines) (slice_get lines.files i)) (place_of_number unit.version (suc i)))) lines
        ∙ told_there (unit.version == 5) i file at h

    abbrev number_at : InUnit → ℕ → Option ℕ
    number_at own i = option_and_then (number_of files) (file_at seen own i)

    of_file : (own : InUnit) (i : ℕ) → slice_get seen.units u ≡ Some own → place_of_number own.version n ≡ Some i → (found : Option SourceFile) → file_at seen own i ≡ found → Becomes unit seen u n (option_and_then (number_of files) found)
    of_file own i at place found is = by found (named ∙ is)
      where
        known : names_none seen u n ≡ false
        known = ap (λ (x : Option InUnit). option_map_or (λ unit. is_none (place_of_number unit.version n)) x false) at ∙ ap is_none place

        named : file_in seen u n ≡ file_at seen own i
        named = ap (option_and_then (λ (unit : InUnit). option_and_then (file_at seen unit) (place_of_number unit.version n))) at ∙ ap (option_and_then (file_at seen own)) place

        by : (found : Option SourceFile) → file_in seen u n ≡ found → Becomes unit seen u n (option_and_then (number_of files) found)
        by None none = (known, none)
        by (Some file) some =
            let there = listed_there file some in
            let w = placed same_file files_tell files file (file_same file) there in
            let next : w.place + 1 ≡ suc w.place = omega arith in
            subst (Becomes unit seen u n) (sym (ap (option_map (λ i. i + 1)) w.is ∙ ap (λ (m : ℕ). Some m) next)) (file, some, told_file w.place file w.at there)

    of_place : (own : InUnit) → slice_get seen.units u ≡ Some own → (place : Option ℕ) → place_of_number own.version n ≡ place → Becomes unit seen u n (option_map_or (number_at own) place (Some 0))
    of_place own at None none = ap (λ (x : Option InUnit). option_map_or (λ unit. is_none (place_of_number unit.version n)) x false) at ∙ ap is_none none
    of_place own at (Some i) some = of_file own i at some (file_at seen own i) refl

    of_unit : (found : Option InUnit) → slice_get seen.units u ≡ found → Becomes unit seen u n (option_and_then (λ own. option_map_or (number_at own) (place_of_number own.version n) (Some 0)) found)
    of_unit None none = (
      ap (λ (x : Option InUnit). option_map_or (λ unit. is_none (place_of_number unit.version n)) x false) none,
      ap (option_and_then (λ (unit : InUnit). option_and_then (file_at seen unit) (place_of_number unit.version n))) none,
    )
    of_unit (Some own) some = of_place own some (place_of_number own.version n) refl

    pub becomes : Becomes unit seen u n (number_among files seen u n)
    becomes = of_unit (slice_get seen.units u) refl

-- ---- entries

-- the file that an attribute of an entry names is among the files of the entry
pub file_of_entry : (seen : Analysis) (e : Entry) (a : Attr) (form n : ℕ) (file : SourceFile) → Contains e.attrs a → a.name ≡ DW_AT_decl_file → a.value ≡ values.Number form n → file_in seen e.unit n ≡ Some file → Contains (files_named seen e) file
file_of_entry seen e a form n file h name value is =
    in_filter_map (file_named seen e.unit) e.attrs a file h
    (ap (λ (b : Bool). cond b (file_by seen e.unit a.value) None) (eq-eqb a.name DW_AT_decl_file name) ∙ ap (file_by seen e.unit) value ∙ is)
