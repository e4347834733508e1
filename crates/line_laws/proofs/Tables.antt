-- The directories and the files of a written table of version 4 are read again.
use Rattle.std.proofs.Common.{◌≡◌, ℕ, zero, suc, ◌+◌, ◌<◌, ◌≤◌, ◌^◌, false, List, [], ◌∷◌, ◌++◌, length, Option, Some, None, Result, Ok, refl, sym, ap, ◌∙◌, append_assoc, append-nil, arith, length-append}
use Rattle.std.specs.Prelude.{◌==◌}
use Rattle.std.specs.List.{All, flat_map}
use Rattle.std.proofs.lemmas.Bool.{le-ltb, ne_eqb}
use Rattle.std.proofs.lemmas.List.Elements.{All-head, All-tail}
use Rattle.ds_base.specs.declared.fault.Fault.{Fault}
use Rattle.ds_base.specs.Leb.{uleb}
use Rattle.ds_base.specs.Spot.{Spot, after}
use Rattle.ds_base.specs.Texts.{ended}
use Rattle.dwarf_types.specs.declared.lines.FileName.{FileName}
use Rattle.dwarf_types.specs.LineTable.{file_bytes}
use Rattle.dwarf_types.specs.WellLines.{HaveDigests, IsFile, IsPath, each_has, none_has}
use Rattle.line_read.specs.Names.{dir_at, file_of, file_at, listed_at}
use Rattle.line_read.specs.Program.{header_end}
use Rattle.line_laws.proofs.Items.{At, at_same, passed, text_again, uleb_again}

abbrev done : {A : Type 0} → A → ℕ → Spot → Result (A × Spot) Fault
done x n s = Ok (x, after s n)

-- ---- items up to the end mark

module _ {A : Type 0} (read : Spot → Result (Option A × Spot) Fault) (bytes_of : A → List ℕ) (Sound : A → Type 0) (limit : ℕ)
    (some : (x : A) → 0 < length (bytes_of x))
    (one : (x : A) (s : Spot) (more : List ℕ) → Sound x → At s (bytes_of x ++ more) → s.place + length (bytes_of x) ≤ limit → read s ≡ Ok (Some x, after s (length (bytes_of x))))
    (last : (s : Spot) (more : List ℕ) → At s (0 ∷ more) → s.place + 1 ≤ limit → read s ≡ Ok (None, after s 1)) where
  pub listed_again : (items before : List A) (s : Spot) (more : List ℕ) (k : ℕ) → All Sound items → At s (flat_map bytes_of items ++ (0 ∷ more))
      → s.place + (length (flat_map bytes_of items) + 1) ≤ limit → length (flat_map bytes_of items) < k
      → listed_at read k before s ≡ Ok (before ++ items, after s (length (flat_map bytes_of items) + 1))
  listed_again items before s more zero sound h fits left = absurd (omega arith)
  listed_again [] before s more (suc k) sound h fits left = rw (last s more h fits) (ap (λ (xs : List A). done xs 1 s) (sym (append-nil before)))
  listed_again (x ∷ items) before s more (suc k) sound h fits left =
      let bytes = bytes_of x in
      let others = flat_map bytes_of items in
      let len = length-append bytes others in
      let here : At s (bytes ++ (others ++ (0 ∷ more))) = at_same s _ _ (append_assoc bytes others (0 ∷ more)) h in
      let read_x = one x s (others ++ (0 ∷ more)) (All-head Sound x items sound) here (omega (arith, fits, len)) in
      let rest = listed_again items (before ++ x ∷ []) (after s (length bytes)) more k (All-tail Sound x items sound) (passed s bytes (others ++ (0 ∷ more)) here)
      (omega (arith, fits, len)) (omega (arith, left, len, some x)) in
      let place : s.place + length bytes + (length others + 1) ≡ s.place + (length (bytes ++ others) + 1) = omega (arith, len) in
      rw read_x rest ∙ ap (λ (xs : List A). done xs (length others + 1) (after s (length bytes))) (append_assoc before (x ∷ []) items)
      ∙ ap (λ (p : ℕ). Ok (before ++ x ∷ items, record s { place = p })) place

-- ---- directories

some_ended : (text : List ℕ) → 0 < length (ended text)
some_ended text = omega (arith, length-append text (0 ∷ []))

dir_again : (first program : Spot) (name : List ℕ) (s : Spot) (more : List ℕ) → IsPath 4 name → At s (ended name ++ more) → s.place + length (ended name) ≤ program.place
    → dir_at (header_end first program) s ≡ Ok (Some name, after s (length (ended name)))
unfolding dir_at
dir_again first program name s more path h fits =
    let some : (length name == 0) ≡ false = ne_eqb (length name) 0 (λ e. omega (arith, path.some refl)) in
    rw (text_again name s more path.text h, le-ltb program.place (s.place + length (ended name)) fits, some) refl

no_dir : (first program : Spot) (s : Spot) (more : List ℕ) → At s (0 ∷ more) → s.place + 1 ≤ program.place → dir_at (header_end first program) s ≡ Ok (None, after s 1)
unfolding dir_at
no_dir first program s more h fits = rw (text_again [] s more tt h, le-ltb program.place (s.place + 1) fits) refl

pub dirs_again : (first program : Spot) (dirs : List (List ℕ)) (s : Spot) (more : List ℕ) (k : ℕ) → All (IsPath 4) dirs → At s (flat_map ended dirs ++ (0 ∷ more))
    → s.place + (length (flat_map ended dirs) + 1) ≤ program.place → length (flat_map ended dirs) < k
    → listed_at (dir_at (header_end first program)) k [] s ≡ Ok (dirs, after s (length (flat_map ended dirs) + 1))
dirs_again first program dirs s more k =
    listed_again (dir_at (header_end first program)) ended (IsPath 4) program.place some_ended (dir_again first program) (no_dir first program) dirs [] s more k

-- ---- files

some_file : (file : FileName) → 0 < length (file_bytes file)
some_file file = omega (arith, some_ended file.name, length-append (ended file.name) (uleb file.dir ++ (uleb file.time ++ uleb file.size)))

four : (a b c d more : List ℕ) → (a ++ (b ++ (c ++ d))) ++ more ≡ a ++ (b ++ (c ++ (d ++ more)))
four a b c d more = simp append_assoc refl

file_in_parts : (first program s : Spot) (name : List ℕ) (dir time size : ℕ) (more : List ℕ) → IsPath 4 name → dir < 2 ^ 64 → time < 2 ^ 64 → size < 2 ^ 64
    → At s (ended name ++ (uleb dir ++ (uleb time ++ (uleb size ++ more)))) → s.place + length (ended name ++ (uleb dir ++ (uleb time ++ uleb size))) ≤ program.place
    → file_at (header_end first program) s ≡ Ok (Some (record { name = name; dir = dir; time = time; size = size; digest = None }), after s (length (ended name ++ (uleb dir ++ (uleb time ++ uleb size)))))
unfolding file_at file_of
file_in_parts first program s name dir time size more path dir_fits time_fits size_fits h0 fits =
    let a = ended name in
    let b = uleb dir in
    let c = uleb time in
    let d = uleb size in
    let h1 = passed s a (b ++ (c ++ (d ++ more))) h0 in
    let h2 = passed (after s (length a)) b (c ++ (d ++ more)) h1 in
    let h3 = passed (after (after s (length a)) (length b)) c (d ++ more) h2 in
    let len : length (a ++ (b ++ (c ++ d))) ≡ length a + (length b + (length c + length d)) = simp length-append refl in
    let some : (length name == 0) ≡ false = ne_eqb (length name) 0 (λ e. omega (arith, path.some refl)) in
    let p = program.place in
    let place : s.place + length a + length b + length c + length d ≡ s.place + length (a ++ (b ++ (c ++ d))) = omega (arith, len) in
    rw (
      text_again name s (b ++ (c ++ (d ++ more))) path.text h0,
      le-ltb p (s.place + length a) (omega (arith, fits, len)),
      some,
      uleb_again dir (after s (length a)) (c ++ (d ++ more)) dir_fits h1,
      le-ltb p (s.place + length a + length b) (omega (arith, fits, len)),
      uleb_again time (after (after s (length a)) (length b)) (d ++ more) time_fits h2,
      le-ltb p (s.place + length a + length b + length c) (omega (arith, fits, len)),
      uleb_again size (after (after (after s (length a)) (length b)) (length c)) more size_fits h3,
      le-ltb p (s.place + length a + length b + length c + length d) (omega (arith, fits, len)),
      place,
    ) refl

-- a file that has no digest
record IsPlain (file : FileName) : Type 0 where
  pub well : IsFile 4 file
  pub plain : file.digest ≡ None

-- those of a table of version 4
all_plain : (files : List FileName) → All (IsFile 4) files → HaveDigests 4 files → All IsPlain files
all_plain files sound (none_has none) = λ k d lt. record { well = sound k d lt; plain = none k d lt }
all_plain files sound (each_has five each) = absurd (omega (arith, five))

file_again : (first program : Spot) (file : FileName) (s : Spot) (more : List ℕ) → IsPlain file → At s (file_bytes file ++ more) → s.place + length (file_bytes file) ≤ program.place
    → file_at (header_end first program) s ≡ Ok (Some file, after s (length (file_bytes file)))
file_again first program file s more sound h fits =
    file_in_parts first program s file.name file.dir file.time file.size more sound.well.name sound.well.dir sound.well.time sound.well.size
    (at_same s _ _ (four (ended file.name) (uleb file.dir) (uleb file.time) (uleb file.size) more) h) fits
    ∙ ap (λ (digest : Option (List ℕ)). done (Some (record file { digest = digest })) (length (file_bytes file)) s) (sym sound.plain)

no_file : (first program : Spot) (s : Spot) (more : List ℕ) → At s (0 ∷ more) → s.place + 1 ≤ program.place → file_at (header_end first program) s ≡ Ok (None, after s 1)
unfolding file_at
no_file first program s more h fits = rw (text_again [] s more tt h, le-ltb program.place (s.place + 1) fits) refl

pub files_again : (first program : Spot) (files : List FileName) (s : Spot) (more : List ℕ) (k : ℕ) → All (IsFile 4) files → HaveDigests 4 files → At s (flat_map file_bytes files ++ (0 ∷ more))
    → s.place + (length (flat_map file_bytes files) + 1) ≤ program.place → length (flat_map file_bytes files) < k
    → listed_at (file_at (header_end first program)) k [] s ≡ Ok (files, after s (length (flat_map file_bytes files) + 1))
files_again first program files s more k sound digests =
    listed_again (file_at (header_end first program)) file_bytes IsPlain program.place some_file (file_again first program) (no_file first program) files [] s more k (all_plain files sound digests)
