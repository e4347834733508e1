-- The tables of directories and files of a written table of version 5 are read again, with digests where each file has one.
use Rattle.std.proofs.Common.{◌≡◌, ℕ, suc, ◌+◌, ◌<◌, ◌≤◌, ◌^◌, ◌&&◌, not, Bool, true, false, List, [], ◌∷◌, ◌++◌, length, map, Option, Some, None, Result, Ok, refl, sym, ap, subst, ◌∙◌, append_assoc, append-nil, arith, length-append}
use Rattle.std.specs.Prelude.{◌==◌, is_some}
use Rattle.std.specs.List.{All, flat_map, list_all, list_any}
use Rattle.std.specs.Option.{unwrap_or}
use Rattle.std.proofs.lemmas.Bool.{ne_eqb}
use Rattle.std.proofs.lemmas.List.Elements.{All-cons, All-head, All-nil, All-tail}
use Rattle.byteorder.specs.Endian.{little_bytes}
use Rattle.ds_base.specs.DwarfNumbers.{DW_FORM_data16, DW_FORM_line_strp, DW_FORM_udata, DW_LNCT_MD5, DW_LNCT_directory_index, DW_LNCT_path, DW_LNCT_size, DW_LNCT_timestamp}
use Rattle.ds_base.specs.declared.fault.Fault.{Fault}
use Rattle.ds_base.specs.Leb.{uleb}
use Rattle.ds_base.specs.Spot.{Spot, after}
use Rattle.dwarf_types.specs.declared.lines.FileName.{FileName}
use Rattle.dwarf_types.specs.LineTable.{directories_bytes, directory_entry, directory_format, file_entry, file_format, files_bytes, have_digests}
use Rattle.dwarf_types.specs.SectionBytes.{SectionBytes}
use Rattle.dwarf_types.specs.WellLines.{HaveDigests, IsDigest, each_has, none_has}
use Rattle.line_read.specs.Entries.{dir_entry_at, entries_of, file_entry_at}
use Rattle.line_read.specs.Formats.{content_of, form_of, is_path, item_of}
use Rattle.line_read.specs.Program.{header_end}
use Rattle.line_read.proofs.EntryTables.{HasDigest}
use Rattle.line_laws.proofs.Entries.{AreItems, IsNamed, IsPair, Item, Pair, digest_in_parts, dir_again, format_again, format_bytes, items_again, pair_bytes, pair_item, plain_in_parts, some_is}
use Rattle.line_laws.proofs.Items.{At, at_same, passed}

-- ---- a format and its entries

map_same : {X : Type 0} (xs : List X) → map (λ (x : X). x) xs ≡ xs
map_same [] = refl
map_same {X = X} (x ∷ xs) = ap (λ (ys : List X). x ∷ ys) (map_same xs)

regroup : (n : ℕ) (f u e more : List ℕ) → (n ∷ (f ++ (u ++ e))) ++ more ≡ (n ∷ (f ++ u)) ++ (e ++ more)
regroup n f u e more = simp append_assoc refl

parts_long : (n : ℕ) (f u e : List ℕ) → length (n ∷ (f ++ (u ++ e))) ≡ length (n ∷ (f ++ u)) + length e
parts_long n f u e = omega (arith, length-append f (u ++ e), length-append u e, length-append f u)

module _ {X : Type 0} (first program : Spot) (read : List Item → Spot → Result (X × Spot) Fault) (bytes_of : X → List ℕ) (Sound : X → Type 0) (pairs : List Pair) (sound_pairs : All IsPair pairs) (path : list_any is_path (map pair_item pairs) ≡ true)
    (one : (x : X) (s : Spot) (more : List ℕ) → Sound x → At s (bytes_of x ++ more) → s.place + length (bytes_of x) ≤ program.place → read (map pair_item pairs) s ≡ Ok (x, after s (length (bytes_of x)))) where
  -- how many pairs, the pairs, how many entries, and the entries
  abbrev whole : List X → List ℕ
  whole xs = length pairs ∷ (flat_map pair_bytes pairs ++ (uleb (length xs) ++ flat_map bytes_of xs))

  entries_again : (xs : List X) (s : Spot) (more : List ℕ) → All Sound xs → length xs < 2 ^ 64 → At s (whole xs ++ more) → s.place + length (whole xs) ≤ program.place → entries_of read (header_end first program) s ≡ Ok (xs, after s (length (whole xs)))
  entries_again xs s more sound few h fits =
      let format = format_bytes pairs (length xs) in
      let entries = flat_map bytes_of xs in
      let h0 : At s (format ++ (entries ++ more)) = at_same s _ _ (regroup (length pairs) (flat_map pair_bytes pairs) (uleb (length xs)) entries more) h in
      let h1 = passed s format (entries ++ more) h0 in
      let len : length (whole xs) ≡ length format + length entries = parts_long (length pairs) (flat_map pair_bytes pairs) (uleb (length xs)) entries in
      let place : s.place + length format + length entries ≡ s.place + length (whole xs) = omega (arith, len) in
      let opened = format_again first program pairs (length xs) s (entries ++ more) sound_pairs path few h0 (omega (arith, fits, len)) in
      let read_all = items_again (read (map pair_item pairs)) bytes_of (λ (x : X). x) Sound program.place one xs [] (after s (length format)) more sound h1 (omega (arith, fits, len)) in
      rw opened read_all ∙ ap (λ (ys : List X). Ok (ys, after (after s (length format)) (length entries))) (map_same xs) ∙ ap (λ (p : ℕ). Ok (xs, record s { place = p })) place

-- ---- the pairs that are written

path_item : (i : Item) × (item_of DW_LNCT_path DW_FORM_line_strp ≡ Some i)
unfolding form_of content_of
path_item = (_, refl)

dir_item : (i : Item) × (item_of DW_LNCT_directory_index DW_FORM_udata ≡ Some i)
unfolding form_of content_of
dir_item = (_, refl)

time_item : (i : Item) × (item_of DW_LNCT_timestamp DW_FORM_udata ≡ Some i)
unfolding form_of content_of
time_item = (_, refl)

size_item : (i : Item) × (item_of DW_LNCT_size DW_FORM_udata ≡ Some i)
unfolding form_of content_of
size_item = (_, refl)

md5_item : (i : Item) × (item_of DW_LNCT_MD5 DW_FORM_data16 ≡ Some i)
unfolding form_of content_of
md5_item = (_, refl)

is_a_path : (i : Item) → item_of DW_LNCT_path DW_FORM_line_strp ≡ Some i → is_path i ≡ true
unfolding form_of content_of
is_a_path i e = subst (λ (j : Item). is_path j ≡ true) (some_is _ i e) refl

path_first : (i : Item) (others : List Item) → item_of DW_LNCT_path DW_FORM_line_strp ≡ Some i → list_any is_path (i ∷ others) ≡ true
path_first i others e = rw (is_a_path i e) refl

pair_of : (content form : ℕ) (i : Item) → content < 2 ^ 64 → form < 2 ^ 64 → item_of content form ≡ Some i → IsPair (content, form, i)
pair_of content form i a b e = record { content = a; form = b; is = e }

abbrev path_pair : Pair
path_pair = (DW_LNCT_path, DW_FORM_line_strp, path_item.0)

path_sound : IsPair path_pair
path_sound = pair_of DW_LNCT_path DW_FORM_line_strp path_item.0 (omega arith) (omega arith) path_item.1

abbrev dir_pair : Pair
dir_pair = (DW_LNCT_directory_index, DW_FORM_udata, dir_item.0)

abbrev time_pair : Pair
time_pair = (DW_LNCT_timestamp, DW_FORM_udata, time_item.0)

abbrev size_pair : Pair
size_pair = (DW_LNCT_size, DW_FORM_udata, size_item.0)

abbrev md5_pair : Pair
md5_pair = (DW_LNCT_MD5, DW_FORM_data16, md5_item.0)

-- those of files before others
abbrev plain_pairs : List Pair → List Pair
plain_pairs others = path_pair ∷ dir_pair ∷ time_pair ∷ size_pair ∷ others

plain_sound : (others : List Pair) → All IsPair others → All IsPair (plain_pairs others)
plain_sound others sound =
    All-cons IsPair path_pair (dir_pair ∷ time_pair ∷ size_pair ∷ others) path_sound
    (All-cons IsPair dir_pair (time_pair ∷ size_pair ∷ others) (pair_of DW_LNCT_directory_index DW_FORM_udata dir_item.0 (omega arith) (omega arith) dir_item.1)
    (All-cons IsPair time_pair (size_pair ∷ others) (pair_of DW_LNCT_timestamp DW_FORM_udata time_item.0 (omega arith) (omega arith) time_item.1)
    (All-cons IsPair size_pair others (pair_of DW_LNCT_size DW_FORM_udata size_item.0 (omega arith) (omega arith) size_item.1) sound)))

plain_path : (others : List Pair) → list_any is_path (map pair_item (plain_pairs others)) ≡ true
plain_path others = path_first path_item.0 (map pair_item (dir_pair ∷ time_pair ∷ size_pair ∷ others)) path_item.1

md5_sound : All IsPair (md5_pair ∷ [])
md5_sound = All-cons IsPair md5_pair [] (pair_of DW_LNCT_MD5 DW_FORM_data16 md5_item.0 (omega arith) (omega arith) md5_item.1) (All-nil IsPair)

-- ---- the parts of a file

five : (w x y z u more : List ℕ) → (w ++ (x ++ (y ++ (z ++ u)))) ++ more ≡ w ++ (x ++ (y ++ (z ++ (u ++ more))))
five w x y z u more = simp append_assoc refl

file_long : (w x y z u : List ℕ) → length w ≡ 4 → length (w ++ (x ++ (y ++ (z ++ u)))) ≡ 4 + length x + length y + length z + length u
file_long w x y z u four = omega (arith, four, length-append w (x ++ (y ++ (z ++ u))), length-append x (y ++ (z ++ u)), length-append y (z ++ u), length-append z u)

abbrev with_digest : FileName → Option (List ℕ) → FileName
with_digest file digest = record { name = file.name; dir = file.dir; time = file.time; size = file.size; digest = digest }

some_of : (digest : Option (List ℕ)) → IsDigest digest → (digest ≡ Some (unwrap_or digest [])) × (length (unwrap_or digest []) ≡ 16)
some_of None is = absurd is
some_of (Some bytes) is = (refl, is.0)

-- ---- directories

module _ (first program : Spot) (sections : SectionBytes) (text : List ℕ → ℕ) where
  pub dirs_again : (dirs : List (List ℕ)) (s : Spot) (more : List ℕ) → All (IsNamed first program sections text) dirs → length dirs < 2 ^ 64 → At s (directories_bytes text dirs ++ more) → s.place + length (directories_bytes text dirs) ≤ program.place
      → entries_of (dir_entry_at (header_end first program) sections) (header_end first program) s ≡ Ok (dirs, after s (length (directories_bytes text dirs)))
  dirs_again dirs s more sound few h fits =
      let pairs : List Pair = path_pair ∷ [] in
      let same : length pairs ∷ flat_map pair_bytes pairs ≡ directory_format = ap (λ (xs : List ℕ). 1 ∷ xs) (append-nil (pair_bytes path_pair)) in
      let Named : List ℕ → Type 0 = IsNamed first program sections text in
      let Again : List ℕ → Type 0 = λ format. (At s ((format ++ (uleb (length dirs) ++ flat_map (directory_entry text) dirs)) ++ more) → s.place + length (format ++ (uleb (length dirs) ++ flat_map (directory_entry text) dirs)) ≤ program.place
      → entries_of (dir_entry_at (header_end first program) sections) (header_end first program) s ≡ Ok (dirs, after s (length (format ++ (uleb (length dirs) ++ flat_map (directory_entry text) dirs))))) in
      subst Again same
      (λ here room. entries_again first program (dir_entry_at (header_end first program) sections) (directory_entry text) Named pairs (All-cons IsPair path_pair [] path_sound (All-nil IsPair)) (path_first path_item.0 [] path_item.1)
      (dir_again first program sections text path_item.0 path_item.1) dirs s more sound few here room) h fits

  -- ---- files

  -- a file in a table whose files have digests or do not
  pub record IsWritten (has : Bool) (file : FileName) : Type 0 where
    pub named : IsNamed first program sections text file.name
    pub dir : file.dir < 2 ^ 64
    pub time : file.time < 2 ^ 64
    pub size : file.size < 2 ^ 64
    pub digest : HasDigest has file.digest

  items_known : AreItems first program sections path_item.0 dir_item.0 time_item.0 size_item.0
  items_known = record { path_is = path_item.1; dir_is = dir_item.1; time_is = time_item.1; size_is = size_item.1 }

  plain_again : (file : FileName) (s : Spot) (more : List ℕ) → IsWritten false file → At s (file_entry text false file ++ more) → s.place + length (file_entry text false file) ≤ program.place
      → file_entry_at (header_end first program) sections (map pair_item (plain_pairs [])) s ≡ Ok (file, after s (length (file_entry text false file)))
  plain_again file s more is h fits =
      let w = little_bytes 4 (text file.name) in
      let x = uleb file.dir in
      let y = uleb file.time in
      let z = uleb file.size in
      let len = file_long w x y z [] refl in
      let h0 : At s (w ++ (x ++ (y ++ (z ++ more)))) = at_same s _ _ (five w x y z [] more) h in
      let place : s.place + (4 + length x + length y + length z) ≡ s.place + length (file_entry text false file) = omega (arith, len) in
      plain_in_parts first program sections text path_item.0 dir_item.0 time_item.0 size_item.0 items_known file.name file.dir file.time file.size s more is.named is.dir is.time is.size h0 (omega (arith, fits, len))
      ∙ ap (λ (p : ℕ). Ok (with_digest file None, record s { place = p })) place ∙ ap (λ (digest : Option (List ℕ)). Ok (with_digest file digest, after s (length (file_entry text false file)))) (sym is.digest)

  digest_again : (file : FileName) (s : Spot) (more : List ℕ) → IsWritten true file → At s (file_entry text true file ++ more) → s.place + length (file_entry text true file) ≤ program.place
      → file_entry_at (header_end first program) sections (map pair_item (plain_pairs (md5_pair ∷ []))) s ≡ Ok (file, after s (length (file_entry text true file)))
  digest_again file s more is h fits =
      let w = little_bytes 4 (text file.name) in
      let x = uleb file.dir in
      let y = uleb file.time in
      let z = uleb file.size in
      let u = unwrap_or file.digest [] in
      let known = some_of file.digest is.digest in
      let len = file_long w x y z u refl in
      let long = known.1 in
      let h0 : At s (w ++ (x ++ (y ++ (z ++ (u ++ more))))) = at_same s _ _ (five w x y z u more) h in
      let place : s.place + (4 + length x + length y + length z + 16) ≡ s.place + length (file_entry text true file) = omega (arith, len, long) in
      digest_in_parts first program sections text path_item.0 dir_item.0 time_item.0 size_item.0 items_known md5_item.0 md5_item.1 file.name file.dir file.time file.size u s more long is.named is.dir is.time is.size h0 (omega (arith, fits, len, long))
      ∙ ap (λ (p : ℕ). Ok (with_digest file (Some u), record s { place = p })) place ∙ ap (λ (digest : Option (List ℕ)). Ok (with_digest file digest, after s (length (file_entry text true file)))) (sym known.0)

  -- the table in a format
  abbrev files_in : List ℕ → Bool → List FileName → List ℕ
  files_in format has files = format ++ (uleb (length files) ++ flat_map (file_entry text has) files)

  files_by : (has : Bool) (files : List FileName) (s : Spot) (more : List ℕ) → All (IsWritten has) files → length files < 2 ^ 64 → At s (files_in (file_format has) has files ++ more) → s.place + length (files_in (file_format has) has files) ≤ program.place
      → entries_of (file_entry_at (header_end first program) sections) (header_end first program) s ≡ Ok (files, after s (length (files_in (file_format has) has files)))
  files_by false files s more sound few h fits =
      entries_again first program (file_entry_at (header_end first program) sections) (file_entry text false) (IsWritten false) (plain_pairs []) (plain_sound [] (All-nil IsPair)) (plain_path []) plain_again files s more sound few h fits
  files_by true files s more sound few h fits =
      let pairs : List Pair = plain_pairs (md5_pair ∷ []) in
      let same : length pairs ∷ flat_map pair_bytes pairs ≡ file_format true =
      ap (λ (xs : List ℕ). 5 ∷ (pair_bytes path_pair ++ (pair_bytes dir_pair ++ (pair_bytes time_pair ++ (pair_bytes size_pair ++ xs))))) (append-nil (pair_bytes md5_pair)) in
      let Again : List ℕ → Type 0 = λ format. (At s (files_in format true files ++ more) → s.place + length (files_in format true files) ≤ program.place
      → entries_of (file_entry_at (header_end first program) sections) (header_end first program) s ≡ Ok (files, after s (length (files_in format true files)))) in
      subst Again same
      (λ here room. entries_again first program (file_entry_at (header_end first program) sections) (file_entry text true) (IsWritten true) pairs (plain_sound (md5_pair ∷ []) md5_sound) (plain_path (md5_pair ∷ [])) digest_again files s more sound few here room) h fits

  -- what is written of digests is what files have
  pub files_again : (files : List FileName) (s : Spot) (more : List ℕ) → All (IsWritten (have_digests files)) files → length files < 2 ^ 64 → At s (files_bytes text files ++ more) → s.place + length (files_bytes text files) ≤ program.place
      → entries_of (file_entry_at (header_end first program) sections) (header_end first program) s ≡ Ok (files, after s (length (files_bytes text files)))
  files_again files s more sound few h fits = files_by (have_digests files) files s more sound few h fits

-- ---- digests

and_no : (b : Bool) → (b && false) ≡ false
and_no true = refl
and_no false = refl

none_some : (digest : Option (List ℕ)) → digest ≡ None → is_some digest ≡ false
none_some digest e = ap is_some e

there_some : (digest : Option (List ℕ)) → IsDigest digest → is_some digest ≡ true
there_some None is = absurd is
there_some (Some bytes) is = refl

no_digests : (files : List FileName) → All (λ file. file.digest ≡ None) files → have_digests files ≡ false
no_digests [] all = refl
no_digests (file ∷ files) all = rw (none_some file.digest (All-head (λ (file : FileName). file.digest ≡ None) file files all)) (and_no (not (suc (length files) == 0)))

all_digests : (files : List FileName) → All (λ file. IsDigest file.digest) files → list_all (λ file. is_some file.digest) files ≡ true
all_digests [] all = refl
all_digests (file ∷ files) all =
    rw (there_some file.digest (All-head (λ (file : FileName). IsDigest file.digest) file files all)) (all_digests files (All-tail (λ (file : FileName). IsDigest file.digest) file files all))

some_files : (n : ℕ) → (suc n == 0) ≡ false
some_files n = ne_eqb (suc n) 0 (λ e. omega (arith, e))

both_true : (a b : Bool) → a ≡ false → b ≡ true → (not a && b) ≡ true
both_true false true e f = refl
both_true true b e f = absurd cc
both_true false false e f = absurd cc

pub digests_told : (files : List FileName) → HaveDigests 5 files → All (λ file. HasDigest (have_digests files) file.digest) files
digests_told files (none_has all) = subst (λ (has : Bool). All (λ (file : FileName). HasDigest has file.digest) files) (sym (no_digests files all)) all
digests_told [] (each_has since all) = All-nil (λ (file : FileName). HasDigest false file.digest)
digests_told (file ∷ files) (each_has since all) =
    subst (λ (has : Bool). All (λ (file : FileName). HasDigest has file.digest) (file ∷ files))
    (sym (both_true (suc (length files) == 0) (list_all (λ file. is_some file.digest) (file ∷ files)) (some_files (length files)) (all_digests (file ∷ files) all))) all
