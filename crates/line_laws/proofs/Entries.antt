-- The directories and the files of a written table of version 5 are read again.
use Rattle.std.proofs.Common.{◌≡◌, ℕ, suc, ◌+◌, ◌<◌, ◌≤◌, ◌^◌, ◌&&◌, not, Bool, true, false, List, [], ◌∷◌, ◌++◌, length, map, take, drop, Some, None, Result, Ok, refl, sym, ap, subst, ◌∙◌, append_assoc, append-nil, arith, length-append}
use Rattle.std.specs.Prelude.{◌==◌}
use Rattle.std.specs.List.{All, flat_map, list_any}
use Rattle.std.specs.Option.{option_map}
use Rattle.std.proofs.lemmas.Bool.{le-ltb}
use Rattle.std.proofs.lemmas.List.{drop_at, take_at}
use Rattle.std.proofs.lemmas.List.Elements.{All-head, All-tail}
use Rattle.byteorder.specs.Endian.{little_bytes}
use Rattle.ds_base.specs.DwarfNumbers.{DW_FORM_data16, DW_FORM_line_strp, DW_FORM_udata, DW_LNCT_MD5, DW_LNCT_directory_index, DW_LNCT_path, DW_LNCT_size, DW_LNCT_timestamp}
use Rattle.ds_base.specs.declared.fault.Fault.{Fault}
use Rattle.ds_base.specs.Leb.{uleb}
use Rattle.ds_base.specs.Reading.{◌>>=◌, index_below, items_at, bytes_at, placed_text_at, uleb_at, text_of}
use Rattle.ds_base.specs.Spot.{Spot, after}
use Rattle.dwarf_types.specs.LineTable.{directory_entry, format}
use Rattle.dwarf_types.specs.SectionBytes.{SectionBytes}
use Rattle.dwarf_types.specs.Spelled.{AreTextBytes}
use Rattle.dwarf_types.proofs.Readers.{zero_behind}
use Rattle.line_read.specs.Entries.{dir_entry_at, file_entry_at, first, form_number_at, form_text_at, format_at, item_at, no_parts, pair_at}
use Rattle.line_read.specs.Formats.{content_of, form_of, is_path, item_of}
use Rattle.line_read.specs.Names.{within}
use Rattle.line_read.specs.Program.{header_end}
use Rattle.line_laws.specs.Again.{StandsAt}
use Rattle.line_laws.proofs.Items.{At, at_same, passed, byte_again, bytes_again, number_again, uleb_again}

abbrev TypeOf : {A : Type 0} → A → Type 0
TypeOf {A = A} x = A

abbrev First : {A B : Type 0} → (A → B) → Type 0
First {A = A} f = A

-- a content of entries in its form, and what of an entry was read
abbrev pub Item : Type 0
Item = First is_path

abbrev Parts : Type 0
Parts = TypeOf no_parts

pub some_is : {A : Type 0} (x y : A) → Some x ≡ Some y → x ≡ y
some_is x y e = cc

-- ---- so many items

module _ {X : Type 0} {A : Type 0} (read : Spot → Result (A × Spot) Fault) (bytes_of : X → List ℕ) (value : X → A) (Sound : X → Type 0) (limit : ℕ)
    (one : (x : X) (s : Spot) (more : List ℕ) → Sound x → At s (bytes_of x ++ more) → s.place + length (bytes_of x) ≤ limit → read s ≡ Ok (value x, after s (length (bytes_of x)))) where
  pub items_again : (xs : List X) (before : List A) (s : Spot) (more : List ℕ) → All Sound xs → At s (flat_map bytes_of xs ++ more) → s.place + length (flat_map bytes_of xs) ≤ limit
      → items_at read (length xs) before s ≡ Ok (before ++ map value xs, after s (length (flat_map bytes_of xs)))
  items_again [] before s more sound h fits =
      let here : s.place ≡ s.place + 0 = omega arith in
      ap (λ (xs : List A). Ok (xs, s)) (sym (append-nil before)) ∙ ap (λ (p : ℕ). Ok (before ++ [], record s { place = p })) here
  items_again (x ∷ xs) before s more sound h fits =
      let bytes = bytes_of x in
      let others = flat_map bytes_of xs in
      let len = length-append bytes others in
      let here : At s (bytes ++ (others ++ more)) = at_same s _ _ (append_assoc bytes others more) h in
      let read_x = one x s (others ++ more) (All-head Sound x xs sound) here (omega (arith, fits, len)) in
      let rest = items_again xs (before ++ value x ∷ []) (after s (length bytes)) more (All-tail Sound x xs sound) (passed s bytes (others ++ more) here) (omega (arith, fits, len)) in
      let place : s.place + length bytes + length others ≡ s.place + length (bytes ++ others) = omega (arith, len) in
      rw read_x rest ∙ ap (λ (ys : List A). Ok (ys, after (after s (length bytes)) (length others))) (append_assoc before (value x ∷ []) (map value xs))
      ∙ ap (λ (p : ℕ). Ok (before ++ map value (x ∷ xs), record s { place = p })) place

-- ---- formats

-- a content, a form, and what they are together
abbrev pub Pair : Type 0
Pair = ℕ × ℕ × Item

pub record IsPair (p : Pair) : Type 0 where
  pub content : p.0 < 2 ^ 64
  pub form : p.1 < 2 ^ 64
  pub is : item_of p.0 p.1 ≡ Some p.2

abbrev pub pair_bytes : Pair → List ℕ
pair_bytes p = format p.0 p.1

abbrev pub pair_item : Pair → Item
pair_item p = p.2

pair_again : (first program : Spot) (p : Pair) (s : Spot) (more : List ℕ) → IsPair p → At s (pair_bytes p ++ more) → s.place + length (pair_bytes p) ≤ program.place
    → pair_at (header_end first program) s ≡ Ok (pair_item p, after s (length (pair_bytes p)))
unfolding pair_at
pair_again first program p s more sound h fits =
    let a = uleb p.0 in
    let b = uleb p.1 in
    let h0 : At s (a ++ (b ++ more)) = at_same s _ _ (append_assoc a b more) h in
    let h1 = passed s a (b ++ more) h0 in
    let len = length-append a b in
    let place : s.place + length a + length b ≡ s.place + length (a ++ b) = omega (arith, len) in
    rw (
      uleb_again p.0 s (b ++ more) sound.content h0,
      le-ltb program.place (s.place + length a) (omega (arith, fits, len)),
      uleb_again p.1 (after s (length a)) more sound.form h1,
      le-ltb program.place (s.place + length a + length b) (omega (arith, fits, len)),
      sound.is,
      place,
    ) refl

has_path : (some any : Bool) → any ≡ true → (some && not any) ≡ false
has_path true any is = rw is refl
has_path false any is = refl

-- how many pairs, the pairs, and how many entries
abbrev pub format_bytes : List Pair → ℕ → List ℕ
format_bytes pairs count = length pairs ∷ (flat_map pair_bytes pairs ++ uleb count)

pub format_again : (first program : Spot) (pairs : List Pair) (count : ℕ) (s : Spot) (more : List ℕ) → All IsPair pairs → list_any is_path (map pair_item pairs) ≡ true → count < 2 ^ 64 → At s (format_bytes pairs count ++ more)
    → s.place + length (format_bytes pairs count) ≤ program.place → format_at (header_end first program) s ≡ Ok (record { items = map pair_item pairs; count = count }, after s (length (format_bytes pairs count)))
unfolding format_at
format_again first program pairs count s more sound path few h fits =
    let a = flat_map pair_bytes pairs in
    let b = uleb count in
    let h0 : At s (length pairs ∷ (a ++ (b ++ more))) = at_same s _ _ (ap (λ (xs : List ℕ). length pairs ∷ xs) (append_assoc a b more)) h in
    let h1 = passed s (length pairs ∷ []) (a ++ (b ++ more)) h0 in
    let h2 = passed (after s 1) a (b ++ more) h1 in
    let len = length-append a b in
    let place : s.place + 1 + length a + length b ≡ s.place + suc (length (a ++ b)) = omega (arith, len) in
    rw (
      byte_again (length pairs) s (a ++ (b ++ more)) h0,
      le-ltb program.place (s.place + 1) (omega (arith, fits)),
      items_again (pair_at (header_end first program)) pair_bytes pair_item IsPair program.place (pair_again first program) pairs [] (after s 1) (b ++ more) sound h1 (omega (arith, fits, len)),
      uleb_again count (after (after s 1) (length a)) more few h2,
      le-ltb program.place (s.place + 1 + length a + length b) (omega (arith, fits, len)),
      has_path (not (count == 0)) (list_any is_path (map pair_item pairs)) path,
      place,
    ) refl

-- ---- texts

pub text_there : (section text : List ℕ) (place : ℕ) → AreTextBytes text → StandsAt section text place → text_of section place ≡ Some text
unfolding text_of
text_there section text place sound stands =
    let tail : drop place section ≡ text ++ (0 ∷ stands.more) =
    ap (λ (n : ℕ). drop n section) stands.there ∙ ap (drop (length stands.front)) stands.is ∙ drop_at stands.front _ (length stands.front) refl ∙ append_assoc text (0 ∷ []) stands.more in
    ap (λ (xs : List ℕ). option_map (λ n. take n xs) (index_below 1 xs)) tail
    ∙ ap (option_map (λ n. take n (text ++ (0 ∷ stands.more)))) (zero_behind text stands.more sound) ∙ ap (λ (xs : List ℕ). Some xs) (take_at text (0 ∷ stands.more) (length text) refl)

placed_again : (section text : List ℕ) (place : ℕ) (s : Spot) (more : List ℕ) → AreTextBytes text → StandsAt section text place → At s (little_bytes 4 place ++ more) → placed_text_at section s ≡ Ok (text, after s 4)
unfolding placed_text_at
placed_again section text place s more sound stands h =
    let fits = stands.fits in
    rw (number_again 4 place s more (omega (arith, fits)) h, text_there section text place sound stands) refl

-- ---- what each content gives

module _ (first_spot program : Spot) (sections : SectionBytes) where
  abbrev read_item : Item → Parts → Spot → Result (Parts × Spot) Fault
  read_item i parts s = item_at (header_end first_spot program) sections i parts s

  abbrev inside : {A : Type 0} → Result (A × Spot) Fault → Result (A × Spot) Fault
  inside item = within (header_end first_spot program) item

  path_gives : (i : Item) (parts : Parts) (s : Spot) → item_of DW_LNCT_path DW_FORM_line_strp ≡ Some i → read_item i parts s ≡ (inside (placed_text_at sections.line_str s) >>= λ text. Ok (record parts { path = Some (first parts.path text.0) }, text.1))
  unfolding form_of content_of item_at form_text_at
  path_gives i parts s e = subst (λ (j : Item). read_item j parts s ≡ (inside (placed_text_at sections.line_str s) >>= λ text. Ok (record parts { path = Some (first parts.path text.0) }, text.1))) (some_is _ i e) refl

  dir_gives : (i : Item) (parts : Parts) (s : Spot) → item_of DW_LNCT_directory_index DW_FORM_udata ≡ Some i → read_item i parts s ≡ (inside (uleb_at s) >>= λ n. Ok (record parts { dir = Some (first parts.dir n.0) }, n.1))
  unfolding form_of content_of item_at form_number_at
  dir_gives i parts s e = subst (λ (j : Item). read_item j parts s ≡ (inside (uleb_at s) >>= λ n. Ok (record parts { dir = Some (first parts.dir n.0) }, n.1))) (some_is _ i e) refl

  time_gives : (i : Item) (parts : Parts) (s : Spot) → item_of DW_LNCT_timestamp DW_FORM_udata ≡ Some i → read_item i parts s ≡ (inside (uleb_at s) >>= λ n. Ok (record parts { time = Some (first parts.time n.0) }, n.1))
  unfolding form_of content_of item_at form_number_at
  time_gives i parts s e = subst (λ (j : Item). read_item j parts s ≡ (inside (uleb_at s) >>= λ n. Ok (record parts { time = Some (first parts.time n.0) }, n.1))) (some_is _ i e) refl

  size_gives : (i : Item) (parts : Parts) (s : Spot) → item_of DW_LNCT_size DW_FORM_udata ≡ Some i → read_item i parts s ≡ (inside (uleb_at s) >>= λ n. Ok (record parts { size = Some (first parts.size n.0) }, n.1))
  unfolding form_of content_of item_at form_number_at
  size_gives i parts s e = subst (λ (j : Item). read_item j parts s ≡ (inside (uleb_at s) >>= λ n. Ok (record parts { size = Some (first parts.size n.0) }, n.1))) (some_is _ i e) refl

  digest_gives : (i : Item) (parts : Parts) (s : Spot) → item_of DW_LNCT_MD5 DW_FORM_data16 ≡ Some i → read_item i parts s ≡ (inside (bytes_at 16 s) >>= λ bytes. Ok (record parts { digest = Some (first parts.digest bytes.0) }, bytes.1))
  unfolding form_of content_of item_at
  digest_gives i parts s e = subst (λ (j : Item). read_item j parts s ≡ (inside (bytes_at 16 s) >>= λ bytes. Ok (record parts { digest = Some (first parts.digest bytes.0) }, bytes.1))) (some_is _ i e) refl

  -- ---- directories

  -- a name at the place of its text
  pub record IsNamed (text : List ℕ → ℕ) (name : List ℕ) : Type 0 where
    pub sound : AreTextBytes name
    pub stands : StandsAt sections.line_str name (text name)

  pub dir_again : (text : List ℕ → ℕ) (i : Item) → item_of DW_LNCT_path DW_FORM_line_strp ≡ Some i → (dir : List ℕ) (s : Spot) (more : List ℕ) → IsNamed text dir → At s (directory_entry text dir ++ more)
      → s.place + length (directory_entry text dir) ≤ program.place → dir_entry_at (header_end first_spot program) sections (i ∷ []) s ≡ Ok (dir, after s (length (directory_entry text dir)))
  unfolding dir_entry_at
  dir_again text i known dir s more named h fits =
      rw (path_gives i no_parts s known, placed_again sections.line_str dir (text dir) s more named.sound named.stands h, le-ltb program.place (s.place + 4) (omega (arith, fits))) refl

  -- ---- files

  -- the items of the format of files
  pub record AreItems (path dir time size : Item) : Type 0 where
    pub path_is : item_of DW_LNCT_path DW_FORM_line_strp ≡ Some path
    pub dir_is : item_of DW_LNCT_directory_index DW_FORM_udata ≡ Some dir
    pub time_is : item_of DW_LNCT_timestamp DW_FORM_udata ≡ Some time
    pub size_is : item_of DW_LNCT_size DW_FORM_udata ≡ Some size

  module _ (text : List ℕ → ℕ) (path dir time size : Item) (known : AreItems path dir time size) where
    -- a file without a digest, in parts
    pub plain_in_parts : (name : List ℕ) (a b c : ℕ) (s : Spot) (more : List ℕ) → IsNamed text name → a < 2 ^ 64 → b < 2 ^ 64 → c < 2 ^ 64 → At s (little_bytes 4 (text name) ++ (uleb a ++ (uleb b ++ (uleb c ++ more))))
        → s.place + (4 + length (uleb a) + length (uleb b) + length (uleb c)) ≤ program.place
        → file_entry_at (header_end first_spot program) sections (path ∷ dir ∷ time ∷ size ∷ []) s ≡ Ok (record { name = name; dir = a; time = b; size = c; digest = None }, after s (4 + length (uleb a) + length (uleb b) + length (uleb c)))
    unfolding file_entry_at
    plain_in_parts name a b c s more named small_a small_b small_c h0 fits =
        let x = uleb a in
        let y = uleb b in
        let z = uleb c in
        let h1 = passed s (little_bytes 4 (text name)) (x ++ (y ++ (z ++ more))) h0 in
        let h2 = passed (after s 4) x (y ++ (z ++ more)) h1 in
        let h3 = passed (after (after s 4) (length x)) y (z ++ more) h2 in
        let s1 = after s 4 in
        let s2 = after s1 (length x) in
        let s3 = after s2 (length y) in
        let place : s.place + 4 + length x + length y + length z ≡ s.place + (4 + length x + length y + length z) = omega arith in
        rw (
          path_gives path no_parts s known.path_is,
          placed_again sections.line_str name (text name) s (x ++ (y ++ (z ++ more))) named.sound named.stands h0,
          le-ltb program.place (s.place + 4) (omega (arith, fits)),
          dir_gives dir _ s1 known.dir_is,
          uleb_again a s1 (y ++ (z ++ more)) small_a h1,
          le-ltb program.place (s.place + 4 + length x) (omega (arith, fits)),
          time_gives time _ s2 known.time_is,
          uleb_again b s2 (z ++ more) small_b h2,
          le-ltb program.place (s.place + 4 + length x + length y) (omega (arith, fits)),
          size_gives size _ s3 known.size_is,
          uleb_again c s3 more small_c h3,
          le-ltb program.place (s.place + 4 + length x + length y + length z) (omega (arith, fits)),
          place,
        ) refl

    -- one with a digest
    pub digest_in_parts : (md5 : Item) → item_of DW_LNCT_MD5 DW_FORM_data16 ≡ Some md5 → (name : List ℕ) (a b c : ℕ) (digest : List ℕ) (s : Spot) (more : List ℕ) → length digest ≡ 16 → IsNamed text name → a < 2 ^ 64 → b < 2 ^ 64 → c < 2 ^ 64
        → At s (little_bytes 4 (text name) ++ (uleb a ++ (uleb b ++ (uleb c ++ (digest ++ more))))) → s.place + (4 + length (uleb a) + length (uleb b) + length (uleb c) + 16) ≤ program.place
        → file_entry_at (header_end first_spot program) sections (path ∷ dir ∷ time ∷ size ∷ md5 ∷ []) s
        ≡ Ok (record { name = name; dir = a; time = b; size = c; digest = Some digest }, after s (4 + length (uleb a) + length (uleb b) + length (uleb c) + 16))
    unfolding file_entry_at
    digest_in_parts md5 md5_is name a b c digest s more long named small_a small_b small_c h0 fits =
        let x = uleb a in
        let y = uleb b in
        let z = uleb c in
        let h1 = passed s (little_bytes 4 (text name)) (x ++ (y ++ (z ++ (digest ++ more)))) h0 in
        let h2 = passed (after s 4) x (y ++ (z ++ (digest ++ more))) h1 in
        let h3 = passed (after (after s 4) (length x)) y (z ++ (digest ++ more)) h2 in
        let s1 = after s 4 in
        let s2 = after s1 (length x) in
        let s3 = after s2 (length y) in
        let s4 = after s3 (length z) in
        let h4 = passed s3 z (digest ++ more) h3 in
        let sixteen : bytes_at 16 s4 ≡ Ok (digest, after s4 16) = subst (λ (n : ℕ). bytes_at n s4 ≡ Ok (digest, after s4 n)) long (bytes_again s4 digest more h4) in
        let place : s.place + 4 + length x + length y + length z + 16 ≡ s.place + (4 + length x + length y + length z + 16) = omega arith in
        rw (
          path_gives path no_parts s known.path_is,
          placed_again sections.line_str name (text name) s (x ++ (y ++ (z ++ (digest ++ more)))) named.sound named.stands h0,
          le-ltb program.place (s.place + 4) (omega (arith, fits)),
          dir_gives dir _ s1 known.dir_is,
          uleb_again a s1 (y ++ (z ++ (digest ++ more))) small_a h1,
          le-ltb program.place (s.place + 4 + length x) (omega (arith, fits)),
          time_gives time _ s2 known.time_is,
          uleb_again b s2 (z ++ (digest ++ more)) small_b h2,
          le-ltb program.place (s.place + 4 + length x + length y) (omega (arith, fits)),
          size_gives size _ s3 known.size_is,
          uleb_again c s3 (digest ++ more) small_c h3,
          le-ltb program.place (s.place + 4 + length x + length y + length z) (omega (arith, fits)),
          digest_gives md5 _ s4 md5_is,
          sixteen,
          le-ltb program.place (s.place + 4 + length x + length y + length z + 16) (omega (arith, fits)),
          place,
        ) refl
