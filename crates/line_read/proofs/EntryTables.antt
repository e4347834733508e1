-- What the tables of directories and files of version 5 give from bytes: names without a zero byte, numbers of 64 bits, and digests of 16 bytes in all files or in none.
use Rattle.std.proofs.Common.{◌≡◌, ℕ, zero, suc, ◌+◌, ◌^◌, ◌<◌, ◌∙◌, ◌||◌, ◌&&◌, not, Bool, true, false, List, [], ◌∷◌, ◌++◌, length, take, drop, nat_lt, Option, Some, None, IfSome, Result, Ok, refl, subst, arith}
use Rattle.std.specs.Prelude.{◌==◌, is_some}
use Rattle.std.specs.List.{All, list_any}
use Rattle.std.specs.Option.{option_map, unwrap_or}
use Rattle.std.proofs.lemmas.List.Elements.{All-append, All-cons, All-nil}
use Rattle.ds_base.specs.declared.fault.Fault.{Fault}
use Rattle.ds_base.specs.declared.fault.Kind.TheVariants as kinds
use Rattle.ds_base.specs.Spot.{Spot, fault_at}
use Rattle.ds_base.specs.Reading.{◌>>=◌, refuse_if, or_fault, index_below, bytes_at, number_at, placed_text_at, uleb_at, items_at, text_of}
use Rattle.ds_base.proofs.Passing.{bind_ok, found_ok, ok_is, passed}
use Rattle.dwarf_types.specs.declared.lines.FileName.{FileName}
use Rattle.dwarf_types.specs.SectionBytes.{SectionBytes}
use Rattle.dwarf_types.specs.Spelled.{AreBytes, AreTextBytes}
use Rattle.dwarf_types.specs.WellLines.{IsDigest}
use Rattle.dwarf_types.proofs.Readers.{IsBytes-drop, IsBytes-from, Stands, bytes_reader, number_reader, text_reader, uleb_reader, zero_at}
use Rattle.line_read.specs.declared.entries.EntryFormat.{EntryFormat}
use Rattle.line_read.specs.declared.formats.EntryForm.{EntryForm}
use Rattle.line_read.specs.declared.formats.EntryForm.TheVariants as forms
use Rattle.line_read.specs.declared.formats.EntryItem.{EntryItem}
use Rattle.line_read.specs.declared.formats.EntryItem.TheVariants as items
use Rattle.line_read.specs.declared.formats.NumberForm.{NumberForm}
use Rattle.line_read.specs.declared.formats.NumberForm.TheVariants as numbers
use Rattle.line_read.specs.declared.formats.TextForm.{TextForm}
use Rattle.line_read.specs.declared.formats.TextForm.TheVariants as texts
use Rattle.line_read.specs.declared.names.HeaderEnd.{HeaderEnd}
use Rattle.line_read.specs.Entries.{EntryParts, block_at, dir_entry_at, dropped, entries_of, file_entry_at, first, form_number_at, form_text_at, format_at, item_at, no_parts, pair_at, parts_at, passed_at}
use Rattle.line_read.specs.Formats.{is_path, item_of}
use Rattle.line_read.specs.Names.{within}

-- an item that does not pass the header's end is the item
pub within_ok : {A : Type 0} (header : HeaderEnd) (item : Result (A × Spot) Fault) (y : A × Spot) → within header item ≡ Ok y → item ≡ Ok y
within_ok {A = A} header item y e =
    let x = bind_ok item (λ (x : A × Spot). refuse_if (nat_lt header.place x.1.place) header.passed >>= λ u. Ok x) y e in
    let p = passed (nat_lt header.place x.0.1.place) header.passed (Ok x.0) y x.2 in
    x.1 ∙ p.1

-- what is read, and that bytes are left
abbrev pub Gives : {A : Type 0} → (A → Type 0) → (Spot → Result (A × Spot) Fault) → Type 0
Gives {A = A} P read = (s : Spot) (y : A × Spot) → Stands s → read s ≡ Ok y → P y.0 × Stands y.1

abbrev Anything : {A : Type 0} → A → Type 0
Anything x = Unit {0}

within_gives : {A : Type 0} (P : A → Type 0) (header : HeaderEnd) (read : Spot → Result (A × Spot) Fault) → Gives P read → Gives P (λ s. within header (read s))
within_gives P header read known s y h e = known s y h (within_ok header (read s) y e)

-- ---- plain items

abbrev Fits : ℕ → Type 0
Fits n = n < 2 ^ 64

abbrev IsLong : ℕ → List ℕ → Type 0
IsLong n bytes = (length bytes ≡ n) × AreBytes bytes

small_gives : (n : ℕ) → 256 ^ n < 2 ^ 64 + 1 → Gives Fits (number_at n)
small_gives n few s y h e = let t = (number_reader n).takes s y.0 y.1 h e in (omega (arith, t.spells.fits, few), t.stands)

uleb_gives : Gives Fits uleb_at
uleb_gives s y h e = let t = uleb_reader.takes s y.0 y.1 h e in (t.spells.fits, t.stands)

bytes_give : (n : ℕ) → Gives (IsLong n) (bytes_at n)
bytes_give n s y h e = let t = (bytes_reader n).takes s y.0 y.1 h e in ((t.spells.len, t.spells.sound), t.stands)

-- what is so of each item is so of all
items_give : {A : Type 0} (P : A → Type 0) (read : Spot → Result (A × Spot) Fault) → Gives P read → (n : ℕ) (before : List A) (s : Spot) (y : List A × Spot) → Stands s → All P before → items_at read n before s ≡ Ok y → All P y.0 × Stands y.1
items_give {A = A} P read known zero before s y h all e = subst (λ (x : List A × Spot). All P x.0 × Stands x.1) (ok_is (before, s) y e) (all, h)
items_give {A = A} P read known (suc n) before s y h all e =
    let item = bind_ok (read s) (λ (item : A × Spot). items_at read n (before ++ item.0 ∷ []) item.1) y e in
    let is = known s item.0 h item.1 in
    items_give P read known n (before ++ item.0.0 ∷ []) item.0.1 y is.1 (All-append P before (item.0.0 ∷ []) all (All-cons P item.0.0 [] is.0 (All-nil P))) item.2

-- ---- the format

pair_gives : (header : HeaderEnd) → Gives Anything (pair_at header)
unfolding pair_at
pair_gives header s y h e =
    let content = bind_ok (within header (uleb_at s)) _ y e in
    let form = bind_ok (within header (uleb_at content.0.1)) _ y content.2 in
    let item = bind_ok (or_fault (item_of content.0.0 form.0.0) header.bad_format) _ y form.2 in
    let left = (uleb_gives s content.0 h (within_ok header (uleb_at s) content.0 content.1)).1 in
    subst (λ (x : EntryItem × Spot). Unit {0} × Stands x.1) (ok_is (item.0, form.0.1) y item.2) (tt, (uleb_gives content.0.1 form.0 left (within_ok header (uleb_at content.0.1) form.0 form.1)).1)

format_gives : (header : HeaderEnd) → Gives Anything (format_at header)
unfolding format_at
format_gives header s y h e =
    let pairs = bind_ok (within header (number_at 1 s)) _ y e in
    let format = bind_ok (items_at (pair_at header) pairs.0.0 [] pairs.0.1) _ y pairs.2 in
    let count = bind_ok (within header (uleb_at format.0.1)) _ y format.2 in
    let paths = passed (not (count.0.0 == 0) && not (list_any is_path format.0.0)) header.bad_format _ y count.2 in
    let h1 = (small_gives 1 (omega arith) s pairs.0 h (within_ok header (number_at 1 s) pairs.0 pairs.1)).1 in
    let h2 = items_give Anything (pair_at header) (pair_gives header) pairs.0.0 [] pairs.0.1 format.0 h1 (All-nil Anything) format.1 in
    let h3 = (uleb_gives format.0.1 count.0 h2.1 (within_ok header (uleb_at format.0.1) count.0 count.1)).1 in
    subst (λ (x : EntryFormat × Spot). Unit {0} × Stands x.1) (ok_is _ y paths.1) (tt, h3)

-- ---- values

-- the sections of texts are bytes
pub record AreTexts (sections : SectionBytes) : Type 0 where
  pub strings : AreBytes sections.strings
  pub line_str : AreBytes sections.line_str

told : (o : Option ℕ) (tail text : List ℕ) → option_map (λ n. take n tail) o ≡ Some text → (n : ℕ) × (o ≡ Some n) × (take n tail ≡ text)
told None tail text e = absurd cc
told (Some n) tail text e = (n, refl, cc)

text_found : (section : List ℕ) (place : ℕ) (text : List ℕ) → AreBytes section → text_of section place ≡ Some text → AreTextBytes text
unfolding text_of
text_found section place text are e =
    let found = told (index_below 1 (drop place section)) (drop place section) text e in
    subst AreTextBytes found.2 ((zero_at (drop place section) found.0 found.1).text (IsBytes-drop place section (IsBytes-from section are)))

placed_gives : (section : List ℕ) → AreBytes section → Gives AreTextBytes (placed_text_at section)
unfolding placed_text_at
placed_gives section are s y h e =
    let place = bind_ok (number_at 4 s) _ y e in
    let text = bind_ok (or_fault (text_of section place.0.0) (fault_at s kinds.BadOffset)) _ y place.2 in
    let is = text_found section place.0.0 text.0 are (found_ok (text_of section place.0.0) (fault_at s kinds.BadOffset) text.0 text.1) in
    subst (λ (x : List ℕ × Spot). AreTextBytes x.0 × Stands x.1) (ok_is (text.0, place.0.1) y text.2) (is, (small_gives 4 (omega arith) s place.0 h place.1).1)

number_gives : (form : NumberForm) → Gives Fits (form_number_at form)
unfolding form_number_at
number_gives numbers.One s y h e = small_gives 1 (omega arith) s y h e
number_gives numbers.Two s y h e = small_gives 2 (omega arith) s y h e
number_gives numbers.Four s y h e = small_gives 4 (omega arith) s y h e
number_gives numbers.Eight s y h e = small_gives 8 (omega arith) s y h e
number_gives numbers.Leb s y h e = uleb_gives s y h e

module _ (header : HeaderEnd) (sections : SectionBytes) (are : AreTexts sections) where
  text_gives : (form : TextForm) → Gives AreTextBytes (form_text_at sections form)
  unfolding form_text_at
  text_gives texts.Inline s y h e = let t = text_reader.takes s y.0 y.1 h e in (t.spells.sound, t.stands)
  text_gives texts.Str s y h e = placed_gives sections.strings are.strings s y h e
  text_gives texts.LineStr s y h e = placed_gives sections.line_str are.line_str s y h e

  block_gives : Gives Anything (block_at header)
  unfolding block_at
  block_gives s y h e =
      let len = bind_ok (within header (uleb_at s)) _ y e in
      let bytes = bind_ok (within header (bytes_at len.0.0 len.0.1)) _ y len.2 in
      let left = (uleb_gives s len.0 h (within_ok header (uleb_at s) len.0 len.1)).1 in
      subst (λ (x : Unit {0} × Spot). Unit {0} × Stands x.1) (ok_is (tt, bytes.0.1) y bytes.2) (tt, (bytes_give len.0.0 len.0.1 bytes.0 left (within_ok header (bytes_at len.0.0 len.0.1) bytes.0 bytes.1)).1)

  dropped_gives : {A : Type 0} (P : A → Type 0) (read : Spot → Result (A × Spot) Fault) → Gives P read → Gives Anything (λ s. dropped (read s))
  dropped_gives {A = A} P read known s y h e =
      let x = bind_ok (read s) (λ (x : A × Spot). Ok (tt, x.1)) y e in
      subst (λ (z : Unit {0} × Spot). Unit {0} × Stands z.1) (ok_is (tt, x.0.1) y x.2) (tt, (known s x.0 h x.1).1)

  passed_gives : (form : EntryForm) → Gives Anything (passed_at header sections form)
  unfolding passed_at
  passed_gives (forms.Text form) = dropped_gives AreTextBytes _ (within_gives AreTextBytes header (form_text_at sections form) (text_gives form))
  passed_gives (forms.Number form) = dropped_gives Fits _ (within_gives Fits header (form_number_at form) (number_gives form))
  passed_gives forms.Wide = dropped_gives (IsLong 16) _ (within_gives (IsLong 16) header (bytes_at 16) (bytes_give 16))
  passed_gives forms.Block = block_gives

-- ---- entries

-- what of an entry was read so far
pub record AreParts (parts : EntryParts) : Type 0 where
  pub path : IfSome parts.path AreTextBytes
  pub dir : IfSome parts.dir Fits
  pub time : IfSome parts.time Fits
  pub size : IfSome parts.size Fits
  pub digest : IfSome parts.digest (IsLong 16)

abbrev is_digest : EntryItem → Bool
is_digest items.Digest = true
is_digest item = false

-- with an item of a format more
record WithItem (item : EntryItem) (old : EntryParts) (y : EntryParts × Spot) : Type 0 where
  parts : AreParts y.0
  left : Stands y.1
  digest : is_some y.0.digest ≡ (is_digest item || is_some old.digest)

first_is : {A : Type 0} (P : A → Type 0) (o : Option A) (x : A) → IfSome o P → P x → P (first o x)
first_is P None x known is = is
first_is P (Some y) x known is = known

-- a value that makes an entry's parts
abbrev makes : {A : Type 0} → (A → EntryParts) → Result (A × Spot) Fault → Result (EntryParts × Spot) Fault
makes made read = read >>= λ x. Ok (made x.0, x.1)

module _ {A : Type 0} (P : A → Type 0) (read : Spot → Result (A × Spot) Fault) (known : Gives P read) (item : EntryItem) (old : EntryParts) (made : A → EntryParts) where
  item_with : ((x : A) → P x → AreParts (made x)) → ((x : A) → is_some (made x).digest ≡ (is_digest item || is_some old.digest)) → (s : Spot) (y : EntryParts × Spot) → Stands s → makes made (read s) ≡ Ok y → WithItem item old y
  item_with parts digest s y h e =
      let x = bind_ok (read s) (λ (x : A × Spot). Ok (made x.0, x.1)) y e in
      let is = known s x.0 h x.1 in
      subst (WithItem item old) (ok_is (made x.0.0, x.0.1) y x.2) (record { parts = parts x.0.0 is.0; left = is.1; digest = digest x.0.0 })

module _ (header : HeaderEnd) (sections : SectionBytes) (are : AreTexts sections) where
  number_within : (form : NumberForm) → Gives Fits (λ s. within header (form_number_at form s))
  number_within form = within_gives Fits header (form_number_at form) (number_gives form)

  item_gives : (item : EntryItem) (parts : EntryParts) (s : Spot) (y : EntryParts × Spot) → AreParts parts → Stands s → item_at header sections item parts s ≡ Ok y → WithItem item parts y
  unfolding item_at
  item_gives (items.Path form) parts s y p h e =
      item_with AreTextBytes _ (within_gives AreTextBytes header (form_text_at sections form) (text_gives header sections are form)) (items.Path form) parts (λ text. record parts { path = Some (first parts.path text) })
      (λ text is. record { path = first_is AreTextBytes parts.path text p.path is; dir = p.dir; time = p.time; size = p.size; digest = p.digest }) (λ text. refl) s y h e
  item_gives (items.Directory form) parts s y p h e =
      item_with Fits _ (number_within form) (items.Directory form) parts (λ n. record parts { dir = Some (first parts.dir n) })
      (λ n is. record { path = p.path; dir = first_is Fits parts.dir n p.dir is; time = p.time; size = p.size; digest = p.digest }) (λ n. refl) s y h e
  item_gives (items.Timestamp form) parts s y p h e =
      item_with Fits _ (number_within form) (items.Timestamp form) parts (λ n. record parts { time = Some (first parts.time n) })
      (λ n is. record { path = p.path; dir = p.dir; time = first_is Fits parts.time n p.time is; size = p.size; digest = p.digest }) (λ n. refl) s y h e
  item_gives items.TimestampBlock parts s y p h e =
      item_with Anything (block_at header) (block_gives header sections are) items.TimestampBlock parts (λ (u : Unit {0}). record parts { time = Some (first parts.time 0) })
      (λ u is. record { path = p.path; dir = p.dir; time = first_is Fits parts.time 0 p.time (omega arith); size = p.size; digest = p.digest }) (λ u. refl) s y h e
  item_gives (items.Size form) parts s y p h e =
      item_with Fits _ (number_within form) (items.Size form) parts (λ n. record parts { size = Some (first parts.size n) })
      (λ n is. record { path = p.path; dir = p.dir; time = p.time; size = first_is Fits parts.size n p.size is; digest = p.digest }) (λ n. refl) s y h e
  item_gives items.Digest parts s y p h e =
      item_with (IsLong 16) _ (within_gives (IsLong 16) header (bytes_at 16) (bytes_give 16)) items.Digest parts (λ bytes. record parts { digest = Some (first parts.digest bytes) })
      (λ bytes is. record { path = p.path; dir = p.dir; time = p.time; size = p.size; digest = first_is (IsLong 16) parts.digest bytes p.digest is }) (λ bytes. refl) s y h e
  item_gives (items.Other form) parts s y p h e =
      item_with Anything (passed_at header sections form) (passed_gives header sections are form) (items.Other form) parts (λ (u : Unit {0}). parts) (λ u is. p) (λ u. refl) s y h e

  -- one of each pair
  record WithAll (format : List EntryItem) (old : EntryParts) (y : EntryParts × Spot) : Type 0 where
    parts : AreParts y.0
    left : Stands y.1
    digest : is_some y.0.digest ≡ (list_any is_digest format || is_some old.digest)

  all_give : (format : List EntryItem) (parts : EntryParts) (s : Spot) (y : EntryParts × Spot) → AreParts parts → Stands s → parts_at header sections format parts s ≡ Ok y → WithAll format parts y
  all_give [] parts s y p h e = subst (WithAll [] parts) (ok_is (parts, s) y e) (record { parts = p; left = h; digest = refl })
  all_give (item ∷ more) parts s y p h e =
      let here = bind_ok (item_at header sections item parts s) _ y e in
      let is = item_gives item parts s here.0 p h here.1 in
      let behind = all_give more here.0.0 here.0.1 y is.parts is.left here.2 in
      record { parts = behind.parts; left = behind.left; digest = behind.digest ∙ either_way (list_any is_digest more) (is_digest item) (is_some parts.digest) (is_some here.0.0.digest) is.digest }
    where
      either_way : (more here before now : Bool) → now ≡ (here || before) → (more || now) ≡ ((here || more) || before)
      either_way true true before now e = refl
      either_way true false before now e = refl
      either_way false true before now e = e
      either_way false false before now e = e

  no_parts_are : AreParts no_parts
  no_parts_are = record { path = tt; dir = tt; time = tt; size = tt; digest = tt }

  dir_gives : (format : List EntryItem) → Gives AreTextBytes (dir_entry_at header sections format)
  unfolding dir_entry_at
  dir_gives format s y h e =
      let parts = bind_ok (parts_at header sections format no_parts s) _ y e in
      let path = bind_ok (or_fault parts.0.0.path header.bad_format) _ y parts.2 in
      let all = all_give format no_parts s parts.0 no_parts_are h parts.1 in
      let p = all.parts in
      let is : AreTextBytes path.0 = subst (λ (o : Option (List ℕ)). IfSome o AreTextBytes) (found_ok parts.0.0.path header.bad_format path.0 path.1) p.path in
      subst (λ (x : List ℕ × Spot). AreTextBytes x.0 × Stands x.1) (ok_is (path.0, parts.0.1) y path.2) (is, all.left)

-- a digest is there, or it is not
abbrev pub HasDigest : Bool → Option (List ℕ) → Type 0
HasDigest true digest = IsDigest digest
HasDigest false digest = digest ≡ None

-- a file, in a table whose files have digests or do not
pub record IsEntry (has : Bool) (file : FileName) : Type 0 where
  pub name : AreTextBytes file.name
  pub dir : file.dir < 2 ^ 64
  pub time : file.time < 2 ^ 64
  pub size : file.size < 2 ^ 64
  pub digest : HasDigest has file.digest

digest_by : (has : Bool) (digest : Option (List ℕ)) → is_some digest ≡ has → IfSome digest (IsLong 16) → HasDigest has digest
digest_by true None is known = absurd cc
digest_by true (Some bytes) is known = known
digest_by false None is known = refl
digest_by false (Some bytes) is known = absurd cc

number_by : (o : Option ℕ) → IfSome o Fits → unwrap_or o 0 < 2 ^ 64
number_by None h = omega arith
number_by (Some n) h = h

or_nothing : (b : Bool) → (b || false) ≡ b
or_nothing true = refl
or_nothing false = refl

module _ (header : HeaderEnd) (sections : SectionBytes) (are : AreTexts sections) where
  file_gives : (format : List EntryItem) → Gives (IsEntry (list_any is_digest format)) (file_entry_at header sections format)
  unfolding file_entry_at
  file_gives format s y h e =
      let has : Bool = list_any is_digest format in
      let parts = bind_ok (parts_at header sections format no_parts s) _ y e in
      let path = bind_ok (or_fault parts.0.0.path header.bad_format) _ y parts.2 in
      let all = all_give header sections are format no_parts s parts.0 (no_parts_are header sections are) h parts.1 in
      let p = all.parts in
      let is : AreTextBytes path.0 = subst (λ (o : Option (List ℕ)). IfSome o AreTextBytes) (found_ok parts.0.0.path header.bad_format path.0 path.1) p.path in
      subst (λ (x : FileName × Spot). IsEntry has x.0 × Stands x.1) (ok_is _ y path.2) (
        record {
          name = is;
          dir = number_by parts.0.0.dir p.dir;
          time = number_by parts.0.0.time p.time;
          size = number_by parts.0.0.size p.size;
          digest = digest_by has parts.0.0.digest (all.digest ∙ or_nothing has) p.digest;
        },
        all.left,
      )

  -- ---- the tables

  pub dirs_give : (s : Spot) (y : List (List ℕ) × Spot) → Stands s → entries_of (dir_entry_at header sections) header s ≡ Ok y → All AreTextBytes y.0 × Stands y.1
  dirs_give s y h e =
      let format = bind_ok (format_at header s) (λ format. items_at (dir_entry_at header sections format.0.items) format.0.count [] format.1) y e in
      items_give AreTextBytes (dir_entry_at header sections format.0.0.items) (dir_gives header sections are format.0.0.items) format.0.0.count [] format.0.1 y (format_gives header s format.0 h format.1).1 (All-nil AreTextBytes) format.2

  -- all files have a digest, or none has
  pub files_give : (s : Spot) (y : List FileName × Spot) → Stands s → entries_of (file_entry_at header sections) header s ≡ Ok y → (has : Bool) × All (IsEntry has) y.0 × Stands y.1
  files_give s y h e =
      let format = bind_ok (format_at header s) (λ format. items_at (file_entry_at header sections format.0.items) format.0.count [] format.1) y e in
      let has : Bool = list_any is_digest format.0.0.items in
      let all = items_give (IsEntry has) (file_entry_at header sections format.0.0.items) (file_gives format.0.0.items) format.0.0.count [] format.0.1 y (format_gives header s format.0 h format.1).1 (All-nil (IsEntry has)) format.2 in
      (has, all.0, all.1)
