-- What is read as the section of frames is spelled so.
use Rattle.std.proofs.Common.{◌≡◌, ℕ, zero, suc, ◌+◌, ◌-◌, ◌<◌, ◌≤◌, ◌^◌, ◌==◌, ◌&&◌, ◌||◌, not, Bool, true, false, List, [], ◌∷◌, ◌++◌, length, drop, take, filter, filter_map, Option, Some, None, Result, Ok, Err, All, if◌then◌else◌, refl, sym, ap, ap₂, subst, ◌∙◌, append_assoc, length-append, arith}
use Rattle.std.specs.List.{AllByRecursion, find, flat_map}
use Rattle.std.specs.Prelude.{is_none, nat_le, nat_lt}
use Rattle.std.proofs.lemmas.Bool.{eqb-true, le-leb, leb-false, ltb-false, or_parts}
use Rattle.std.proofs.lemmas.List.{drop_all, drop-drop, length-drop, take-append-drop, take_all}
use Rattle.std.proofs.lemmas.List.Elements.{All-cons, All-head, All-nil, All-tail}
use Rattle.byteorder.specs.Endian.{little_bytes}
use Rattle.ds_base.specs.declared.fault.Fault.{Fault}
use Rattle.ds_base.specs.declared.fault.Kind.TheVariants.{Truncated}
use Rattle.ds_base.specs.DwarfNumbers.{DW_CIE_ID, LENGTH_RESERVED}
use Rattle.ds_base.specs.Reading.{◌>>=◌, bytes_at, number_at, unless_stopped}
use Rattle.ds_base.specs.Spot.{Spot, after, fault_at, rest}
use Rattle.ds_base.proofs.Passing.{bind_ok, guard_ok, ok_is, passed}
use Rattle.dwarf_types.specs.declared.frames.RawFrame.{RawFrame}
use Rattle.dwarf_types.proofs.Readers.{IsBytes, IsBytes-drop, IsBytes-from, IsBytes-take, Stands, bytes_reader, length_rest, number_reader}
use Rattle.dwarf_types.specs.Spelled.{AreBytes}
use Rattle.macho_read.specs.declared.image.Image.{Image}
use Rattle.reloc_table.specs.declared.relocation.Relocs.{Relocs}
use Rattle.frame_table.specs.Description.{Said, description_at, values_at}
use Rattle.frame_table.specs.Entry.{bad_frame, entry_at, frame_spot, is_cie}
use Rattle.frame_table.specs.Frames.{entries_from, entries_of, frames_of, in_turn, listed, tried, up_to}
use Rattle.frame_table.specs.Naming.{all_named, cie_at, if_cie, lacks_cie, refuse_any}
use Rattle.frame_laws.specs.Spelling.{Entry, IsNamed, IsSpelled, SpellsFrames, cie, cie_content, common, content_of, entry_bytes, fde, frame_told, id_of}
use Rattle.frame_laws.proofs.Framed.{all_read}
use Rattle.frame_laws.proofs.Rows.{Row, entry_size, row, rows}

-- ---- numbers

record Number (n : ℕ) (s : Spot) (v : ℕ) (t : Spot) : Type 0 where
  parts : rest s ≡ little_bytes n v ++ rest t
  fits : v < 256 ^ n
  ends : t ≡ after s n
  stands : Stands t

number_ends : (n : ℕ) (s : Spot) (v : ℕ) (t : Spot) → number_at n s ≡ Ok (v, t) → t ≡ after s n
unfolding number_at
number_ends n s v t e = let p = guard_ok (nat_lt (s.end - s.place) n) (fault_at s Truncated) _ (v, t) e in sym (ap (λ (x : ℕ × Spot). x.1) p.1)

number_taken : (n : ℕ) (s : Spot) (v : ℕ) (t : Spot) → Stands s → number_at n s ≡ Ok (v, t) → Number n s v t
number_taken n s v t h e =
    let f = (number_reader n).takes s v t h e in
    record { parts = f.parts ∙ ap (λ (xs : List ℕ). xs ++ rest t) f.spells.is; fits = f.spells.fits; ends = number_ends n s v t e; stands = f.stands }

number_room : (s : Spot) (v : ℕ) (t : Spot) → number_at 4 s ≡ Ok (v, t) → 4 ≤ s.end - s.place
unfolding number_at
number_room s v t e = let p = guard_ok (nat_lt (s.end - s.place) 4) (fault_at s Truncated) _ (v, t) e in ltb-false (s.end - s.place) 4 p.0

-- ---- entries

record Cut (bytes : List ℕ) (place : ℕ) (e : Row) : Type 0 where
  content : List ℕ
  is : e ≡ record { place = place; end = place + (8 + length content); id = e.id }
  parts : drop place bytes ≡ (little_bytes 4 (4 + length content) ++ (little_bytes 4 e.id ++ content)) ++ drop (place + (8 + length content)) bytes
  small : 4 + length content < LENGTH_RESERVED
  id_fits : e.id < 256 ^ 4
  within : place + (8 + length content) ≤ length bytes
  behind : rest (frame_spot bytes (place + 8) (place + (8 + length content))) ≡ content

module _ (bytes : List ℕ) (are : IsBytes bytes) where
  all_left : (place : ℕ) → rest (frame_spot bytes place (length bytes)) ≡ drop place bytes
  all_left place = take_all (length bytes - place) (drop place bytes) (omega (arith, length-drop place bytes))

  stands : (place end : ℕ) → place ≤ end → end ≤ length bytes → Stands (frame_spot bytes place end)
  stands place end before inside = record { place = record { before_end = before; in_bytes = inside }; bytes = IsBytes-take (end - place) (drop place bytes) (IsBytes-drop place bytes are) }

  halves : (place n : ℕ) → drop place bytes ≡ rest (frame_spot bytes place (place + n)) ++ drop (place + n) bytes
  halves place n =
      let count : n ≡ place + n - place = omega arith in
      sym (take-append-drop n (drop place bytes)) ∙ ap₂ (λ (k : ℕ) (xs : List ℕ). take k (drop place bytes) ++ xs) count (drop-drop n place bytes)

  module _ (place : ℕ) (e : Row) where
    from_len : (n : ℕ) → rest (frame_spot bytes place (length bytes)) ≡ little_bytes 4 n ++ rest (frame_spot bytes (place + 4) (length bytes)) → (nat_le LENGTH_RESERVED n || nat_lt (length bytes - (place + 4)) n) ≡ false → place + 4 ≤ length bytes
        → (id : ℕ) (t : Spot) → number_at 4 (frame_spot bytes (place + 4) (place + 4 + n)) ≡ Ok (id, t) → record { place = place; end = place + 4 + n; id = id } ≡ e → Cut bytes place e
    from_len n first passes four id t read is =
        let p = or_parts (nat_le LENGTH_RESERVED n) (nat_lt (length bytes - (place + 4)) n) passes in
        let below = leb-false LENGTH_RESERVED n p.0 in
        let inside = ltb-false (length bytes - (place + 4)) n p.1 in
        let id_spot = frame_spot bytes (place + 4) (place + 4 + n) in
        let one = stands (place + 4) (place + 4 + n) (omega arith) (omega (arith, inside, four)) in
        let two = number_taken 4 id_spot id t one read in
        let content : List ℕ = rest t in
        let count : n ≡ 4 + length (rest t) = omega (arith, length_rest id_spot one, ap length two.parts, length-append (little_bytes 4 id) (rest t)) in
        let ends : place + 4 + n ≡ place + (8 + length (rest t)) = omega (arith, count) in
        let same_id : id ≡ e.id = ap (λ (r : Row). r.id) is in
        let place_is : place + 4 + 4 ≡ place + 8 = omega arith in
        record {
          content = rest t;
          is = sym is ∙ ap₂ (λ (end k : ℕ). record { place = place; end = end; id = k }) ends same_id;
          parts = sym (all_left place) ∙ first ∙ ap (λ (xs : List ℕ). little_bytes 4 n ++ xs) (all_left (place + 4) ∙ halves (place + 4) n ∙ ap (λ (xs : List ℕ). xs ++ drop (place + 4 + n) bytes) two.parts)
              ∙ sym (append_assoc (little_bytes 4 n) (little_bytes 4 id ++ rest t) (drop (place + 4 + n) bytes))
              ∙ ap₂ (λ (k j : ℕ). (little_bytes 4 k ++ (little_bytes 4 j ++ rest t)) ++ drop (place + 4 + n) bytes) count same_id
              ∙ ap (λ (k : ℕ). (little_bytes 4 (4 + length (rest t)) ++ (little_bytes 4 e.id ++ rest t)) ++ drop k bytes) ends;
          small = omega (arith, count, below);
          id_fits = subst (λ (k : ℕ). k < 256 ^ 4) same_id two.fits;
          within = omega (arith, inside, four, ends);
          behind = ap₂ (λ (a b : ℕ). rest (frame_spot bytes a b)) (sym place_is) (sym ends) ∙ sym (ap rest two.ends);
        }

    entry_cut : place ≤ length bytes → entry_at bytes place ≡ Ok e → Cut bytes place e
    unfolding entry_at
    entry_cut le read =
        let first = frame_spot bytes place (length bytes) in
        let len = bind_ok (number_at 4 first) _ e read in
        let one = number_taken 4 first len.0.0 len.0.1 (stands place (length bytes) le (omega arith)) len.1 in
        let p = passed (nat_le LENGTH_RESERVED len.0.0 || nat_lt (len.0.1.end - len.0.1.place) len.0.0) (bad_frame place) _ e len.2 in
        let id = bind_ok (number_at 4 (frame_spot bytes len.0.1.place (len.0.1.place + len.0.0))) _ e p.1 in
        let four : place + 4 ≤ length bytes = omega (arith, le, number_room first len.0.0 len.0.1 len.1) in
        from_len len.0.0 (one.parts ∙ ap (λ (t : Spot). little_bytes 4 len.0.0 ++ rest t) one.ends)
        (subst (λ (t : Spot). (nat_le LENGTH_RESERVED len.0.0 || nat_lt (t.end - t.place) len.0.0) ≡ false) one.ends p.0) four id.0.0 id.0.1
        (subst (λ (t : Spot). number_at 4 (frame_spot bytes t.place (t.place + len.0.0)) ≡ Ok (id.0.0, id.0.1)) one.ends id.1)
        (ap (λ (t : Spot). record { place = place; end = t.place + len.0.0; id = id.0.0 }) (sym one.ends) ∙ ok_is _ e id.2)

  -- ---- what an entry is

  nil_of : (xs : List ℕ) → length xs ≡ 0 → xs ≡ []
  nil_of [] e = refl
  nil_of (x ∷ xs) e = absurd (omega (arith, e))

  append_nil : (xs : List ℕ) → xs ++ [] ≡ xs
  append_nil [] = refl
  append_nil (x ∷ xs) = ap (λ (ys : List ℕ). x ∷ ys) (append_nil xs)

  record Described (content : List ℕ) (said : Said) : Type 0 where
    is : content ≡ little_bytes 8 said.location ++ (little_bytes 8 said.length ++ said.code)
    location : said.location < 2 ^ 64
    range : said.length < 2 ^ 64

  described : (place id : ℕ) (content : List ℕ) (said : Said) → place + (8 + length content) ≤ length bytes → rest (frame_spot bytes (place + 8) (place + (8 + length content))) ≡ content
      → description_at bytes (record { place = place; end = place + (8 + length content); id = id }) ≡ Ok said → Described content said
  unfolding description_at
  described place id content said within behind e =
      let s = frame_spot bytes (place + 8) (place + (8 + length content)) in
      let location = bind_ok (number_at 8 s) _ said e in
      let range = bind_ok (number_at 8 location.0.1) _ said location.2 in
      let code = bind_ok (bytes_at (range.0.1.end - range.0.1.place) range.0.1) _ said range.2 in
      let one = number_taken 8 s location.0.0 location.0.1 (stands (place + 8) (place + (8 + length content)) (omega arith) within) location.1 in
      let two = number_taken 8 location.0.1 range.0.0 range.0.1 one.stands range.1 in
      let f = (bytes_reader (range.0.1.end - range.0.1.place)).takes range.0.1 code.0.0 code.0.1 two.stands code.1 in
      let none = nil_of (rest code.0.1) (omega (arith, length_rest range.0.1 two.stands, ap length f.parts, length-append f.bytes (rest code.0.1), ap length f.spells.is, f.spells.len)) in
      let whole : rest range.0.1 ≡ code.0.0 = f.parts ∙ ap₂ (λ (a b : List ℕ). a ++ b) f.spells.is none ∙ append_nil code.0.0 in
      let fits_one = one.fits in
      let fits_two = two.fits in
      subst (Described content) (ok_is (record { location = location.0.0; length = range.0.0; code = code.0.0 }) said code.2) (record {
        is = sym behind ∙ one.parts ∙ ap (λ (xs : List ℕ). little_bytes 8 location.0.0 ++ xs) (two.parts ∙ ap (λ (xs : List ℕ). little_bytes 8 range.0.0 ++ xs) whole);
        location = omega (arith, fits_one);
        range = omega (arith, fits_two);
      })

  record Stored (place : ℕ) (e : Row) : Type 0 where
    entry : Entry
    is : row place entry ≡ e
    spelled : IsSpelled entry
    parts : drop place bytes ≡ entry_bytes entry ++ drop (place + length (entry_bytes entry)) bytes
    within : place + length (entry_bytes entry) ≤ length bytes

  stored_as : (place : ℕ) (e : Row) (c : Cut bytes place e) (x : Entry) → content_of x ≡ c.content → id_of x ≡ e.id → IsSpelled x → Stored place e
  stored_as place e c x content id spelled =
      let size = entry_size x in
      let len = ap length content in
      let end : place + length (entry_bytes x) ≡ place + (8 + length c.content) = omega (arith, size, len) in
      record {
        entry = x;
        is = ap₂ (λ (n k : ℕ). record { place = place; end = n; id = k }) end id ∙ sym c.is;
        spelled = spelled;
        parts = c.parts ∙ ap₂ (λ (k : ℕ) (xs : List ℕ). (little_bytes 4 (4 + length xs) ++ (little_bytes 4 k ++ xs)) ++ drop (place + (8 + length c.content)) bytes) (sym id) (sym content) ∙ ap (λ (n : ℕ). entry_bytes x ++ drop n bytes) (sym end);
        within = omega (arith, end, c.within);
      }

  -- the values are there, whatever they are
  abbrev if_valued : Bool → Result Said Fault → Result (Unit {0}) Fault
  if_valued common r = if common then Ok tt else (r >>= λ said. Ok tt)

  stored : (place : ℕ) (e : Row) → Cut bytes place e → values_at bytes e ≡ Ok tt → Stored place e
  stored place e c values = by (is_cie e) refl values
    where
      by : (b : Bool) → is_cie e ≡ b → if_valued b (description_at bytes e) ≡ Ok tt → Stored place e
      by true common values = stored_as place e c (cie c.content) refl (sym (eqb-true e.id DW_CIE_ID common)) c.small
      by false other values =
          let said = bind_ok (description_at bytes e) _ tt values in
          let d = described place e.id c.content said.0 c.within c.behind (subst (λ (r : Row). description_at bytes r ≡ Ok said.0) c.is said.1) in
          let small = c.small in
          let size = ap length d.is in
          let fits = c.id_fits in
          stored_as place e c (fde e.id said.0.location said.0.length said.0.code) (sym d.is) refl (
            omega (arith, small, size, length-append (little_bytes 8 said.0.location) (little_bytes 8 said.0.length ++ said.0.code), length-append (little_bytes 8 said.0.length) said.0.code),
            omega (arith, fits),
            other,
            d.location,
            d.range,
          )

  -- ---- entries one after the other

  abbrev AreValued : List Row → Type 0
  AreValued = AllByRecursion (λ e. values_at bytes e ≡ Ok tt)

  record Told (place : ℕ) (all : List Row) : Type 0 where
    entries : List Entry
    are_rows : rows place entries ≡ all
    whole : drop place bytes ≡ flat_map entry_bytes entries
    spelled : All IsSpelled entries

  told : (left place : ℕ) → place ≤ length bytes → (entries_from left bytes place).stop ≡ None → AreValued (entries_from left bytes place).entries → Told place (entries_from left bytes place).entries
  told zero place le stop valued = absurd cc
  told (suc left) place le stop valued = by (told left) (place == length bytes) refl stop valued
    where
      by_read : ((end : ℕ) → end ≤ length bytes → (entries_from left bytes end).stop ≡ None → AreValued (entries_from left bytes end).entries → Told end (entries_from left bytes end).entries)
          → (r : Result Row Fault) → entry_at bytes place ≡ r → (listed r (λ end. entries_from left bytes end)).stop ≡ None → AreValued (listed r (λ end. entries_from left bytes end)).entries → Told place (listed r (λ end. entries_from left bytes end)).entries
      by_read again (Err f) read stop valued = absurd cc
      by_read again (Ok e) read stop valued =
          let s = stored place e (entry_cut place e le read) valued.0 in
          let end : place + length (entry_bytes s.entry) ≡ e.end = ap (λ (r : Row). r.end) s.is in
          let within = s.within in
          let t = again e.end (omega (arith, end, within)) stop valued.1 in
          record {
            entries = s.entry ∷ t.entries;
            are_rows = ap₂ (λ (r : Row) (n : ℕ). r ∷ rows n t.entries) s.is end ∙ ap (λ (rs : List Row). e ∷ rs) t.are_rows;
            whole = s.parts ∙ ap (λ (n : ℕ). entry_bytes s.entry ++ drop n bytes) end ∙ ap (λ (xs : List ℕ). entry_bytes s.entry ++ xs) t.whole;
            spelled = All-cons IsSpelled s.entry t.entries s.spelled t.spelled;
          }

      by : ((end : ℕ) → end ≤ length bytes → (entries_from left bytes end).stop ≡ None → AreValued (entries_from left bytes end).entries → Told end (entries_from left bytes end).entries)
          → (b : Bool) → (place == length bytes) ≡ b → (if b then record { entries = []; stop = None } else listed (entry_at bytes place) (λ end. entries_from left bytes end)).stop ≡ None
          → AreValued (if b then record { entries = []; stop = None } else listed (entry_at bytes place) (λ end. entries_from left bytes end)).entries
          → Told place (if b then record { entries = []; stop = None } else listed (entry_at bytes place) (λ end. entries_from left bytes end)).entries
      by again true is stop valued = record { entries = []; are_rows = refl; whole = drop_all place bytes (omega (arith, eqb-true place (length bytes) is)); spelled = All-nil IsSpelled }
      by again false is stop valued = by_read again (entry_at bytes place) refl stop valued

-- ---- which CIEs are there

find_none_back : {X : Type 0} (p : X → Bool) (xs : List X) → find p xs ≡ None → AllByRecursion (λ x. p x ≡ false) xs
find_none_back p [] e = tt
find_none_back {X} p (x ∷ xs) e = by (p x) refl e (find_none_back p xs)
  where
    by : (b : Bool) → p x ≡ b → (if b then Some x else find p xs) ≡ None → (find p xs ≡ None → AllByRecursion (λ y. p y ≡ false) xs) → (p x ≡ false) × AllByRecursion (λ y. p y ≡ false) xs
    by true is e rest = absurd cc
    by false is e rest = (is, rest e)

cie_back : (from : ℕ) (entries : List Entry) (place : ℕ) → All IsSpelled entries → is_none (cie_at (rows from entries) place) ≡ false → (content : List ℕ) × (cie_content from entries place ≡ Some content)
cie_back from [] place all e = absurd cc
cie_back from (x ∷ entries) place all e = by (from == place) e (cie_back (from + length (entry_bytes x)) entries place (All-tail IsSpelled x entries all)) (All-head IsSpelled x entries all)
  where
    here : (x : Entry) → IsSpelled x → is_none (if_cie (Some (row from x))) ≡ false → (content : List ℕ) × (common x ≡ Some content)
    here (cie content) is e = (content, refl)
    here (fde pointer address range code) is e = absurd (differ (sym (ap (λ (b : Bool). is_none (if b then Some (row from (fde pointer address range code)) else None)) is.2) ∙ e))
      where
        differ : true ≡ false → ⊥
        differ e = absurd cc

    by : (b : Bool) → is_none (if_cie (if b then Some (row from x) else find (λ r. r.place == place) (rows (from + length (entry_bytes x)) entries))) ≡ false
        → (is_none (cie_at (rows (from + length (entry_bytes x)) entries) place) ≡ false → (content : List ℕ) × (cie_content (from + length (entry_bytes x)) entries place ≡ Some content))
        → IsSpelled x → (content : List ℕ) × ((if b then common x else cie_content (from + length (entry_bytes x)) entries place) ≡ Some content)
    by true e rest is = here x is e
    by false e rest is = rest e

-- at the section's end each FDE has its CIE
no_lack : (size : ℕ) (all : List Row) (x : Entry) (from : ℕ) → IsSpelled x → lacks_cie size size all (row from x) ≡ false → (x ≡ x) → (pointer : ℕ) → id_of x ≡ pointer → is_cie (row from x) ≡ false → is_none (cie_at all pointer) ≡ false
no_lack size all x from is lack same pointer id other =
    by (nat_lt (id_of x) size) refl (sym (ap (λ (b : Bool). not b && ((nat_lt (id_of x) size || nat_le size (id_of x)) && is_none (cie_at all (id_of x)))) other) ∙ lack)
  where
    rest : (c : Bool) → (true && c) ≡ false → c ≡ false
    rest c e = e

    by : (b : Bool) → nat_lt (id_of x) size ≡ b → ((nat_lt (id_of x) size || nat_le size (id_of x)) && is_none (cie_at all (id_of x))) ≡ false → is_none (cie_at all pointer) ≡ false
    by true low e = ap (λ (n : ℕ). is_none (cie_at all n)) (sym id) ∙ sym (ap (λ (c : Bool). (c || nat_le size (id_of x)) && is_none (cie_at all (id_of x))) low) ∙ e
    by false low e =
        let high : nat_le size (id_of x) ≡ true = le-leb size (id_of x) (ltb-false (id_of x) size low) in
        ap (λ (n : ℕ). is_none (cie_at all n)) (sym id) ∙ sym (ap₂ (λ (c d : Bool). (c || d) && is_none (cie_at all (id_of x))) low high) ∙ e

all_named_back : (size : ℕ) (all : List Entry) (from : ℕ) (es : List Entry) → All IsSpelled all → All IsSpelled es → AllByRecursion (λ r. lacks_cie size size (rows 0 all) r ≡ false) (rows from es) → All (IsNamed all) es
all_named_back size all from [] spelled own lacks = All-nil (IsNamed all)
all_named_back size all from (x ∷ es) spelled own lacks =
    All-cons (IsNamed all) x es (one x (All-head IsSpelled x es own) lacks.0) (all_named_back size all (from + length (entry_bytes x)) es spelled (All-tail IsSpelled x es own) lacks.1)
  where
    one : (x : Entry) → IsSpelled x → lacks_cie size size (rows 0 all) (row from x) ≡ false → IsNamed all x
    one (cie content) is lack = tt
    one (fde pointer address range code) is lack = cie_back 0 all pointer spelled (no_lack size (rows 0 all) (fde pointer address range code) from is lack refl pointer refl is.2)

-- ---- the last entry

places_le : (from : ℕ) (before : List Entry) (x : Entry) → AllByRecursion (λ r. nat_le r.place (from + length (flat_map entry_bytes before)) ≡ true) (rows from (before ++ x ∷ []))
places_le from [] x = (le-leb from (from + 0) (omega arith), tt)
places_le from (b ∷ before) x =
    let sum = length-append (entry_bytes b) (flat_map entry_bytes before) in
    let same : from + length (entry_bytes b) + length (flat_map entry_bytes before) ≡ from + length (flat_map entry_bytes (b ∷ before)) = omega (arith, sum) in (
      le-leb from (from + length (flat_map entry_bytes (b ∷ before))) (omega arith),
      subst (λ (n : ℕ). AllByRecursion (λ r. nat_le r.place n ≡ true) (rows (from + length (entry_bytes b)) (before ++ x ∷ []))) same (places_le (from + length (entry_bytes b)) before x),
    )

keeps_all : {X : Type 0} (p : X → Bool) (xs : List X) → AllByRecursion (λ x. p x ≡ true) xs → filter p xs ≡ xs
keeps_all p [] all = refl
keeps_all {X} p (x ∷ xs) all = ap (λ (b : Bool). if b then x ∷ filter p xs else filter p xs) all.0 ∙ ap (λ (ys : List X). x ∷ ys) (keeps_all p xs all.1)

-- each of those that are tried in turn
each_tried : {A : Type 0} (try : A → Result (Unit {0}) Fault) (xs : List A) → in_turn try xs ≡ Ok tt → AllByRecursion (λ x. try x ≡ Ok tt) xs
each_tried try [] e = tt
each_tried try (x ∷ xs) e = by (try x) refl (each_tried try xs) e
  where
    by : (r : Result (Unit {0}) Fault) → try x ≡ r → (in_turn try xs ≡ Ok tt → AllByRecursion (λ x. try x ≡ Ok tt) xs) → (r >>= λ u. in_turn try xs) ≡ Ok tt → (try x ≡ Ok tt) × AllByRecursion (λ x. try x ≡ Ok tt) xs
    by r is rest e = let b = bind_ok r (λ u. in_turn try xs) tt e in (is ∙ b.1, rest b.2)

each_valued : (bytes : List ℕ) (all es : List Row) → AllByRecursion (λ e. tried bytes all e ≡ Ok tt) es → AllByRecursion (λ e. values_at bytes e ≡ Ok tt) es
each_valued bytes all [] t = tt
each_valued bytes all (e ∷ es) t = ((bind_ok (all_named (length bytes) e.end (up_to all e)) (λ u. values_at bytes e) tt t.0).2, each_valued bytes all es t.1)

-- what holds of the row of each entry holds of the last one's
last_row : (P : Row → Type 0) (from : ℕ) (before : List Entry) (y : Entry) → AllByRecursion P (rows from (before ++ y ∷ [])) → P (row (from + length (flat_map entry_bytes before)) y)
last_row P from [] y all = let here : from ≡ from + 0 = omega arith in subst (λ (n : ℕ). P (row n y)) here all.0
last_row P from (b ∷ before) y all =
    let sum = length-append (entry_bytes b) (flat_map entry_bytes before) in
    let same : from + length (entry_bytes b) + length (flat_map entry_bytes before) ≡ from + length (flat_map entry_bytes (b ∷ before)) = omega (arith, sum) in
    subst (λ (n : ℕ). P (row n y)) same (last_row P (from + length (entry_bytes b)) before y all.1)

split_last : (x : Entry) (xs : List Entry) → (before : List Entry) × (y : Entry) × (x ∷ xs ≡ before ++ y ∷ [])
split_last x [] = ([], x, refl)
split_last x (z ∷ xs) = let r = split_last z xs in (x ∷ r.0, r.1, ap (λ (es : List Entry). x ∷ es) r.2)

last_size : (before : List Entry) (y : Entry) → length (flat_map entry_bytes (before ++ y ∷ [])) ≡ length (flat_map entry_bytes before) + length (entry_bytes y)
last_size [] y = omega (arith, length-append (entry_bytes y) [])
last_size (b ∷ before) y = omega (arith, length-append (entry_bytes b) (flat_map entry_bytes (before ++ y ∷ [])), length-append (entry_bytes b) (flat_map entry_bytes before), last_size before y)

none_refused : (o : Option Row) → refuse_any o ≡ Ok tt → o ≡ None
none_refused None e = refl
none_refused (Some r) e = absurd cc

named_by : (bytes : List ℕ) (all : List Entry) → bytes ≡ flat_map entry_bytes all → All IsSpelled all → AllByRecursion (λ e. tried bytes (rows 0 all) e ≡ Ok tt) (rows 0 all) → All (IsNamed all) all
named_by bytes [] whole spelled t = All-nil (IsNamed [])
named_by bytes (x ∷ xs) whole spelled t =
    let s = split_last x xs in
    by (x ∷ xs) s.0 s.1 s.2 whole spelled t
  where
    by : (all before : List Entry) (y : Entry) → all ≡ before ++ y ∷ [] → bytes ≡ flat_map entry_bytes all → All IsSpelled all → AllByRecursion (λ e. tried bytes (rows 0 all) e ≡ Ok tt) (rows 0 all) → All (IsNamed all) all
    by all before y is whole spelled t =
        let place = 0 + length (flat_map entry_bytes before) in
        let one = last_row (λ r. tried bytes (rows 0 all) r ≡ Ok tt) 0 before y (subst (λ (es : List Entry). AllByRecursion (λ r. tried bytes (rows 0 all) r ≡ Ok tt) (rows 0 es)) is t) in
        let named = (bind_ok (all_named (length bytes) (place + length (entry_bytes y)) (up_to (rows 0 all) (row place y))) (λ u. values_at bytes (row place y)) tt one).1 in
        let end : place + length (entry_bytes y) ≡ length bytes = omega (arith, ap length whole, ap (λ (es : List Entry). length (flat_map entry_bytes es)) is, last_size before y) in
        let kept : up_to (rows 0 all) (row place y) ≡ rows 0 all = keeps_all (λ r. nat_le r.place place) (rows 0 all) (subst (λ (es : List Entry). AllByRecursion (λ r. nat_le r.place place ≡ true) (rows 0 es)) (sym is) (places_le 0 before y)) in
        let whole_named : all_named (length bytes) (length bytes) (rows 0 all) ≡ Ok tt = sym (ap₂ (all_named (length bytes)) end kept) ∙ named in
        all_named_back (length bytes) all 0 all spelled spelled (find_none_back (lacks_cie (length bytes) (length bytes) (rows 0 all)) (rows 0 all) (none_refused (find (lacks_cie (length bytes) (length bytes) (rows 0 all)) (rows 0 all)) whole_named))

-- ---- the section

not_stopped : (o : Option Fault) → unless_stopped o ≡ Ok tt → o ≡ None
not_stopped None e = refl
not_stopped (Some f) e = absurd cc

pub read_spelled : (image : Image) (relocs : Relocs) (bytes : List ℕ) (frames : List RawFrame) → relocs.list ≡ [] → AreBytes bytes → frames_of image relocs bytes ≡ Ok frames → SpellsFrames bytes frames
unfolding frames_of
read_spelled image relocs bytes frames none are e =
    let l = entries_of bytes in
    let b = bind_ok (in_turn (tried bytes l.entries) l.entries) _ frames e in
    let c = bind_ok (unless_stopped l.stop) _ frames b.2 in
    let t = each_tried (tried bytes l.entries) l.entries b.1 in
    let r = told bytes (IsBytes-from bytes are) (suc (length bytes)) 0 (omega arith) (not_stopped l.stop c.1) (each_valued bytes l.entries l.entries t) in
    let named = named_by bytes r.entries r.whole r.spelled (subst (λ (es : List Row). AllByRecursion (λ e. tried bytes es e ≡ Ok tt) es) (sym r.are_rows) t) in
    record {
      entries = r.entries;
      whole = r.whole;
      each = r.spelled;
      named = named;
      told = ok_is frames (filter_map (frame_told r.entries) r.entries) (sym e ∙ all_read image relocs none bytes r.entries r.whole r.spelled named);
    }
