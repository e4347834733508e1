-- What is spelled as the section of frames is read.
use Rattle.std.proofs.Common.{◌≡◌, ◌⊎◌, ℕ, suc, ◌+◌, ◌-◌, ◌<◌, ◌≤◌, ◌==◌, ◌&&◌, ◌||◌, not, Bool, true, false, List, [], ◌∷◌, ◌++◌, length, filter, filter_map, Option, Some, None, Result, Ok, All, if◌then◌else◌, inl, inr, refl, sym, ap, ap₂, subst, ◌∙◌, append_assoc, length-append, arith}
use Rattle.std.specs.List.{cons_option, find, flat_map}
use Rattle.std.specs.Option.{option_map}
use Rattle.std.specs.Prelude.{is_none, nat_le, nat_lt}
use Rattle.std.proofs.lemmas.Bool.{eqb-true, le-ltb, leb-false, lt-leb, ne_eqb}
use Rattle.std.proofs.lemmas.List.Elements.{All-cons, All-filter, All-head, All-nil, All-tail}
use Rattle.std.proofs.lemmas.Option.{same_Some}
use Rattle.byteorder.specs.Endian.{little_bytes}
use Rattle.ds_base.specs.declared.fault.Fault.{Fault}
use Rattle.ds_base.specs.DwarfNumbers.{DW_CIE_ID}
use Rattle.ds_base.specs.Reading.{◌>>=◌}
use Rattle.ds_base.specs.Spot.{Spot, after}
use Rattle.dwarf_types.specs.declared.address.Addr.{Addr}
use Rattle.dwarf_types.specs.declared.address.Addr.TheVariants as addrs
use Rattle.dwarf_types.specs.declared.frames.RawFrame.{RawFrame}
use Rattle.macho_read.specs.declared.image.Image.{Image}
use Rattle.reloc_table.specs.declared.relocation.Reloc.{Reloc}
use Rattle.reloc_table.specs.declared.relocation.Relocs.{Relocs}
use Rattle.reloc_table.specs.Address.{address_of, relocated}
use Rattle.frame_table.specs.Description.{Said, description_at, values_at}
use Rattle.frame_table.specs.Entry.{behind_id}
use Rattle.frame_table.specs.Frames.{frame_from, frame_of, frames_listed, frames_of, in_turn, tried}
use Rattle.frame_table.specs.Naming.{all_named, cie_at, if_cie, lacks_cie, refuse_any}
use Rattle.line_laws.proofs.Items.{At, at_same, bytes_again, number_again, passed}
use Rattle.frame_laws.specs.Spelling.{Entry, IsNamed, IsSpelled, SpellsFrames, cie, cie_content, common, entry_bytes, fde, frame_told}
use Rattle.frame_laws.proofs.Rows.{Row, at_content, content_again, entries_again, entry_size, row, rows}

-- ---- a CIE by its place

-- it stands in front of the end of all, and its row is found
record Cie (section : List ℕ) (from : ℕ) (entries : List Entry) (place : ℕ) (content : List ℕ) : Type 0 where
  from_there : from ≤ place
  found : cie_at (rows from entries) place ≡ Some (row place (cie content))
  front : List ℕ
  more : List ℕ
  whole : section ≡ front ++ (entry_bytes (cie content) ++ more)
  there : length front ≡ place
  spelled : IsSpelled (cie content)

is_common : (e : Entry) (content : List ℕ) → common e ≡ Some content → e ≡ cie content
is_common (cie c) content e = ap cie (same_Some c content e)
is_common (fde pointer address range code) content e = absurd cc

cie_row : (section : List ℕ) (from : ℕ) (front : List ℕ) (entries : List Entry) (place : ℕ) (content : List ℕ) → All IsSpelled entries → section ≡ front ++ flat_map entry_bytes entries → length front ≡ from → cie_content from entries place ≡ Some content
    → Cie section from entries place content
cie_row section from front [] place content all whole there e = absurd cc
cie_row section from front (x ∷ entries) place content all whole there e = by (λ e. cie_row section (from + length (entry_bytes x)) (front ++ entry_bytes x) entries place content (All-tail IsSpelled x entries all) (whole ∙ sym (append_assoc front (entry_bytes x) (flat_map entry_bytes entries))) (omega (arith, length-append front (entry_bytes x), there)) e) (from == place) refl e
  where
    by : (cie_content (from + length (entry_bytes x)) entries place ≡ Some content → Cie section (from + length (entry_bytes x)) entries place content)
        → (b : Bool) → (from == place) ≡ b → (if b then common x else cie_content (from + length (entry_bytes x)) entries place) ≡ Some content → Cie section from (x ∷ entries) place content
    by more true at e =
        let here = eqb-true from place at in
        let is = is_common x content e in
        let spelled = subst IsSpelled is (All-head IsSpelled x entries all) in
        record {
          from_there = omega (arith, here);
          found = ap (λ (b : Bool). if_cie (if b then Some (row from x) else find (λ r. r.place == place) (rows (from + length (entry_bytes x)) entries))) at ∙ ap₂ (λ (p : ℕ) (y : Entry). if_cie (Some (row p y))) here is;
          front = front;
          more = flat_map entry_bytes entries;
          whole = whole ∙ ap (λ (y : Entry). front ++ (entry_bytes y ++ flat_map entry_bytes entries)) is;
          there = there ∙ here;
          spelled = spelled;
        }
    by more false at e =
        let r = more e in
        record {
          from_there = let later = r.from_there in omega (arith, later);
          found = ap (λ (b : Bool). if_cie (if b then Some (row from x) else find (λ r. r.place == place) (rows (from + length (entry_bytes x)) entries))) at ∙ r.found;
          front = r.front;
          more = r.more;
          whole = r.whole;
          there = r.there;
          spelled = r.spelled;
        }

-- a CIE begins behind where the first one does
not_before : (place : ℕ) (content : List ℕ) (from : ℕ) (entries : List Entry) → cie_content from entries place ≡ Some content → from ≤ place
not_before place content from [] e = absurd cc
not_before place content from (x ∷ entries) e = by (not_before place content (from + length (entry_bytes x)) entries) (from == place) refl e
  where
    by : (cie_content (from + length (entry_bytes x)) entries place ≡ Some content → from + length (entry_bytes x) ≤ place) → (b : Bool) → (from == place) ≡ b
        → (if b then common x else cie_content (from + length (entry_bytes x)) entries place) ≡ Some content → from ≤ place
    by later true at e = omega (arith, eqb-true from place at)
    by later false at e = let le = later e in omega (arith, le)

-- it begins where an entry begins or before, or where it ends or behind
apart : (from : ℕ) (before : List Entry) (e : Entry) (later : List Entry) (place : ℕ) (content : List ℕ) → cie_content from (before ++ e ∷ later) place ≡ Some content
    → (place ≤ from + length (flat_map entry_bytes before)) ⊎ (from + length (flat_map entry_bytes before) + length (entry_bytes e) ≤ place)
apart from [] e later place content is = by (from == place) refl is
  where
    by : (b : Bool) → (from == place) ≡ b → (if b then common e else cie_content (from + length (entry_bytes e)) later place) ≡ Some content → (place ≤ from + 0) ⊎ (from + 0 + length (entry_bytes e) ≤ place)
    by true at is = inl (omega (arith, eqb-true from place at))
    by false at is = let le = not_before place content (from + length (entry_bytes e)) later is in inr (omega (arith, le))
apart from (b ∷ before) e later place content is = by (apart (from + length (entry_bytes b)) before e later place content) (from == place) refl is
  where
    sum : length (entry_bytes b ++ flat_map entry_bytes before) ≡ length (entry_bytes b) + length (flat_map entry_bytes before)
    sum = length-append (entry_bytes b) (flat_map entry_bytes before)

    by : (cie_content (from + length (entry_bytes b)) (before ++ e ∷ later) place ≡ Some content → (place ≤ from + length (entry_bytes b) + length (flat_map entry_bytes before)) ⊎ (from + length (entry_bytes b) + length (flat_map entry_bytes before) + length (entry_bytes e) ≤ place)) → (first : Bool) → (from == place) ≡ first
        → (if first then common b else cie_content (from + length (entry_bytes b)) (before ++ e ∷ later) place) ≡ Some content
        → (place ≤ from + length (entry_bytes b ++ flat_map entry_bytes before)) ⊎ (from + length (entry_bytes b ++ flat_map entry_bytes before) + length (entry_bytes e) ≤ place)
    by more true at is = inl (omega (arith, eqb-true from place at))
    by more false at is =
        elim (more is) [
          | inl le ↦ inl (omega (arith, le, sum))
          | inr le ↦ inr (omega (arith, le, sum))
        ]

-- ---- tests

find_none : {X : Type 0} (p : X → Bool) (xs : List X) → All (λ x. p x ≡ false) xs → find p xs ≡ None
find_none p [] all = refl
find_none {X} p (x ∷ xs) all =
    let P : X → Type 0 = λ y. p y ≡ false in
    ap (λ (b : Bool). if b then Some x else find p xs) (All-head P x xs all) ∙ find_none p xs (All-tail P x xs all)

-- those up to a bound have the row of each place up to it
within : (bound place : ℕ) (xs : List Row) → place ≤ bound → find (λ r. r.place == place) (filter (λ r. nat_le r.place bound) xs) ≡ find (λ r. r.place == place) xs
within bound place [] le = refl
within bound place (x ∷ xs) le = by (nat_le x.place bound) refl (within bound place xs le)
  where
    by : (b : Bool) → nat_le x.place bound ≡ b → find (λ r. r.place == place) (filter (λ r. nat_le r.place bound) xs) ≡ find (λ r. r.place == place) xs
        → find (λ r. r.place == place) (if b then x ∷ filter (λ r. nat_le r.place bound) xs else filter (λ r. nat_le r.place bound) xs) ≡ (if x.place == place then Some x else find (λ r. r.place == place) xs)
    by true e rest = ap (λ (o : Option Row). if x.place == place then Some x else o) rest
    by false e rest =
        let past = leb-false x.place bound e in
        rest ∙ ap (λ (b : Bool). if b then Some x else find (λ r. r.place == place) xs) (sym (ne_eqb x.place place (λ same. absurd (omega (arith, same, past, le)))))

plain_address : (image : Image) (relocs : Relocs) (place n : ℕ) → relocs.list ≡ [] → address_of image relocs place n ≡ addrs.Fixed n
unfolding address_of
plain_address image relocs place n none = ap (λ (list : List Reloc). relocated image (find (λ r. r.place == place) list) n) none

-- ---- an FDE

module _ (section : List ℕ) (place pointer address range : ℕ) (code front more : List ℕ) (is : IsSpelled (fde pointer address range code)) (whole : section ≡ front ++ (entry_bytes (fde pointer address range code) ++ more)) (there : length front ≡ place) where
  abbrev this : Entry
  this = fde pointer address range code

  abbrev first : Spot
  first = behind_id section (row place (fde pointer address range code))

  at_first : At first (little_bytes 8 address ++ (little_bytes 8 range ++ code))
  at_first = at_content section place this front more is whole there

  at_range : At (after first 8) (little_bytes 8 range ++ code)
  at_range = passed first (little_bytes 8 address) (little_bytes 8 range ++ code) at_first

  at_code : At (after (after first 8) 8) code
  at_code = passed (after first 8) (little_bytes 8 range) code at_range

  abbrev said : List ℕ → Said
  said xs = record { location = address; length = range; code = xs }

  described : description_at section (row place this) ≡ Ok (said code)
  unfolding description_at
  described =
      let one = number_again 8 address first (little_bytes 8 range ++ code) (omega (arith, is.3)) at_first in
      let two = number_again 8 range (after first 8) code (omega (arith, is.4)) at_range in
      let last = after (after first 8) 8 in
      let none : code ++ [] ≡ code = append_nil code in
      let three = bytes_again last code [] (at_same last code (code ++ []) (sym none) at_code) in
      let count : last.end - last.place ≡ length code = let ends = at_code in omega (arith, ends.end_is) in
      rw (one, two, count, three) refl
    where
      append_nil : (xs : List ℕ) → xs ++ [] ≡ xs
      append_nil [] = refl
      append_nil (x ∷ xs) = ap (λ (ys : List ℕ). x ∷ ys) (append_nil xs)

-- ---- the section

module _ (image : Image) (relocs : Relocs) (none : relocs.list ≡ []) (section : List ℕ) (all : List Entry) (whole : section ≡ flat_map entry_bytes all) (each : All IsSpelled all) (named : All (IsNamed all) all) where
  abbrev everything : List Row
  everything = rows 0 all

  at_place : (place : ℕ) (content : List ℕ) → cie_content 0 all place ≡ Some content → Cie section 0 all place content
  at_place place content e = cie_row section 0 [] all place content each whole refl e

  inside : (place : ℕ) (content : List ℕ) → Cie section 0 all place content → place < length section
  inside place content c =
      let size = entry_size (cie content) in
      omega (arith, ap length c.whole, length-append c.front (entry_bytes (cie content) ++ c.more), length-append (entry_bytes (cie content)) c.more, c.there, size)

  -- an FDE up to an entry has the CIE that is due at its end
  module _ (before : List Entry) (x : Entry) (later : List Entry) (is_all : all ≡ before ++ x ∷ later) where
    abbrev here : ℕ
    here = length (flat_map entry_bytes before)

    abbrev so_far : List Row
    so_far = filter (λ r. nat_le r.place here) everything

    lacks_none : (q : ℕ) (e : Entry) → IsSpelled e → IsNamed all e → lacks_cie (length section) (here + length (entry_bytes x)) so_far (row q e) ≡ false
    lacks_none q (cie content) is there = refl
    lacks_none q (fde pointer address range code) is there =
        let c = at_place pointer there.0 there.1 in
        let within_all = inside pointer there.0 c in
        let past : nat_le (length section) pointer ≡ false = lt-leb (length section) pointer within_all in
        by there.0 c.found (apart 0 before x later pointer there.0 (subst (λ (xs : List Entry). cie_content 0 xs pointer ≡ Some there.0) is_all there.1)) past
      where
        by : (content : List ℕ) → cie_at everything pointer ≡ Some (row pointer (cie content)) → (pointer ≤ 0 + here) ⊎ (0 + here + length (entry_bytes x) ≤ pointer) → nat_le (length section) pointer ≡ false
            → (not (pointer == DW_CIE_ID) && ((nat_lt pointer (here + length (entry_bytes x)) || nat_le (length section) pointer) && is_none (cie_at so_far pointer))) ≡ false
        by content found (inl le) past =
            let kept : cie_at so_far pointer ≡ cie_at everything pointer = ap if_cie (within here pointer everything (omega (arith, le))) in
            ap (λ (o : Option Row). not (pointer == DW_CIE_ID) && ((nat_lt pointer (here + length (entry_bytes x)) || nat_le (length section) pointer) && is_none o)) (kept ∙ found)
            ∙ ends (not (pointer == DW_CIE_ID)) (nat_lt pointer (here + length (entry_bytes x)) || nat_le (length section) pointer)
          where
            ends : (a b : Bool) → (a && (b && false)) ≡ false
            ends true true = refl
            ends true false = refl
            ends false b = refl
        by content found (inr le) past =
            let not_due : nat_lt pointer (here + length (entry_bytes x)) ≡ false = le-ltb pointer (here + length (entry_bytes x)) (omega (arith, le)) in
            ap₂ (λ (a b : Bool). not (pointer == DW_CIE_ID) && ((a || b) && is_none (cie_at so_far pointer))) not_due past ∙ ends (not (pointer == DW_CIE_ID))
          where
            ends : (a : Bool) → (a && false) ≡ false
            ends true = refl
            ends false = refl

    each_row : (from : ℕ) (es : List Entry) → All IsSpelled es → All (IsNamed all) es → All (λ r. lacks_cie (length section) (here + length (entry_bytes x)) so_far r ≡ false) (rows from es)
    each_row from [] spelled there = All-nil (λ (r : Row). lacks_cie (length section) (here + length (entry_bytes x)) so_far r ≡ false)
    each_row from (e ∷ es) spelled there =
        All-cons (λ (r : Row). lacks_cie (length section) (here + length (entry_bytes x)) so_far r ≡ false) (row from e) (rows (from + length (entry_bytes e)) es) (lacks_none from e (All-head IsSpelled e es spelled) (All-head (IsNamed all) e es there))
        (each_row (from + length (entry_bytes e)) es (All-tail IsSpelled e es spelled) (All-tail (IsNamed all) e es there))

    all_have : all_named (length section) (here + length (entry_bytes x)) so_far ≡ Ok tt
    all_have =
        ap refuse_any (find_none (lacks_cie (length section) (here + length (entry_bytes x)) so_far) so_far
        (All-filter (λ (r : Row). nat_le r.place here) (λ (r : Row). lacks_cie (length section) (here + length (entry_bytes x)) so_far r ≡ false) everything (each_row 0 all each named)))

    abbrev more : List ℕ
    more = flat_map entry_bytes later

    cut : section ≡ flat_map entry_bytes before ++ (entry_bytes x ++ more)
    cut = whole ∙ ap (flat_map entry_bytes) is_all ∙ joins before
      where
        joins : (xs : List Entry) → flat_map entry_bytes (xs ++ x ∷ later) ≡ flat_map entry_bytes xs ++ (entry_bytes x ++ flat_map entry_bytes later)
        joins [] = refl
        joins (y ∷ xs) = ap (λ (b : List ℕ). entry_bytes y ++ b) (joins xs) ∙ sym (append_assoc (entry_bytes y) (flat_map entry_bytes xs) (entry_bytes x ++ flat_map entry_bytes later))

  values_read : (before : List Entry) (x : Entry) (later : List Entry) → all ≡ before ++ x ∷ later → IsSpelled x → values_at section (row (length (flat_map entry_bytes before)) x) ≡ Ok tt
  values_read before (cie content) later is_all is = refl
  values_read before (fde pointer address range code) later is_all is =
      ap₂ (λ (b : Bool) (r : Result Said Fault). if b then Ok tt else (r >>= λ said. Ok tt)) is.2
      (described section (length (flat_map entry_bytes before)) pointer address range code (flat_map entry_bytes before) (flat_map entry_bytes later) is (cut before (fde pointer address range code) later is_all) refl)

  in_front : (before : List Entry) (x : Entry) (later : List Entry) → before ++ x ∷ later ≡ (before ++ x ∷ []) ++ later
  in_front before x later = sym (append_assoc before (x ∷ []) later)

  size_front : (before : List Entry) (x : Entry) → length (flat_map entry_bytes before) + length (entry_bytes x) ≡ length (flat_map entry_bytes (before ++ x ∷ []))
  size_front [] x = let e = length-append (entry_bytes x) [] in omega (arith, e)
  size_front (b ∷ before) x = omega (arith, length-append (entry_bytes b) (flat_map entry_bytes before), length-append (entry_bytes b) (flat_map entry_bytes (before ++ x ∷ [])), size_front before x)

  tried_all : (before later : List Entry) → all ≡ before ++ later → All IsSpelled later → in_turn (tried section everything) (rows (length (flat_map entry_bytes before)) later) ≡ Ok tt
  tried_all before [] is_all spelled = refl
  tried_all before (x ∷ later) is_all spelled =
      let one : tried section everything (row (length (flat_map entry_bytes before)) x) ≡ Ok tt =
      ap₂ (λ (a b : Result (Unit {0}) Fault). a >>= λ _. b) (all_have before x later is_all) (values_read before x later is_all (All-head IsSpelled x later spelled)) in
      let next = tried_all (before ++ x ∷ []) later (is_all ∙ in_front before x later) (All-tail IsSpelled x later spelled) in
      ap₂ (λ (a : Result (Unit {0}) Fault) (n : ℕ). a >>= λ _. in_turn (tried section everything) (rows n later)) one (size_front before x) ∙ next

  abbrev frame_by : ℕ → Entry → Option RawFrame
  frame_by place e = frame_of image relocs section everything (row place e)

  frame_is : (before : List Entry) (x : Entry) (later : List Entry) → all ≡ before ++ x ∷ later → IsSpelled x → IsNamed all x → frame_by (length (flat_map entry_bytes before)) x ≡ frame_told all x
  frame_is before (cie content) later is_all is there = refl
  frame_is before (fde pointer address range code) later is_all is there =
      let c = at_place pointer there.0 there.1 in
      let said = described section (length (flat_map entry_bytes before)) pointer address range code (flat_map entry_bytes before) (flat_map entry_bytes later) is (cut before (fde pointer address range code) later is_all) refl in
      let content = content_again section pointer (cie there.0) c.front c.more c.spelled c.whole c.there in
      ap (λ (b : Bool). if b then None else frame_from image relocs section (row (length (flat_map entry_bytes before)) (fde pointer address range code)) (cie_at everything pointer) (description_at section (row (length (flat_map entry_bytes before)) (fde pointer address range code)))) is.2
      ∙ ap₂ (frame_from image relocs section (row (length (flat_map entry_bytes before)) (fde pointer address range code))) c.found said
      ∙ ap₂ (λ (xs : List ℕ) (at : Addr). Some (raw xs at)) content (plain_address image relocs (length (flat_map entry_bytes before) + 8) address none)
      ∙ ap (option_map (λ xs. raw xs (addrs.Fixed address))) (sym there.1)
    where
      raw : List ℕ → Addr → RawFrame
      raw xs at = record { cie = xs; at = at; length = range; code = code }

  frames_are : (before later : List Entry) → all ≡ before ++ later → All IsSpelled later → All (IsNamed all) later
      → filter_map (frame_of image relocs section everything) (rows (length (flat_map entry_bytes before)) later) ≡ filter_map (frame_told all) later
  frames_are before [] is_all spelled there = refl
  frames_are before (x ∷ later) is_all spelled there =
      let next = frames_are (before ++ x ∷ []) later (is_all ∙ in_front before x later) (All-tail IsSpelled x later spelled) (All-tail (IsNamed all) x later there) in
      let one = frame_is before x later is_all (All-head IsSpelled x later spelled) (All-head (IsNamed all) x later there) in
      ap₂ (λ (o : Option RawFrame) (n : ℕ). cons_option o (filter_map (frame_of image relocs section everything) (rows n later))) one (size_front before x)
      ∙ ap (cons_option (frame_told all x)) next

  pub all_read : frames_of image relocs section ≡ Ok (filter_map (frame_told all) all)
  unfolding frames_of
  all_read =
      ap (frames_listed image relocs section) (entries_again section (suc (length section)) 0 [] all each whole refl (omega arith))
      ∙ ap (λ (r : Result (Unit {0}) Fault). r >>= λ _. Ok (filter_map (frame_of image relocs section everything) everything)) (tried_all [] all refl each)
      ∙ ap (λ (fs : List RawFrame). Ok fs) (frames_are [] all refl each named)

pub spelled_read : (image : Image) (relocs : Relocs) (bytes : List ℕ) (frames : List RawFrame) → relocs.list ≡ [] → SpellsFrames bytes frames → frames_of image relocs bytes ≡ Ok frames
spelled_read image relocs bytes frames none s = all_read image relocs none bytes s.entries s.whole s.each s.named ∙ ap (λ (fs : List RawFrame). Ok fs) (sym s.told)
