-- Entries that are spelled are read at their places.
use Rattle.std.proofs.Common.{◌≡◌, ℕ, zero, suc, if◌then◌else◌, ◌+◌, ◌-◌, ◌<◌, ◌^◌, ◌==◌, ◌||◌, Bool, false, List, [], ◌∷◌, ◌++◌, length, drop, None, Result, Ok, All, sym, ap, subst, ◌∙◌, append_assoc, length-append, arith}
use Rattle.std.specs.List.{flat_map}
use Rattle.std.specs.Prelude.{nat_le, nat_lt}
use Rattle.std.proofs.lemmas.Bool.{eq-eqb, le-ltb, lt-leb, ne_eqb}
use Rattle.std.proofs.lemmas.List.{drop_at, take_all}
use Rattle.std.proofs.lemmas.List.Elements.{All-head, All-tail}
use Rattle.byteorder.specs.Endian.{little_bytes}
use Rattle.ds_base.specs.declared.fault.Fault.{Fault}
use Rattle.ds_base.specs.DwarfNumbers.{LENGTH_RESERVED}
use Rattle.ds_base.specs.Reading.{number_at}
use Rattle.ds_base.specs.Spot.{Spot, after, rest}
use Rattle.frame_table.specs.Entry.{behind_id, entry_at, frame_spot}
use Rattle.frame_table.specs.Entry.{content_of as read_content}
use Rattle.frame_table.specs.Frames.{Listing, entries_from, listed}
use Rattle.line_laws.proofs.Items.{At, at_same, narrowed, number_again, passed}
use Rattle.frame_laws.specs.Spelling.{Entry, IsSpelled, cie, content_of, entry_bytes, fde, id_of}

-- what a reader gives, whose type has no name outside of its crate
abbrev Given : {A : Type 0} → (List ℕ → ℕ → Result A Fault) → Type 0
Given {A} read = A

abbrev pub Row : Type 0
Row = Given entry_at

-- an entry that begins at a place
abbrev pub row : ℕ → Entry → Row
row place e = record { place = place; end = place + length (entry_bytes e); id = id_of e }

abbrev pub rows : ℕ → List Entry → List Row
rows from [] = []
rows from (e ∷ entries) = row from e ∷ rows (from + length (entry_bytes e)) entries

-- ---- an entry

pub entry_size : (e : Entry) → length (entry_bytes e) ≡ 8 + length (content_of e)
entry_size e = omega (arith, length-append (little_bytes 4 (4 + length (content_of e))) (little_bytes 4 (id_of e) ++ content_of e), length-append (little_bytes 4 (id_of e)) (content_of e))

short : (e : Entry) → IsSpelled e → 4 + length (content_of e) < LENGTH_RESERVED
short (cie content) is = is
short (fde pointer address range code) is =
    let len = length-append (little_bytes 8 address) (little_bytes 8 range ++ code) in
    let more = length-append (little_bytes 8 range) code in
    omega (arith, is.0, len, more)

id_fits : (e : Entry) → IsSpelled e → id_of e < 256 ^ 4
id_fits (cie content) is = omega arith
id_fits (fde pointer address range code) is = omega (arith, is.1)

module _ (section : List ℕ) (place : ℕ) (e : Entry) (front more : List ℕ) (is : IsSpelled e) (whole : section ≡ front ++ (entry_bytes e ++ more)) (there : length front ≡ place) where
  abbrev content : List ℕ
  content = content_of e

  abbrev len : ℕ
  len = 4 + length (content_of e)

  section_len : length section ≡ place + (8 + (length (content_of e) + length more))
  section_len = omega (arith, ap length whole, length-append front (entry_bytes e ++ more), length-append (entry_bytes e) more, entry_size e, there)

  all_left : rest (frame_spot section place (length section)) ≡ entry_bytes e ++ more
  all_left =
      let dropped = drop_at front (entry_bytes e ++ more) place there in
      let cut : drop place section ≡ entry_bytes e ++ more = ap (λ (xs : List ℕ). drop place xs) whole ∙ dropped in
      take_all (length section - place) (drop place section) (omega (arith, ap length cut, length-append (entry_bytes e) more, entry_size e, section_len)) ∙ cut

  stands : At (frame_spot section place (length section)) (entry_bytes e ++ more)
  stands = record { left_is = all_left; end_is = omega (arith, section_len, length-append (entry_bytes e) more, entry_size e) }

  -- behind the length
  abbrev behind_len : Spot
  behind_len = after (frame_spot section place (length section)) 4

  at_id : At behind_len ((little_bytes 4 (id_of e) ++ content) ++ more)
  at_id = passed (frame_spot section place (length section)) (little_bytes 4 len) ((little_bytes 4 (id_of e) ++ content) ++ more) (at_same (frame_spot section place (length section)) (entry_bytes e ++ more) (little_bytes 4 len ++ ((little_bytes 4 (id_of e) ++ content) ++ more)) (append_assoc (little_bytes 4 len) (little_bytes 4 (id_of e) ++ content) more) stands)

  -- up to the end of the entry
  abbrev id_spot : Spot
  id_spot = frame_spot section (place + 4) (place + 4 + len)

  at_own : At id_spot (little_bytes 4 (id_of e) ++ content)
  at_own =
      let size : length (little_bytes 4 (id_of e) ++ content) ≡ len = omega (arith, length-append (little_bytes 4 (id_of e)) content) in
      subst (λ (n : ℕ). At (frame_spot section (place + 4) (place + 4 + n)) (little_bytes 4 (id_of e) ++ content)) size (narrowed behind_len (little_bytes 4 (id_of e) ++ content) more at_id)

  len_read : number_at 4 (frame_spot section place (length section)) ≡ Ok (len, behind_len)
  len_read =
      let small = short e is in
      number_again 4 len (frame_spot section place (length section)) ((little_bytes 4 (id_of e) ++ content) ++ more) (omega (arith, small)) (at_same (frame_spot section place (length section)) (entry_bytes e ++ more) (little_bytes 4 len ++ ((little_bytes 4 (id_of e) ++ content) ++ more)) (append_assoc (little_bytes 4 len) (little_bytes 4 (id_of e) ++ content) more) stands)

  id_read : number_at 4 id_spot ≡ Ok (id_of e, after id_spot 4)
  id_read = number_again 4 (id_of e) id_spot content (id_fits e is) at_own

  in_place : (nat_le LENGTH_RESERVED len || nat_lt (length section - (place + 4)) len) ≡ false
  in_place =
      let small = short e is in
      let one : nat_le LENGTH_RESERVED len ≡ false = lt-leb LENGTH_RESERVED len (omega (arith, small)) in
      let two : nat_lt (length section - (place + 4)) len ≡ false = le-ltb (length section - (place + 4)) len (omega (arith, section_len)) in
      ap (λ (b : Bool). b || nat_lt (length section - (place + 4)) len) one ∙ two

  abbrev made : ℕ → Row
  made end = record { place = place; end = end; id = id_of e }

  pub entry_again : entry_at section place ≡ Ok (row place e)
  unfolding entry_at
  entry_again =
      let end : place + 4 + len ≡ place + length (entry_bytes e) = omega (arith, entry_size e) in
      rw (len_read, in_place, id_read) (ap (λ (n : ℕ). Ok (made n)) end)

  -- behind the id
  pub at_content : At (behind_id section (row place e)) content
  at_content =
      let size : place + 4 + len ≡ place + length (entry_bytes e) = omega (arith, entry_size e) in
      let behind : place + 4 + 4 ≡ place + 8 = omega arith in
      subst (λ (n : ℕ). At (frame_spot section (place + 8) n) content) size (subst (λ (n : ℕ). At (frame_spot section n (place + 4 + len)) content) behind (passed id_spot (little_bytes 4 (id_of e)) content at_own))

  pub content_again : read_content section (row place e) ≡ content
  content_again = let at = at_content in at.left_is

-- ---- entries one after the other

length_is : (section : List ℕ) (place : ℕ) (e : Entry) (front more : List ℕ) → IsSpelled e → section ≡ front ++ (entry_bytes e ++ more) → length front ≡ place → length section ≡ place + (8 + (length (content_of e) + length more))
length_is section place e front more is whole there = section_len section place e front more is whole there

pub entries_again : (section : List ℕ) (left place : ℕ) (front : List ℕ) (entries : List Entry) → All IsSpelled entries → section ≡ front ++ flat_map entry_bytes entries → length front ≡ place → length section - place < left
    → entries_from left section place ≡ record { entries = rows place entries; stop = None }
entries_again section zero place front entries all whole there enough = absurd (omega (arith, enough))
entries_again section (suc left) place front [] all whole there enough =
    let ends : place ≡ length section = omega (arith, ap length whole, length-append front [], there) in
    ap (λ (b : Bool). if b then record { entries = []; stop = None } else listed (entry_at section place) (λ end. entries_from left section end)) (eq-eqb place (length section) ends)
entries_again section (suc left) place front (e ∷ entries) all whole there enough =
    let is = All-head IsSpelled e entries all in
    let size = entry_size e in
    let len = length_is section place e front (flat_map entry_bytes entries) is whole there in
    let goes_on : (place == length section) ≡ false = ne_eqb place (length section) (λ e. absurd (omega (arith, e, len))) in
    let next = entries_again section left (place + length (entry_bytes e)) (front ++ entry_bytes e) entries (All-tail IsSpelled e entries all) (whole ∙ sym (append_assoc front (entry_bytes e) (flat_map entry_bytes entries))) (omega (arith, length-append front (entry_bytes e), there)) (omega (arith, enough, size, len)) in
    ap (λ (b : Bool). if b then record { entries = []; stop = None } else listed (entry_at section place) (λ end. entries_from left section end)) goes_on
    ∙ ap (λ (r : Result Row Fault). listed r (λ end. entries_from left section end)) (entry_again section place e front (flat_map entry_bytes entries) is whole there)
    ∙ ap (λ (l : Listing). record l { entries = row place e ∷ l.entries }) next
