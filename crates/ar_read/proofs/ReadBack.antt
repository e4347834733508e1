-- A spelled archive is read back: its numbers, its names, its members one after the other.
use Rattle.std.proofs.Common.{◌≡◌, ℕ, zero, suc, ◌+◌, ◌-◌, ◌%◌, ◌≤◌, ◌==◌, Bool, true, false, List, [], ◌∷◌, ◌++◌, length, take, drop, replicate, Some, Result, Ok, if◌then◌else◌, refl, sym, ap, ◌∙◌, append_assoc, append-nil, arith}
use Rattle.std.specs.List.{flat_map, list_all, suffix_len, AllByRecursion}
use Rattle.std.specs.Char.{is_ascii_digit}
use Rattle.std.specs.Str.{bytes_eq}
use Rattle.std.proofs.lemmas.Bool.{and_parts, ne_eqb, le-ltb}
use Rattle.std.proofs.lemmas.List.{drop_at, drop-drop, take_at, length-append, length-drop, length-replicate, replicate_more, reverse-append}
use Rattle.ds_base.specs.declared.fault.Fault.{Fault}
use Rattle.ds_base.specs.MachONumbers.{ARMAG, ARFMAG, AR_EFMT1}
use Rattle.ar_read.specs.Number.{are_spaces, digit_count, number_of}
use Rattle.ar_read.specs.Padding.{unpadded}
use Rattle.ar_read.specs.Header.{Named, member_at, named_at}
use Rattle.ar_read.specs.Archive.{found_in, member_of, member_size}
use Rattle.ar_read.specs.Spelling.{padded, NamePlace, InHeader, InBody, Spelled, name_field, name_bytes, body, front, header, member_bytes, archive_bytes, IsNumber, IsNamed, IsMember, first_of, ArchivesReadBack}
use Rattle.ar_read.proofs.Listing.{all_members, from_place, found_step, found_end}

-- ---- numbers

-- spaces are no digits, and all of them are spaces
no_digit : (n : ℕ) → digit_count (replicate n 32) ≡ 0
no_digit zero = refl
no_digit (suc n) = refl

all_spaces : (n : ℕ) → are_spaces (replicate n 32) ≡ true
all_spaces zero = refl
all_spaces (suc n) = all_spaces n

digits_counted : (digits more : List ℕ) → list_all is_ascii_digit digits ≡ true → digit_count more ≡ 0 → digit_count (digits ++ more) ≡ length digits
digits_counted [] more all none = none
digits_counted (d ∷ digits) more all none =
    let p = and_parts (is_ascii_digit d) (list_all is_ascii_digit digits) all in
    rw p.0 (omega (arith, digits_counted digits more p.1 none))

number_again : (width : ℕ) (digits : List ℕ) (n : ℕ) → IsNumber width digits n → number_of (padded width digits) ≡ Some n
unfolding number_of
number_again width digits n is =
    let spaces : List ℕ = replicate (width - length digits) 32 in
    let some : (length digits ≡ 0 → ⊥) = λ none. let lt = is.some in omega arith in
    rw (
      digits_counted digits spaces is.all (no_digit (width - length digits)),
      ne_eqb (length digits) 0 some,
      drop_at digits spaces (length digits) refl,
      take_at digits spaces (length digits) refl,
      all_spaces (width - length digits),
      is.value,
    ) refl

length_padded : (width : ℕ) (text : List ℕ) → length text ≤ width → length (padded width text) ≡ width
length_padded width text le = omega (arith, length-append text (replicate (width - length text) 32), length-replicate {A = ℕ} (width - length text) 32)

-- ---- names

one_more : (p : ℕ → Bool) (bytes : List ℕ) (b : ℕ) → p b ≡ true → suffix_len p (bytes ++ b ∷ []) ≡ 1 + suffix_len p bytes
one_more p bytes b is = rw (reverse-append bytes (b ∷ []), is) refl

pads_counted : (p : ℕ → Bool) (name : List ℕ) (pad : ℕ) → p pad ≡ true → (n : ℕ) → suffix_len p (name ++ replicate n pad) ≡ n + suffix_len p name
pads_counted p name pad is zero = let none : suffix_len p (name ++ []) ≡ suffix_len p name = ap (suffix_len p) (append-nil name) in omega (arith, none)
pads_counted p name pad is (suc n) =
    let same : suc n ≡ n + 1 = omega arith in
    let last : name ++ replicate (suc n) pad ≡ (name ++ replicate n pad) ++ pad ∷ [] =
    ap (λ (k : ℕ). name ++ replicate k pad) same ∙ ap (λ (xs : List ℕ). name ++ xs) (sym (replicate_more n pad)) ∙ sym (append_assoc name (replicate n pad) (pad ∷ [])) in
    let one : suffix_len p (name ++ replicate (suc n) pad) ≡ 1 + suffix_len p (name ++ replicate n pad) = ap (suffix_len p) last ∙ one_more p (name ++ replicate n pad) pad is in
    omega (arith, one, pads_counted p name pad is n)

unpadded_again : (pad : ℕ) (name : List ℕ) (n : ℕ) → (pad == pad) ≡ true → suffix_len (λ b. b == pad) name ≡ 0 → unpadded pad (name ++ replicate n pad) ≡ name
unpadded_again pad name n is ends =
    let all : length (name ++ replicate n pad) ≡ length name + n = omega (arith, length-append name (replicate n pad), length-replicate {A = ℕ} n pad) in
    let counted : suffix_len (λ b. b == pad) (name ++ replicate n pad) ≡ n = omega (arith, pads_counted (λ b. b == pad) name pad is n, ends) in
    take_at name (replicate n pad) (length (name ++ replicate n pad) - suffix_len (λ b. b == pad) (name ++ replicate n pad)) (omega (arith, all, counted))

-- what is read of a member
abbrev read_of : Spelled → Named
read_of m = record { name = m.name; content = m.content; size = length (body m) }

abbrev named : List ℕ → List ℕ → ℕ → Named
named name content size = record { name = name; content = content; size = size }

named_again : (at : ℕ) (place : NamePlace) (name content : List ℕ) → IsNamed place name
    → named_at at (padded 16 (name_field place name)) (name_bytes place name ++ content) ≡ Ok (named name content (length (name_bytes place name ++ content)))
unfolding named_at
named_again at InHeader name content is = rw (is.plain, unpadded_again 32 name (16 - length name) refl is.ends) refl
named_again at (InBody digits pads) name content is =
    let all : List ℕ = name ++ replicate pads 0 in
    let len : length all ≡ length name + pads = omega (arith, length-append name (replicate pads 0), length-replicate {A = ℕ} pads 0) in
    let whole : length (all ++ content) ≡ length all + length content = length-append all content in
    let left : 16 - length (AR_EFMT1 ++ digits) ≡ 13 - length digits = omega arith in
    let field : number_of (digits ++ replicate (16 - length (AR_EFMT1 ++ digits)) 32) ≡ Some (length name + pads) = ap (λ (n : ℕ). number_of (digits ++ replicate n 32)) left ∙ number_again 13 digits (length name + pads) is.count in
    rw (
      field,
      le-ltb (length (all ++ content)) (length name + pads) (omega (arith, whole, len)),
      take_at all content (length name + pads) len,
      drop_at all content (length name + pads) len,
      unpadded_again 0 name pads refl is.ends,
    ) refl

-- ---- members

middle_len : (m : Spelled) → IsMember m → length (m.date ++ (m.uid ++ (m.gid ++ m.mode))) ≡ 32
middle_len m is = omega (arith, length-append m.date (m.uid ++ (m.gid ++ m.mode)), length-append m.uid (m.gid ++ m.mode), length-append m.gid m.mode, is.date, is.uid, is.gid, is.mode)

field_len : (place : NamePlace) (name : List ℕ) → IsNamed place name → length (name_field place name) ≤ 16
field_len InHeader name is = is.len
field_len (InBody digits pads) name is = let le = is.count.fits in omega arith

front_len : (m : Spelled) → IsMember m → length (front m) ≡ 48
front_len m is =
    omega (arith, length-append (padded 16 (name_field m.name_place m.name)) (m.date ++ (m.uid ++ (m.gid ++ m.mode))), length_padded 16 (name_field m.name_place m.name) (field_len m.name_place m.name is.name), middle_len m is)

size_len : (m : Spelled) → IsMember m → length (padded 10 m.size) ≡ 10
size_len m is = length_padded 10 m.size is.size.fits

header_len : (m : Spelled) → IsMember m → length (header m) ≡ 60
header_len m is =
    omega (arith, length-append (front m) (padded 10 m.size ++ ARFMAG), length-append (padded 10 m.size) ARFMAG, front_len m is, size_len m is)

-- the member that some bytes begin with
member_again : (m : Spelled) (more : List ℕ) (at : ℕ) → IsMember m → member_at at (header m ++ (body m ++ more)) ≡ Ok (read_of m)
unfolding member_at
member_again m more at is =
    let rest : List ℕ = body m ++ more in
    let bytes : List ℕ = header m ++ rest in
    let name : List ℕ = padded 16 (name_field m.name_place m.name) in
    let middle : List ℕ = m.date ++ (m.uid ++ (m.gid ++ m.mode)) in
    let size : List ℕ = padded 10 m.size in
    let all : length bytes ≡ 60 + length (body m) + length more = omega (arith, length-append (header m) rest, length-append (body m) more, header_len m is) in
    let by_size : bytes ≡ front m ++ (size ++ (ARFMAG ++ rest)) = append_assoc (front m) (size ++ ARFMAG) rest ∙ ap (λ (xs : List ℕ). front m ++ xs) (append_assoc size ARFMAG rest) in
    let at_size : take 10 (drop 48 bytes) ≡ size =
    ap (λ (xs : List ℕ). take 10 (drop 48 xs)) by_size ∙ ap (take 10) (drop_at (front m) (size ++ (ARFMAG ++ rest)) 48 (front_len m is)) ∙ take_at size (ARFMAG ++ rest) 10 (size_len m is) in
    let fore : length (front m ++ size) ≡ 58 = omega (arith, length-append (front m) size, front_len m is, size_len m is) in
    let at_mark : drop 58 bytes ≡ ARFMAG ++ rest = ap (drop 58) (by_size ∙ sym (append_assoc (front m) size (ARFMAG ++ rest))) ∙ drop_at (front m ++ size) (ARFMAG ++ rest) 58 fore in
    let at_name : take 16 bytes ≡ name =
    ap (take 16) (by_size ∙ append_assoc name middle (size ++ (ARFMAG ++ rest)))
    ∙ take_at name (middle ++ (size ++ (ARFMAG ++ rest))) 16 (length_padded 16 (name_field m.name_place m.name) (field_len m.name_place m.name is.name)) in
    let at_body : take (length (body m)) (drop 60 bytes) ≡ body m = ap (take (length (body m))) (drop_at (header m) rest 60 (header_len m is)) ∙ take_at (body m) more (length (body m)) refl in
    rw (
      le-ltb (length bytes) 60 (omega (arith, all)),
      at_mark,
      at_size,
      number_again 10 m.size (length (body m)) is.size,
      le-ltb (length bytes - 60) (length (body m)) (omega (arith, all)),
      at_name,
      at_body,
    ) (named_again at m.name_place m.name m.content is.name)

-- ---- archives

member_len : (m : Spelled) → IsMember m → length (member_bytes m) ≡ member_size (length (body m))
member_len m is =
    let odd : ℕ = length (body m) % 2 in
    omega (arith, length-append (header m) (body m ++ replicate odd m.odd), length-append (body m) (replicate odd m.odd), length-replicate {A = ℕ} odd m.odd, header_len m is)

first_by : (b : Bool) (m : Spelled) (ms : List Spelled) (name : List ℕ) → bytes_eq m.name name ≡ b → (if b then Ok m.content else first_of ms name) ≡ first_of (m ∷ ms) name
first_by true m ms name is = rw is refl
first_by false m ms name is = rw is refl

members_again : (ms : List Spelled) (bytes name : List ℕ) (place : ℕ) → AllByRecursion IsMember ms → drop place bytes ≡ flat_map member_bytes ms → place ≤ length bytes
    → found_in name (from_place bytes place) ≡ first_of ms name
members_again [] bytes name place all here le = found_end bytes name place (omega (arith, ap length here, length-drop place bytes))
members_again (m ∷ ms) bytes name place all here le =
    let more : List ℕ = flat_map member_bytes ms in
    let pad : List ℕ = replicate (length (body m) % 2) m.odd in
    let split : drop place bytes ≡ header m ++ (body m ++ (pad ++ more)) =
    here ∙ append_assoc (header m) (body m ++ pad) more ∙ ap (λ (xs : List ℕ). header m ++ xs) (append_assoc (body m) pad more) in
    let read : member_at place (drop place bytes) ≡ Ok (read_of m) = ap (member_at place) split ∙ member_again m (pad ++ more) place all.0 in
    let sum : length bytes - place ≡ length (member_bytes m) + length more = sym (length-drop place bytes) ∙ ap length here ∙ length-append (member_bytes m) more in
    let size : length (member_bytes m) ≡ member_size (length (body m)) = member_len m all.0 in
    let next : drop (place + member_size (length (body m))) bytes ≡ more =
    sym (drop-drop (member_size (length (body m))) place bytes) ∙ ap (drop (member_size (length (body m)))) here ∙ drop_at (member_bytes m) more (member_size (length (body m))) size in
    found_step bytes name place (read_of m) (omega (arith, sum, size)) read
    ∙ ap (λ (r : Result (List ℕ) Fault). if bytes_eq m.name name then Ok m.content else r) (members_again ms bytes name (place + member_size (length (body m))) all.1 next (omega (arith, sum, size)))
    ∙ first_by (bytes_eq m.name name) m ms name refl

pub archives_again : ArchivesReadBack
unfolding member_of
archives_again ms name all =
    let bytes : List ℕ = archive_bytes ms in
    let len : length bytes ≡ 8 + length (flat_map member_bytes ms) = length-append ARMAG (flat_map member_bytes ms) in
    ap (found_in name) (all_members bytes) ∙ members_again ms bytes name 8 all (drop_at ARMAG (flat_map member_bytes ms) 8 refl) (omega (arith, len))
