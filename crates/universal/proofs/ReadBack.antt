-- A joined file is read back: its records, and the bytes of its slices.
use Rattle.std.proofs.Common.{◌≡◌, ℕ, ◌+◌, ◌*◌, ◌^◌, ◌<◌, ◌≤◌, ◌==◌, ◌||◌, false, List, [], ◌∷◌, ◌++◌, length, map, take, drop, Some, Ok, refl, sym, ap, ap₂, subst, ◌∙◌, append_assoc, append-nil, length-append, arith}
use Rattle.std.specs.Prelude.{nat_lt}
use Rattle.std.specs.List.{flat_map, AllByRecursion}
use Rattle.std.proofs.lemmas.Bool.{le-ltb, ne_eqb}
use Rattle.std.proofs.lemmas.List.{drop_at, length-map, take_at}
use Rattle.byteorder.specs.Endian.{big_bytes, big_number}
use Rattle.byteorder.specs.Numbers.{big_number-reads_back}
use Rattle.ds_base.specs.MachONumbers.{FAT_MAGIC}
use Rattle.ds_base.specs.Reading.{items_at}
use Rattle.universal.specs.declared.parts.Thin.{Thin}
use Rattle.universal.specs.declared.records.Slice.{Slice}
use Rattle.universal.specs.Records.{IsWithin, count_of, head_size, number_of, slice_at, slice_of, slices_of}
use Rattle.universal.specs.Choice.{slice_bytes}
use Rattle.universal.specs.Joined.{appended, head, joined, page_end, page_zeros, paged, placed, record_bytes, slices_joined}
use Rattle.universal.specs.Laws.{HasNumbers, SlicesReadBack}
use Rattle.universal.proofs.Pages.{end_kept, length_zeros, page_behind}
use Rattle.universal.proofs.Rooms.{length_head, length_joined_places, length_number, length_record}

-- ---- numbers and records

-- the number behind some bytes
number_again : (front more : List ℕ) (n at : ℕ) → n < 2 ^ 32 → length front ≡ at → number_of at (front ++ (big_bytes 4 n ++ more)) ≡ n
unfolding number_of
number_again front more n at lt is = ap (big_number 4) (drop_at front (big_bytes 4 n ++ more) at is) ∙ big_number-reads_back 4 n more lt

-- the number behind a number
next_number : (front more : List ℕ) (m n at : ℕ) → n < 2 ^ 32 → length front + 4 ≡ at → number_of at (front ++ (big_bytes 4 m ++ (big_bytes 4 n ++ more))) ≡ n
next_number front more m n at lt is =
    ap (number_of at) (sym (append_assoc front (big_bytes 4 m) (big_bytes 4 n ++ more)))
    ∙ number_again (front ++ big_bytes 4 m) more n at lt (omega (arith, is, length-append front (big_bytes 4 m), length_number m))

-- numbers of a record have four bytes
record HasFour (s : Slice) : Type 0 where
  cpu : s.cpu < 2 ^ 32
  sub : s.sub < 2 ^ 32
  offset : s.offset < 2 ^ 32
  size : s.size < 2 ^ 32

record_text : (s : Slice) (more : List ℕ) → record_bytes s ++ more ≡ big_bytes 4 s.cpu ++ (big_bytes 4 s.sub ++ (big_bytes 4 s.offset ++ (big_bytes 4 s.size ++ (big_bytes 4 12 ++ more))))
record_text s more = simp append_assoc

-- the record behind some bytes
record_again : (s : Slice) (front more : List ℕ) (at : ℕ) → HasFour s → length front ≡ at → slice_of (front ++ (record_bytes s ++ more)) at ≡ s
unfolding slice_of
record_again s front more at has is =
    let cpu : List ℕ = big_bytes 4 s.cpu in
    let sub : List ℕ = big_bytes 4 s.sub in
    let offset : List ℕ = big_bytes 4 s.offset in
    let size : List ℕ = big_bytes 4 s.size in
    let last : List ℕ = big_bytes 4 12 ++ more in
    let second : front ++ (cpu ++ (sub ++ (offset ++ (size ++ last)))) ≡ (front ++ cpu) ++ (sub ++ (offset ++ (size ++ last))) = sym (append_assoc front cpu (sub ++ (offset ++ (size ++ last)))) in
    let third : (front ++ cpu) ++ (sub ++ (offset ++ (size ++ last))) ≡ ((front ++ cpu) ++ sub) ++ (offset ++ (size ++ last)) = sym (append_assoc (front ++ cpu) sub (offset ++ (size ++ last))) in
    let one : length (front ++ cpu) ≡ at + 4 = omega (arith, is, length-append front cpu, length_number s.cpu) in
    let two : length ((front ++ cpu) ++ sub) ≡ at + 8 = omega (arith, one, length-append (front ++ cpu) sub, length_number s.sub) in
    rw (
      record_text s more,
      number_again front (sub ++ (offset ++ (size ++ last))) s.cpu at has.cpu is,
      ap (number_of (at + 4)) second ∙ number_again (front ++ cpu) (offset ++ (size ++ last)) s.sub (at + 4) has.sub one,
      ap (number_of (at + 8)) (second ∙ third) ∙ number_again ((front ++ cpu) ++ sub) (size ++ last) s.offset (at + 8) has.offset two,
      ap (number_of (at + 12)) (second ∙ third) ∙ next_number ((front ++ cpu) ++ sub) last s.offset s.size (at + 12) has.size (omega (arith, two)),
    ) refl

slice_again : (s : Slice) (front more : List ℕ) (at : ℕ) → HasFour s → length front ≡ at → IsWithin (front ++ (record_bytes s ++ more)) s → slice_at (front ++ (record_bytes s ++ more)) at ≡ Ok (s, at + 20)
unfolding slice_at
slice_again s front more at has is within =
    let bytes : List ℕ = front ++ (record_bytes s ++ more) in
    let same : slice_of bytes at ≡ s = record_again s front more at has is in
    rw (same, le-ltb (length bytes) (s.offset + s.size) within) refl

-- records one behind the other
records_again : (slices before : List Slice) (front more : List ℕ) (at : ℕ) → AllByRecursion HasFour slices → AllByRecursion (IsWithin (front ++ (flat_map record_bytes slices ++ more))) slices → length front ≡ at
    → items_at (slice_at (front ++ (flat_map record_bytes slices ++ more))) (length slices) before at ≡ Ok (before ++ slices, at + 20 * length slices)
records_again [] before front more at has within is =
    let here : at ≡ at + 20 * 0 = omega arith in
    ap₂ (λ (xs : List Slice) (n : ℕ). Ok (xs, n)) (sym (append-nil before)) here
records_again (s ∷ slices) before front more at has within is =
    let rest : List ℕ = flat_map record_bytes slices ++ more in
    let cut : (record_bytes s ++ flat_map record_bytes slices) ++ more ≡ record_bytes s ++ rest = append_assoc (record_bytes s) (flat_map record_bytes slices) more in
    let first : front ++ ((record_bytes s ++ flat_map record_bytes slices) ++ more) ≡ front ++ (record_bytes s ++ rest) = ap (λ (xs : List ℕ). front ++ xs) cut in
    let moved : front ++ ((record_bytes s ++ flat_map record_bytes slices) ++ more) ≡ (front ++ record_bytes s) ++ rest = first ∙ sym (append_assoc front (record_bytes s) rest) in
    let here : slice_at (front ++ ((record_bytes s ++ flat_map record_bytes slices) ++ more)) at ≡ Ok (s, at + 20) =
    ap (λ (xs : List ℕ). slice_at xs at) first ∙ slice_again s front rest at has.0 is (subst (λ (xs : List ℕ). IsWithin xs s) first within.0) in
    let len : length (front ++ record_bytes s) ≡ at + 20 = omega (arith, is, length-append front (record_bytes s), length_record s) in
    let others = records_again slices (before ++ s ∷ []) (front ++ record_bytes s) more (at + 20) has.1 (subst (λ (xs : List ℕ). AllByRecursion (IsWithin xs) slices) moved within.1) len in
    let end : at + 20 + 20 * length slices ≡ at + 20 * length (s ∷ slices) = omega arith in
    rw here
    (ap (λ (xs : List ℕ). items_at (slice_at xs) (length slices) (before ++ s ∷ []) (at + 20)) moved ∙ others
    ∙ ap₂ (λ (xs : List Slice) (n : ℕ). Ok (xs, n)) (append_assoc before (s ∷ []) slices) end)

-- ---- the file

-- header and records are read where they stand first
head_again : (slices : List Slice) (more : List ℕ) → 1 ≤ length slices → length slices ≤ 16 → AllByRecursion HasFour slices → AllByRecursion (IsWithin (head slices ++ more)) slices
    → slices_of (head slices ++ more) ≡ Ok (Some slices)
unfolding slices_of count_of
head_again slices more some few has within =
    let count : List ℕ = big_bytes 4 (length slices) in
    let magic : List ℕ = big_bytes 4 FAT_MAGIC in
    let records : List ℕ = flat_map record_bytes slices in
    let bytes : List ℕ = head slices ++ more in
    let told : number_of 4 bytes ≡ length slices = ap (number_of 4) (append_assoc magic (count ++ records) more ∙ ap (λ (xs : List ℕ). magic ++ xs) (append_assoc count records more)) ∙ number_again magic (records ++ more) (length slices) 4 (omega (arith, few)) refl in
    let len : length bytes ≡ head_size (length slices) + length more = omega (arith, length-append (head slices) more, length_head slices) in
    let right : (length slices == 0 || nat_lt 16 (length slices)) ≡ false = rw (ne_eqb (length slices) 0 (λ e. omega (arith, e, some)), le-ltb 16 (length slices) few) refl in
    let moved : bytes ≡ (magic ++ count) ++ (records ++ more) = append_assoc magic (count ++ records) more ∙ ap (λ (xs : List ℕ). magic ++ xs) (append_assoc count records more) ∙ sym (append_assoc magic count (records ++ more)) in
    let items : items_at (slice_at bytes) (length slices) [] 8 ≡ Ok (slices, 8 + 20 * length slices) =
    ap (λ (xs : List ℕ). items_at (slice_at xs) (length slices) [] 8) moved ∙ records_again slices [] (magic ++ count) more 8 has (subst (λ (xs : List ℕ). AllByRecursion (IsWithin xs) slices) moved within) (omega (arith, length-append magic count, length_number (length slices), length_number FAT_MAGIC)) in
    rw (told, le-ltb (length bytes) 8 (omega (arith, len)), right, le-ltb (length bytes) (head_size (length slices)) (omega (arith, len)), items) refl

-- the slices of parts end where the parts end
placed_within : (parts : List Thin) (at total : ℕ) → at + length (paged at parts) ≤ total → AllByRecursion (λ (s : Slice). s.offset + s.size ≤ total) (placed at (map appended parts))
placed_within [] at total le = tt
placed_within (p ∷ parts) at total le =
    (omega (arith, le, end_kept p parts at), placed_within parts (page_end at + length p.bytes) total (omega (arith, le, end_kept p parts at)))

-- and have numbers of four bytes in a file that these reach
placed_four : (parts : List Thin) (at : ℕ) → at + length (paged at parts) < 2 ^ 32 → AllByRecursion HasNumbers parts → AllByRecursion HasFour (placed at (map appended parts))
placed_four [] at lt has = tt
placed_four (p ∷ parts) at lt has = (
  record { cpu = has.0.0; sub = has.0.1; offset = omega (arith, lt, end_kept p parts at); size = omega (arith, lt, end_kept p parts at) },
  placed_four parts (page_end at + length p.bytes) (omega (arith, lt, end_kept p parts at)) has.1,
)

-- each slice has its part's bytes
bytes_again : (parts : List Thin) (front : List ℕ) (at : ℕ) → length front ≡ at → map (slice_bytes (front ++ paged at parts)) (placed at (map appended parts)) ≡ map (λ p. p.bytes) parts
bytes_again [] front at is = refl
bytes_again (p ∷ parts) front at is =
    let next : ℕ = page_end at + length p.bytes in
    let rest : List ℕ = paged next parts in
    let file : List ℕ = front ++ (page_zeros at ++ (p.bytes ++ rest)) in
    let before : List ℕ = front ++ page_zeros at in
    let len : length before ≡ page_end at = omega (arith, is, length-append front (page_zeros at), length_zeros at, page_behind at) in
    let split : file ≡ before ++ (p.bytes ++ rest) = sym (append_assoc front (page_zeros at) (p.bytes ++ rest)) in
    let moved : file ≡ (before ++ p.bytes) ++ rest = split ∙ sym (append_assoc before p.bytes rest) in
    let here : take (length p.bytes) (drop (page_end at) file) ≡ p.bytes =
    ap (λ (xs : List ℕ). take (length p.bytes) (drop (page_end at) xs)) split ∙ ap (take (length p.bytes)) (drop_at before (p.bytes ++ rest) (page_end at) len) ∙ take_at p.bytes rest (length p.bytes) refl in
    let others : map (slice_bytes file) (placed next (map appended parts)) ≡ map (λ p. p.bytes) parts =
    ap (λ (xs : List ℕ). map (slice_bytes xs) (placed next (map appended parts))) moved ∙ bytes_again parts (before ++ p.bytes) next (omega (arith, len, length-append before p.bytes)) in
    ap₂ (λ (x : List ℕ) (xs : List (List ℕ)). x ∷ xs) here others

pub joined_again : SlicesReadBack
joined_again parts some few has small =
    let slices : List Slice = slices_joined parts in
    let rest : List ℕ = paged (head_size (length parts)) parts in
    let count : length (map appended parts) ≡ length parts = length-map parts appended in
    let at : head_size (length (map appended parts)) ≡ head_size (length parts) = ap head_size count in
    let long : length (head slices) ≡ head_size (length parts) = length_head slices ∙ ap head_size (length_joined_places parts) in
    let total : head_size (length parts) + length rest ≡ length (joined parts) = omega (arith, long, length-append (head slices) rest) in
    let same : slices ≡ placed (head_size (length parts)) (map appended parts) = ap (λ (n : ℕ). placed n (map appended parts)) at in
    record {
      slices = head_again slices rest (omega (arith, some, length_joined_places parts)) (omega (arith, few, length_joined_places parts))
          (subst (AllByRecursion HasFour) (sym same) (placed_four parts (head_size (length parts)) (omega (arith, total, small)) has))
          (subst (AllByRecursion (IsWithin (joined parts))) (sym same) (placed_within parts (head_size (length parts)) (length (joined parts)) (omega (arith, total))));
      bytes = ap (map (slice_bytes (joined parts))) same ∙ bytes_again parts (head slices) (head_size (length parts)) long;
    }
