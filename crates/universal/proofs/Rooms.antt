-- Header and records in a room.
use Rattle.std.proofs.Common.{◌≡◌, ℕ, ◌+◌, ◌-◌, ◌*◌, ◌^◌, ◌<◌, ◌≤◌, List, [], ◌∷◌, ◌++◌, length, map, take, drop, drop-cons, get_or, add-one, All, replicate, refl, sym, ap, ◌∙◌, append_assoc, take-append-drop, length-append, arith}
use Rattle.std.specs.List.{flat_map}
use Rattle.std.proofs.lemmas.List.{drop-append-le, drop-replicate, length-replicate, length-map}
use Rattle.std.proofs.lemmas.List.Elements.{All-from_recursion}
use Rattle.byteorder.specs.Endian.{big_bytes}
use Rattle.byteorder.specs.Numbers.{length-bytes_high_first}
use Rattle.ds_base.specs.MachONumbers.{FAT_MAGIC}
use Rattle.ds_base.specs.Room.{put}
use Rattle.ds_base.proofs.Adding.{length-put}
use Rattle.ds_base.proofs.Rooms.{put-put}
use Rattle.universal.specs.declared.parts.Appended.{Appended}
use Rattle.universal.specs.declared.parts.Thin.{Thin}
use Rattle.universal.specs.declared.records.Slice.{Slice}
use Rattle.universal.specs.Records.{head_size}
use Rattle.universal.specs.Joined.{appended, head, joined, page_end, paged, placed, places, record_bytes, slice_from, slices_joined, unheaded}
use Rattle.universal.proofs.Pages.{head_page, length_placed, parts_fit}

-- ---- puts

-- what is put right behind what was put
pub put_next : (old mid new xs ys : List ℕ) (at next : ℕ) → at + length xs ≤ length old → next ≡ at + length xs → mid ≡ put old at xs → new ≡ put mid next ys → new ≡ put old at (xs ++ ys)
put_next old mid new xs ys at next fits place one two =
    two ∙ ap (λ (room : List ℕ). put room next ys) one ∙ ap (λ (n : ℕ). put (put old at xs) n ys) place ∙ put-put old xs ys at fits

pub put_none : (room : List ℕ) (at : ℕ) → put room at [] ≡ room
put_none room at = let here : at + 0 ≡ at = omega arith in ap (λ (n : ℕ). take at room ++ drop n room) here ∙ take-append-drop at room

pub length_number : (n : ℕ) → length (big_bytes 4 n) ≡ 4
length_number n = length-bytes_high_first 4 n

pub length_record : (s : Slice) → length (record_bytes s) ≡ 20
length_record s =
    omega (
      arith,
      length-append (big_bytes 4 s.cpu) (big_bytes 4 s.sub ++ (big_bytes 4 s.offset ++ (big_bytes 4 s.size ++ big_bytes 4 12))),
      length-append (big_bytes 4 s.sub) (big_bytes 4 s.offset ++ (big_bytes 4 s.size ++ big_bytes 4 12)),
      length-append (big_bytes 4 s.offset) (big_bytes 4 s.size ++ big_bytes 4 12),
      length-append (big_bytes 4 s.size) (big_bytes 4 12),
      length_number s.cpu,
      length_number s.sub,
      length_number s.offset,
      length_number s.size,
      length_number 12,
    )

pub length_records : (slices : List Slice) → length (flat_map record_bytes slices) ≡ 20 * length slices
length_records [] = refl
length_records (s ∷ slices) = omega (arith, length-append (record_bytes s) (flat_map record_bytes slices), length_record s, length_records slices)

pub length_head : (slices : List Slice) → length (head slices) ≡ head_size (length slices)
length_head slices =
    omega (
      arith,
      length-append (big_bytes 4 FAT_MAGIC) (big_bytes 4 (length slices) ++ flat_map record_bytes slices),
      length-append (big_bytes 4 (length slices)) (flat_map record_bytes slices),
      length_number FAT_MAGIC,
      length_number (length slices),
      length_records slices,
    )

-- a record, number by number
pub record_written : (room one two three four five : List ℕ) (at : ℕ) (s : Slice) → at + 20 ≤ length room → one ≡ put room at (big_bytes 4 s.cpu) → two ≡ put one (at + 4) (big_bytes 4 s.sub) → three ≡ put two (at + 8) (big_bytes 4 s.offset)
    → four ≡ put three (at + 12) (big_bytes 4 s.size) → five ≡ put four (at + 16) (big_bytes 4 12) → five ≡ put room at (record_bytes s)
record_written room one two three four five at s fits cpu_put sub_put offset_put size_put last_put =
    let cpu : List ℕ = big_bytes 4 s.cpu in
    let sub : List ℕ = big_bytes 4 s.sub in
    let offset : List ℕ = big_bytes 4 s.offset in
    let size : List ℕ = big_bytes 4 s.size in
    let last : List ℕ = big_bytes 4 12 in
    let len1 : length cpu ≡ 4 = length_number s.cpu in
    let len2 : length (cpu ++ sub) ≡ 8 = omega (arith, length-append cpu sub, len1, length_number s.sub) in
    let len3 : length ((cpu ++ sub) ++ offset) ≡ 12 = omega (arith, length-append (cpu ++ sub) offset, len2, length_number s.offset) in
    let len4 : length (((cpu ++ sub) ++ offset) ++ size) ≡ 16 = omega (arith, length-append ((cpu ++ sub) ++ offset) size, len3, length_number s.size) in
    let a : two ≡ put room at (cpu ++ sub) = put_next room one two cpu sub at (at + 4) (omega (arith, fits, len1)) (omega (arith, len1)) cpu_put sub_put in
    let b : three ≡ put room at ((cpu ++ sub) ++ offset) = put_next room two three (cpu ++ sub) offset at (at + 8) (omega (arith, fits, len2)) (omega (arith, len2)) a offset_put in
    let c : four ≡ put room at (((cpu ++ sub) ++ offset) ++ size) = put_next room three four ((cpu ++ sub) ++ offset) size at (at + 12) (omega (arith, fits, len3)) (omega (arith, len3)) b size_put in
    let d : five ≡ put room at ((((cpu ++ sub) ++ offset) ++ size) ++ last) = put_next room four five (((cpu ++ sub) ++ offset) ++ size) last at (at + 16) (omega (arith, fits, len4)) (omega (arith, len4)) c last_put in
    d ∙ ap (λ (xs : List ℕ). put room at xs) (append_assoc ((cpu ++ sub) ++ offset) size last ∙ append_assoc (cpu ++ sub) offset (size ++ last) ∙ append_assoc cpu sub (offset ++ (size ++ last)))

-- header and records
pub head_written : (room one two three : List ℕ) (slices : List Slice) → 8 ≤ length room → one ≡ put room 0 (big_bytes 4 FAT_MAGIC) → two ≡ put one 4 (big_bytes 4 (length slices)) → three ≡ put two 8 (flat_map record_bytes slices)
    → three ≡ put room 0 (head slices)
head_written room one two three slices fits magic_put count_put records_put =
    let magic : List ℕ = big_bytes 4 FAT_MAGIC in
    let count : List ℕ = big_bytes 4 (length slices) in
    let records : List ℕ = flat_map record_bytes slices in
    let len1 : length magic ≡ 4 = length_number FAT_MAGIC in
    let len2 : length (magic ++ count) ≡ 8 = omega (arith, length-append magic count, len1, length_number (length slices)) in
    let a : two ≡ put room 0 (magic ++ count) = put_next room one two magic count 0 4 (omega (arith, fits, len1)) (omega (arith, len1)) magic_put count_put in
    let b : three ≡ put room 0 ((magic ++ count) ++ records) = put_next room two three (magic ++ count) records 0 8 (omega (arith, fits, len2)) (omega (arith, len2)) a records_put in
    b ∙ ap (λ (xs : List ℕ). put room 0 xs) (append_assoc magic count records)

-- the record of a part is put before those that are left
pub record_put : (parts : List Appended) (i : ℕ) (d : Appended) (room new all : List ℕ) (at end offset next : ℕ) → i < length parts → at + 20 ≤ length room → offset ≡ page_end end → next ≡ offset + (get_or parts i d).size
    → new ≡ put room at (record_bytes (slice_from (get_or parts i d) offset)) → put room at (flat_map record_bytes (placed end (drop i parts))) ≡ all
    → put new (at + 20) (flat_map record_bytes (placed next (drop (i + 1) parts))) ≡ all
record_put parts i d room new all at end offset next lt fits page behind is so_far =
    let p : Appended = get_or parts i d in
    let s : Slice = slice_from p offset in
    let rest : List ℕ = flat_map record_bytes (placed next (drop (i + 1) parts)) in
    let len = length_record s in
    let one : drop i parts ≡ p ∷ drop (i + 1) parts = drop-cons parts i d lt ∙ ap (λ (n : ℕ). p ∷ drop n parts) (sym (add-one i)) in
    let first : flat_map record_bytes (placed end (drop i parts)) ≡ record_bytes (slice_from p (page_end end)) ++ flat_map record_bytes (placed (page_end end + p.size) (drop (i + 1) parts)) = ap (λ (ps : List Appended). flat_map record_bytes (placed end ps)) one in
    let moved : record_bytes (slice_from p (page_end end)) ++ flat_map record_bytes (placed (page_end end + p.size) (drop (i + 1) parts)) ≡ record_bytes s ++ rest =
    ap (λ (n : ℕ). record_bytes (slice_from p n) ++ flat_map record_bytes (placed (n + p.size) (drop (i + 1) parts))) (sym page) ∙ ap (λ (n : ℕ). record_bytes s ++ flat_map record_bytes (placed n (drop (i + 1) parts))) (sym behind) in
    put_next room new (put new (at + 20) rest) (record_bytes s) rest at (at + 20) (omega (arith, fits, len)) (omega (arith, len)) is refl ∙ ap (λ (xs : List ℕ). put room at xs) (sym (first ∙ moved)) ∙ so_far

-- ---- the file that was made in place

-- what is put at the front of zeros
front_put : (h rest : List ℕ) (n : ℕ) → length h ≤ n → put (replicate n 0 ++ rest) 0 h ≡ h ++ (replicate (n - length h) 0 ++ rest)
front_put h rest n le =
    let len = length-replicate {A = ℕ} n 0 in
    let first : 0 + length h ≡ length h = omega arith in
    ap (λ (k : ℕ). h ++ drop k (replicate n 0 ++ rest)) first
    ∙ ap (λ (xs : List ℕ). h ++ xs) (drop-append-le (length h) (replicate n 0) rest (omega (arith, le, len)) ∙ ap (λ (xs : List ℕ). xs ++ rest) (drop-replicate (length h) n 0))

pub length_joined_places : (parts : List Thin) → length (slices_joined parts) ≡ length parts
length_joined_places parts = length_placed (head_size (length (map appended parts))) (map appended parts) ∙ length-map parts appended

-- a first part behind a page of zeros stands where it stands behind header and records
pub head_put : (p : Thin) (parts : List Thin) → length (p ∷ parts) ≤ 16 → put (unheaded (p ∷ parts)) 0 (head (slices_joined (p ∷ parts))) ≡ joined (p ∷ parts)
head_put p parts few =
    let count : ℕ = length (p ∷ parts) in
    let h : List ℕ = head (slices_joined (p ∷ parts)) in
    let len : length h ≡ head_size count = length_head (slices_joined (p ∷ parts)) ∙ ap head_size (length_joined_places (p ∷ parts)) in
    let page : page_end (head_size count) ≡ 0x1000 = head_page count (omega arith) few in
    front_put h (p.bytes ++ paged (0x1000 + length p.bytes) parts) 0x1000 (omega (arith, len, few))
    ∙ ap (λ (n : ℕ). h ++ (replicate (0x1000 - n) 0 ++ (p.bytes ++ paged (0x1000 + length p.bytes) parts))) len
    ∙ ap (λ (n : ℕ). h ++ (replicate (n - head_size count) 0 ++ (p.bytes ++ paged (n + length p.bytes) parts))) (sym page)

pub made : (file new : List ℕ) (parts : List Appended) (thin : List Thin) → length parts ≤ 16 → new ≡ put file 0 (head (places parts)) → 1 ≤ length thin → map appended thin ≡ parts → file ≡ unheaded thin → new ≡ joined thin
made file new parts [] few is some same was = absurd (omega (arith, some))
made file new parts (p ∷ thin) few is some same was =
    is ∙ ap (λ (xs : List ℕ). put xs 0 (head (places parts))) was ∙ ap (λ (ps : List Appended). put (unheaded (p ∷ thin)) 0 (head (places ps))) (sym same)
    ∙ head_put p thin (omega (arith, few, ap length same, length-map (p ∷ thin) appended))

-- it is as long as the joined file
pub length_unheaded : (parts : List Thin) → 1 ≤ length parts → length parts ≤ 16 → length (unheaded parts) ≡ length (joined parts)
length_unheaded [] some few = absurd (omega (arith, some))
length_unheaded (p ∷ parts) some few =
    let h : List ℕ = head (slices_joined (p ∷ parts)) in
    let len : length h ≡ head_size (length (p ∷ parts)) = length_head (slices_joined (p ∷ parts)) ∙ ap head_size (length_joined_places (p ∷ parts)) in
    let fits : 0 + length h ≤ length (unheaded (p ∷ parts)) = omega (arith, len, few, length-append (replicate 0x1000 0) (paged 0x1000 (p ∷ parts)), length-replicate {A = ℕ} 0x1000 0) in
    sym (length-put (unheaded (p ∷ parts)) h 0 fits) ∙ ap length (head_put p parts few)

-- each part of a file of less than 2^32 bytes has as few
pub parts_small : (parts : List Thin) → length (joined parts) < 2 ^ 32 → All (λ (p : Thin). length p.bytes < 2 ^ 32) parts
parts_small parts small =
    let len : length (head (slices_joined parts)) ≡ head_size (length parts) = length_head (slices_joined parts) ∙ ap head_size (length_joined_places parts) in
    All-from_recursion (λ (p : Thin). length p.bytes < 2 ^ 32) parts (parts_fit parts (head_size (length parts)) (omega (arith, small, len, length-append (head (slices_joined parts)) (paged (head_size (length parts)) parts))))

-- the length of the file
pub length_joined : (parts : List Thin) → length (joined parts) ≡ head_size (length parts) + length (paged (head_size (length parts)) parts)
length_joined parts = length-append (head (slices_joined parts)) (paged (head_size (length parts)) parts) ∙ ap (λ (n : ℕ). n + length (paged (head_size (length parts)) parts)) (length_head (slices_joined parts) ∙ ap head_size (length_joined_places parts))
