-- Bytes behind bytes, bytes at the front of a room, and a field in the midst of bytes that is filled in.
use Rattle.std.proofs.Common.{◌<◌, get_or, suc, add-one, drop-cons, ◌≡◌, ◌+◌, ◌-◌, ◌≤◌, ◌++◌, ◌∙◌, ℕ, ◌∷◌, [], List, length, take, drop, ap, sym, append_assoc, length-append, arith}
use Rattle.std.proofs.lemmas.List.{drop_at, take_at}
use Rattle.std.specs.List.{flat_map}
use Rattle.byteorder.specs.Endian.{little_bytes}
use Rattle.ds_base.specs.Room.{put}

-- what stands at the front of a room
pub take_front : (room bytes new : List ℕ) (len : ℕ) → new ≡ put room 0 bytes → length bytes ≡ len → take len new ≡ bytes
take_front room bytes new len is same = ap (take len) is ∙ take_at bytes (drop (0 + length bytes) room) len same

-- a list that was lent, and came back as long as it was
pub lent : (was became : List ℕ) → length became ≡ length was → take (length was) (became ++ drop (length became) was) ≡ became
lent was became same = take_at became (drop (length became) was) (length was) same

-- bytes put in the place of others of their length
pub put_instead : (before field behind bytes : List ℕ) (at : ℕ) → length before ≡ at → length field ≡ length bytes → put (before ++ (field ++ behind)) at bytes ≡ before ++ (bytes ++ behind)
put_instead before field behind bytes at place same =
    let seam : length (before ++ field) ≡ at + length bytes = omega (arith, length-append before field, place, same) in
    let front : take at (before ++ (field ++ behind)) ≡ before = take_at before (field ++ behind) at place in
    let rest : drop (at + length bytes) (before ++ (field ++ behind)) ≡ behind =
    ap (drop (at + length bytes)) (sym (append_assoc before field behind)) ∙ drop_at (before ++ field) behind (at + length bytes) seam in
    ap (λ (xs : List ℕ). xs ++ (bytes ++ drop (at + length bytes) (before ++ (field ++ behind)))) front ∙ ap (λ (xs : List ℕ). before ++ (bytes ++ xs)) rest

-- a field of four bytes that is filled in with the length of what stands behind it
pub length_filled : (before field behind out new : List ℕ) (at : ℕ) → at ≡ length before → out ≡ before ++ (field ++ behind) → length field ≡ 4 → new ≡ put out at (little_bytes 4 (length out - at - 4))
    → new ≡ before ++ (little_bytes 4 (length behind) ++ behind)
length_filled before field behind out new at place was four is =
    let count : length out - at - 4 ≡ length behind = omega (arith, place, four, ap length was, length-append before (field ++ behind), length-append field behind) in
    is ∙ ap (λ (n : ℕ). put out at (little_bytes 4 n)) count ∙ ap (λ (xs : List ℕ). put xs at (little_bytes 4 (length behind))) was
    ∙ put_instead before field behind (little_bytes 4 (length behind)) at (sym place) four

-- one piece is appended behind the other
pub append_more : (old mid new xs ys : List ℕ) → mid ≡ old ++ xs → new ≡ mid ++ ys → new ≡ old ++ (xs ++ ys)
append_more old mid new xs ys one two = two ∙ ap (λ (front : List ℕ). front ++ ys) one ∙ append_assoc old xs ys

-- a loop appends the bytes of item i; what is left makes the rest
pub append_item : {A : Type 0} (bytes_of : A → List ℕ) (items : List A) (i : ℕ) (d : A) (out new all : List ℕ) → i < length items → new ≡ out ++ bytes_of (get_or items i d)
    → out ++ flat_map bytes_of (drop i items) ≡ all → new ++ flat_map bytes_of (drop (i + 1) items) ≡ all
append_item bytes_of items i d out new all lt one so_far =
    let rest = flat_map bytes_of (drop (i + 1) items) in
    let cut : flat_map bytes_of (drop i items) ≡ bytes_of (get_or items i d) ++ rest =
    ap (flat_map bytes_of) (drop-cons items i d lt) ∙ ap (λ (n : ℕ). bytes_of (get_or items i d) ++ flat_map bytes_of (drop n items)) (sym (add-one i)) in
    ap (λ (front : List ℕ). front ++ rest) one ∙ append_assoc out (bytes_of (get_or items i d)) rest ∙ ap (λ (bytes : List ℕ). out ++ bytes) (sym cut) ∙ so_far
