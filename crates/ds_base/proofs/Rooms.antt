-- A room that is written piece by piece, from the front.
use Rattle.std.proofs.Common.{◌≡◌, ◌<◌, ◌+◌, ◌-◌, ◌/◌, ◌++◌, ℕ, suc, Bool, List, [], ◌∷◌, length, take, drop, set, append_assoc, arith, refl, ◌≤◌, sym, ap, ◌∙◌, length-append, add_assoc}
use Rattle.std.proofs.lemmas.List.{take_more_set, drop-set-lt, set_split, take_at, drop_at, drop-drop, length-take-le}
use Rattle.ds_base.specs.Leb.{digit, leb_digits}
use Rattle.ds_base.specs.Room.{put}

put-set : (room : List ℕ) (at b : ℕ) (bs : List ℕ) → at < length room → put (set room at b) (at + 1) bs ≡ put room at (b ∷ bs)
put-set room at b bs within =
    let behind : at < at + 1 + length bs = omega arith in
    let same : at + 1 + length bs ≡ at + suc (length bs) = omega arith in
    rw (take_more_set room at b within, drop-set-lt (at + 1 + length bs) room at b behind, same) (append_assoc (take at room) (b ∷ []) (bs ++ drop (at + suc (length bs)) room))

set_is_put : (room : List ℕ) (at b : ℕ) → at < length room → set room at b ≡ put room at (b ∷ [])
set_is_put room at b within =
    let one : suc at ≡ at + suc 0 = omega arith in
    rw (set_split room at b within, one) refl

-- the room that all digits make, once one more is written, and once the last is

pub digits_put : (room all : List ℕ) (at i len left b : ℕ) (flip : Bool) → i + 1 < len → at + i < length room → b ≡ digit flip left
    → put room (at + i) (leb_digits flip (len - i) left) ≡ all
    → put (set room (at + i) (b + 128)) (at + (i + 1)) (leb_digits flip (len - (i + 1)) (left / 128)) ≡ all
digits_put room all at i len left b flip more within is so_far =
    let now : len - i ≡ suc (suc (len - i - 2)) = omega arith in
    let next : len - (i + 1) ≡ suc (len - i - 2) = omega arith in
    let place : at + (i + 1) ≡ at + i + 1 = omega arith in
    rw (next, place, put-set room (at + i) (b + 128) (leb_digits flip (suc (len - i - 2)) (left / 128)) within, is) (rw now at so_far)

pub last_digit_put : (room all : List ℕ) (at i len left b : ℕ) (flip : Bool) → i + 1 ≡ len → at + i < length room → b ≡ digit flip left
    → put room (at + i) (leb_digits flip (len - i) left) ≡ all
    → set room (at + len - 1) b ≡ all
last_digit_put room all at i len left b flip last within is so_far =
    let one : len - i ≡ suc 0 = omega arith in
    let place : at + len - 1 ≡ at + i = omega arith in
    rw (place, is, set_is_put room (at + i) (digit flip left) within) (rw one at so_far)

-- what is put behind what was put is put with it
pub put-put : (room xs ys : List ℕ) (at : ℕ) → at + length xs ≤ length room → put (put room at xs) (at + length xs) ys ≡ put room at (xs ++ ys)
put-put room xs ys at fits =
    let rest = drop (at + length xs) room in
    let front = take at room ++ xs in
    let seam : length front ≡ at + length xs = length-append (take at room) xs ∙ ap (λ n. n + length xs) (length-take-le at room (omega arith)) in
    let whole : put room at xs ≡ front ++ rest = sym (append_assoc (take at room) xs rest) in
    let far : drop (at + length xs + length ys) (front ++ rest) ≡ drop (at + length (xs ++ ys)) room = rw (
      ← drop-drop (length ys) (at + length xs) (front ++ rest),
      drop_at front rest (at + length xs) seam,
      drop-drop (length ys) (at + length xs) room,
      length-append xs ys,
      ← add_assoc at (length xs) (length ys),
    ) refl in
    rw (whole, take_at front rest (at + length xs) seam, far) (simp append_assoc)
