-- A room that is filled from the front, piece by piece.
use Rattle.std.proofs.Common.{◌≡◌, ◌<◌, ◌+◌, ◌++◌, ℕ, List, [], ◌∷◌, length, take, drop, get_or, append_assoc, append-nil, take_all, arith, refl, ◌≤◌, sym, ap, ◌∙◌, length-append}
use Rattle.std.proofs.lemmas.List.{take_at, length-take-le, length-drop, take_more, take-append-drop}
use Rattle.std.proofs.lemmas.List.Concat.{flat_map-append}
use Rattle.std.specs.List.{flat_map}
use Rattle.ds_base.specs.Room.{Adds, put}

pub length-put : (room xs : List ℕ) (at : ℕ) → at + length xs ≤ length room → length (put room at xs) ≡ length room
length-put room xs at fits =
    omega (arith, fits, length-append (take at room) (xs ++ drop (at + length xs) room), length-append xs (drop (at + length xs) room), length-take-le at room (omega (arith, fits)), length-drop (at + length xs) room)

-- what was put stands there
pub put_adds : (old bytes new : List ℕ) (at next : ℕ) → at + length bytes ≤ length old → new ≡ put old at bytes → next ≡ at + length bytes → Adds old at bytes new next
put_adds old bytes new at next fits is ends =
    let front = take at old ++ bytes in
    let rest = drop (at + length bytes) old in
    let seam : length front ≡ at + length bytes = length-append (take at old) bytes ∙ ap (λ n. n + length bytes) (length-take-le at old (omega arith)) in
    let whole : put old at bytes ≡ front ++ rest = sym (append_assoc (take at old) bytes rest) in
    record {
      size = ap length is ∙ length-put old bytes at fits;
      written = rw (is, ends, whole, take_at front rest (at + length bytes) seam) refl;
      behind = ends;
    }

-- nothing is added
pub adds_none : (old : List ℕ) (at : ℕ) → Adds old at [] old at
adds_none old at = record { size = refl; written = sym (append-nil (take at old)); behind = omega arith }

-- one piece behind the other
pub adds_more : (old mid new xs ys : List ℕ) (at n next : ℕ) → Adds old at xs mid n → Adds mid n ys new next → Adds old at (xs ++ ys) new next
adds_more old mid new xs ys at n next one two =
    record {
      size = two.size ∙ one.size;
      written = two.written ∙ ap (λ (front : List ℕ). front ++ ys) one.written ∙ append_assoc (take at old) xs ys;
      behind = omega (arith, one.behind, two.behind, length-append xs ys);
    }

-- the same bytes, said otherwise
pub adds_same : (old xs ys new : List ℕ) (at next : ℕ) → xs ≡ ys → Adds old at xs new next → Adds old at ys new next
adds_same old xs ys new at next same h = rw (← same) h

-- a room that is filled from its first byte to its last is what was written
pub adds_whole : (old bytes new : List ℕ) (next : ℕ) → length old ≡ length bytes → Adds old 0 bytes new next → new ≡ bytes
adds_whole old bytes new next fits h =
    let all : next ≡ length new = omega (arith, h.behind, h.size, fits) in
    sym (take_all next new (omega (arith, all))) ∙ h.written

-- of the bytes of a list's items, those of item i stand behind those of the items before it
module _ {A : Type 0} (bytes_of : A → List ℕ) (items : List A) (i : ℕ) (d : A) (lt : i < length items) where
  pub next_item : flat_map bytes_of (take (i + 1) items) ≡ flat_map bytes_of (take i items) ++ bytes_of (get_or items i d)
  next_item =
      ap (flat_map bytes_of) (take_more items i d lt) ∙ flat_map-append bytes_of (take i items) (get_or items i d ∷ [])
      ∙ ap (λ (bytes : List ℕ). flat_map bytes_of (take i items) ++ bytes) (append-nil (bytes_of (get_or items i d)))

  -- and inside those of all
  pub item_fits : length (flat_map bytes_of (take i items)) + length (bytes_of (get_or items i d)) ≤ length (flat_map bytes_of items)
  item_fits =
      let cut : items ≡ take (i + 1) items ++ drop (i + 1) items = sym (take-append-drop (i + 1) items) in
      let whole : flat_map bytes_of items ≡ flat_map bytes_of (take (i + 1) items) ++ flat_map bytes_of (drop (i + 1) items) =
      ap (flat_map bytes_of) cut ∙ flat_map-append bytes_of (take (i + 1) items) (drop (i + 1) items) in
      omega (
        arith,
        ap length whole,
        length-append (flat_map bytes_of (take (i + 1) items)) (flat_map bytes_of (drop (i + 1) items)),
        ap length next_item,
        length-append (flat_map bytes_of (take i items)) (bytes_of (get_or items i d)),
      )

  -- a loop writes item i
  pub adds_item : (old mid new : List ℕ) (at n next : ℕ) → Adds old at (flat_map bytes_of (take i items)) mid n → Adds mid n (bytes_of (get_or items i d)) new next → Adds old at (flat_map bytes_of (take (i + 1) items)) new next
  adds_item old mid new at n next before one =
      adds_same old (flat_map bytes_of (take i items) ++ bytes_of (get_or items i d)) (flat_map bytes_of (take (i + 1) items)) new at next (sym next_item)
      (adds_more old mid new (flat_map bytes_of (take i items)) (bytes_of (get_or items i d)) at n next before one)
