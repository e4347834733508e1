-- Four bytes hashed at once.
use Rattle.std.proofs.Common.{◌≡◌, ℕ, ◌+◌, ◌*◌, ◌%◌, ◌^◌, ◌<◌, ◌≤◌, List, [], ◌∷◌, length, drop, get_or, sym, ap, ◌∙◌, arith}
use Rattle.std.proofs.lemmas.Nat.{mul-mod_first, mul-mod_second}
use Rattle.std.proofs.Math.Nat.{add-mod-mod, mod-add-mod}
use Rattle.std.proofs.lemmas.List.{drop_more}
use Rattle.type_names.specs.Start.{hash_from}

-- the factor of a byte, its powers, and where a hash is cut
abbrev p : ℕ
p = 0x9e3779b97f4a7c15

abbrev p2 : ℕ
p2 = p * p

abbrev p3 : ℕ
p3 = p * p * p

abbrev p4 : ℕ
p4 = p * p * p * p

abbrev m : ℕ
m = 2 ^ 64

-- what was hashed before need not be cut
byte_cut : (x c : ℕ) → (x % m + c) * p % m ≡ (x + c) * p % m
byte_cut x c = sym (mul-mod_first (x % m + c) p m) ∙ ap (λ (y : ℕ). y * p % m) (mod-add-mod x m c) ∙ mul-mod_first (x + c) p m

by_powers : (h a b c d : ℕ) → hash_from h (a ∷ b ∷ c ∷ d ∷ []) ≡ (h * p4 + ((a * p4 + b * p3) + (c * p2 + d * p))) % m
unfolding hash_from
by_powers h a b c d =
    ap (λ (x : ℕ). ((x + c) * p % m + d) * p % m) (byte_cut ((h + a) * p) b)
    ∙ ap (λ (x : ℕ). (x + d) * p % m) (byte_cut (((h + a) * p + b) * p) c)
    ∙ byte_cut ((((h + a) * p + b) * p + c) * p) d
    ∙ ap (λ (x : ℕ). x % m) (let e : ((((h + a) * p + b) * p + c) * p + d) * p ≡ h * p4 + ((a * p4 + b * p3) + (c * p2 + d * p)) = omega arith in e)

-- sums may be cut on the way
sum_cut : (x y : ℕ) → (x % m + y % m) % m ≡ (x + y) % m
sum_cut x y = add-mod-mod (x % m) y m ∙ mod-add-mod x m y

sums_cut : (x y z u v : ℕ) → (x % m + ((y % m + z % m) % m + (u % m + v % m) % m) % m) % m ≡ (x + ((y + z) + (u + v))) % m
sums_cut x y z u v =
    ap (λ (s : ℕ). (x % m + s) % m) ((λ i. (sum_cut y z i + sum_cut u v i) % m) ∙ sum_cut (y + z) (u + v)) ∙ sum_cut x ((y + z) + (u + v))

-- and so may powers
pub four_at_once : (h a b c d : ℕ) → (h * (p4 % m) % m + ((a * (p4 % m) % m + b * (p3 % m) % m) % m + (c * (p2 % m) % m + d * p % m) % m) % m) % m ≡ hash_from h (a ∷ b ∷ c ∷ d ∷ [])
four_at_once h a b c d =
    (λ i. (mul-mod_second h p4 m i + ((mul-mod_second a p4 m i + mul-mod_second b p3 m i) % m + (mul-mod_second c p2 m i + d * p % m) % m) % m) % m)
    ∙ sums_cut (h * p4) (a * p4) (b * p3) (c * p2) (d * p)
    ∙ sym (by_powers h a b c d)

-- ---- four by four

four_at : (bytes : List ℕ) (at : ℕ) → at + 4 ≤ length bytes → drop at bytes ≡ get_or bytes at 0 ∷ get_or bytes (at + 1) 0 ∷ get_or bytes (at + 2) 0 ∷ get_or bytes (at + 3) 0 ∷ drop (at + 4) bytes
four_at bytes at within =
    one at (at + 1) (omega arith) (omega arith)
    ∙ ap (λ (xs : List ℕ). get_or bytes at 0 ∷ xs) (one (at + 1) (at + 2) (omega arith) (omega arith)
    ∙ ap (λ (xs : List ℕ). get_or bytes (at + 1) 0 ∷ xs) (one (at + 2) (at + 3) (omega arith) (omega arith)
    ∙ ap (λ (xs : List ℕ). get_or bytes (at + 2) 0 ∷ xs) (one (at + 3) (at + 4) (omega arith) (omega arith)))) where
      one : (i j : ℕ) → i < length bytes → j ≡ i + 1 → drop i bytes ≡ get_or bytes i 0 ∷ drop j bytes
      one i j within next = drop_more bytes i 0 within ∙ ap (λ (n : ℕ). get_or bytes i 0 ∷ drop n bytes) (sym next)

-- what is left, after four bytes more
pub fours_more : (state new at whole : ℕ) (bytes : List ℕ) → at + 4 ≤ length bytes → new ≡ hash_from state (get_or bytes at 0 ∷ get_or bytes (at + 1) 0 ∷ get_or bytes (at + 2) 0 ∷ get_or bytes (at + 3) 0 ∷ [])
    → hash_from state (drop at bytes) ≡ whole → hash_from new (drop (at + 4) bytes) ≡ whole
unfolding hash_from
fours_more state new at whole bytes within next so_far =
    ap (λ (x : ℕ). hash_from x (drop (at + 4) bytes)) next ∙ sym (ap (hash_from state) (four_at bytes at within)) ∙ so_far
