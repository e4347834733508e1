-- Numbers that are written are read.
use Rattle.std.proofs.Common.{◌≡◌, ℕ, ◌+◌, ◌-◌, ◌*◌, ◌<◌, ◌≤◌, ◌^◌, List, [], ◌∷◌, ◌++◌, length, drop, nat_lt, false, Ok, refl, sym, ap, ◌∙◌, arith, append_assoc, length-append}
use Rattle.std.specs.List.{flat_map}
use Rattle.std.proofs.lemmas.Bool.{le-ltb}
use Rattle.std.proofs.lemmas.List.{drop_at}
use Rattle.std.proofs.lemmas.Grind.{flat_map-append}
use Rattle.byteorder.specs.Endian.{little_number}
use Rattle.byteorder.specs.Numbers.{little_number-reads_back, length-bytes_low_first}
use Rattle.accel_tables.specs.Found.{number_in}
use Rattle.accel_tables.specs.Table.{word}

-- the number in bytes that stand there
pub number_is : (k n place : ℕ) (table : List ℕ) → place + k ≤ length table → little_number k (drop place table) ≡ n → number_in k table place ≡ Ok n
unfolding number_in
number_is k n place table within is =
    let room : nat_lt (length table - place) k ≡ false = le-ltb (length table - place) k (omega (arith, within)) in
    rw (room, is) refl

pub number_at : (k n place : ℕ) (table front w after : List ℕ) → table ≡ front ++ (w ++ after) → place ≡ length front → length w ≡ k → little_number k (w ++ after) ≡ n → number_in k table place ≡ Ok n
number_at k n place table front w after is here size value =
    number_is k n place table
    (let all : length table ≡ length front + length (w ++ after) = ap length is ∙ length-append front (w ++ after) in omega (arith, all, length-append w after, here, size))
    (ap (λ (xs : List ℕ). little_number k (drop place xs)) is ∙ ap (little_number k) (drop_at front (w ++ after) place (sym here)) ∙ value)

pub word_at : (n place : ℕ) (table front after : List ℕ) → table ≡ front ++ (word n ++ after) → place ≡ length front → n < 2 ^ 32 → number_in 4 table place ≡ Ok n
word_at n place table front after is here small =
    number_at 4 n place table front (word n) after is here (length-bytes_low_first 0 4 n) (little_number-reads_back 4 n after (omega (arith, small)))

pub length_words : {A : Type 0} (f : A → ℕ) (xs : List A) → length (flat_map (λ x. word (f x)) xs) ≡ 4 * length xs
length_words f [] = refl
length_words f (x ∷ xs) = let rest : length (flat_map (λ y. word (f y)) xs) ≡ 4 * length xs = length_words f xs in omega (arith, rest, length-append (word (f x)) (flat_map (λ y. word (f y)) xs))

-- the number of an item among others
pub words_at : {A : Type 0} (f : A → ℕ) (done : List A) (x : A) (more : List A) (place : ℕ) (table front after : List ℕ) → table ≡ front ++ (flat_map (λ y. word (f y)) (done ++ x ∷ more) ++ after) → place ≡ length front + 4 * length done → f x < 2 ^ 32
    → number_in 4 table place ≡ Ok (f x)
words_at {A} f done x more place table front after is here small =
    let before : List ℕ = flat_map (λ y. word (f y)) done in
    let behind : List ℕ = flat_map (λ y. word (f y)) more in
    word_at (f x) place table (front ++ before) (behind ++ after)
    (is ∙ ap (λ (xs : List ℕ). front ++ (xs ++ after)) (flat_map-append (λ y. word (f y)) done (x ∷ more))
    ∙ ap (λ (xs : List ℕ). front ++ xs) (append_assoc before (word (f x) ++ behind) after ∙ ap (λ (xs : List ℕ). before ++ xs) (append_assoc (word (f x)) behind after))
    ∙ sym (append_assoc front before (word (f x) ++ (behind ++ after))))
    (omega (arith, here, length-append front before, length_words f done)) small
