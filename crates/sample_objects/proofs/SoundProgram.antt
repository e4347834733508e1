-- The image of the generated program is sound.
use Rattle.std.proofs.Common.{◌≡◌, ◌≤◌, ◌<◌, ◌^◌, ◌+◌, ◌*◌, ◌==◌, ◌||◌, ◌%◌, ℕ, zero, suc, Bool, true, false, List, [], ◌∷◌, ◌++◌, codes, length, filter, if◌then◌else◌, Ok, arith, refl, length-append}
use Rattle.std.specs.Fmt.{decimal}
use Rattle.std.specs.List.{AllByRecursion, flat_map, list_any, range_with_len}
use Rattle.std.proofs.lemmas.Bool.{ne_eqb}
use Rattle.std.proofs.lemmas.Fmt.{decimal_by_steps}
use Rattle.std.proofs.lemmas.List.Elements.{All-from_recursion}
use Rattle.macho_read.specs.declared.image.Symbol.{Symbol}
use Rattle.macho_read.specs.declared.kind.Role.TheVariants as roles
use Rattle.macho_read.specs.Kind.{kind_of}
use Rattle.macho_read.specs.Sound.{IsSound, IsSoundSection, IsSoundSegment, IsSoundSymbol}
use Rattle.sample_objects.specs.GeneratedProgram.{code_section, function_stabs, is_linked, linked_numbers, object_stabs, path_of, program_of, symbol_name, text_segment}
use Rattle.sample_objects.specs.GeneratedUnit.{all_numbers}

-- ---- names without a zero byte

abbrev has_zero : List ℕ → Bool
has_zero bytes = list_any (λ b. b == 0) bytes

none_in : (xs ys : List ℕ) → has_zero xs ≡ false → has_zero ys ≡ false → has_zero (xs ++ ys) ≡ false
none_in [] ys h k = k
none_in (x ∷ xs) ys h k = by (x == 0) h (none_in xs ys)
  where
    by : (b : Bool) → (b || has_zero xs) ≡ false → (has_zero xs ≡ false → has_zero ys ≡ false → has_zero (xs ++ ys) ≡ false) → (b || has_zero (xs ++ ys)) ≡ false
    by true e f = e
    by false e f = f e k

digit_is_some : (n : ℕ) → has_zero ((48 + n) ∷ []) ≡ false
digit_is_some n = let e : ((48 + n) == 0) ≡ false = ne_eqb (48 + n) 0 (λ h. omega (arith, h)) in rw e refl

decimal_none : (n : ℕ) → n < 2 ^ 64 → has_zero (decimal n) ≡ false
decimal_none n small =
    decimal_by_steps (λ (m : ℕ) (ds : List ℕ). has_zero ds ≡ false) (λ m one. digit_is_some m) (λ m ds some h. none_in ds ((48 + m % 10) ∷ []) h (digit_is_some (m % 10))) n small

symbol_none : (i j : ℕ) → i ≤ 1000 → j < 100 → has_zero (symbol_name i j) ≡ false
symbol_none i j object number =
    none_in (decimal i) (codes "_" ++ decimal j) (decimal_none i (omega (arith, object))) (decimal_none j (omega (arith, number)))

path_none : (i : ℕ) → i ≤ 1000 → has_zero (path_of i) ≡ false
path_none i object = none_in (decimal i) (codes ".o") (decimal_none i (omega (arith, object))) refl

-- ---- symbols

abbrev AreSound : List Symbol → Type 0
AreSound symbols = AllByRecursion IsSoundSymbol symbols

joined : (xs ys : List Symbol) → AreSound xs → AreSound ys → AreSound (xs ++ ys)
joined [] ys h k = k
joined (x ∷ xs) ys h k = (h.0, joined xs ys h.1 k)

functions_sound : (i : ℕ) → i ≤ 1000 → (n a : ℕ) → a + n ≤ 100 → AreSound (flat_map (function_stabs i) (filter is_linked (range_with_len a n)))
functions_sound i object zero a fits = tt
functions_sound i object (suc n) a fits = by (is_linked a) (functions_sound i object n (a + 1) (omega (arith, fits)))
  where
    by : (b : Bool) → AreSound (flat_map (function_stabs i) (filter is_linked (range_with_len (a + 1) n)))
        → AreSound (flat_map (function_stabs i) (if b then a ∷ filter is_linked (range_with_len (a + 1) n) else filter is_linked (range_with_len (a + 1) n)))
    by true h = (symbol_none i a object (omega (arith, fits)), (refl, h))
    by false h = h

object_sound : (i : ℕ) → i ≤ 1000 → AreSound (object_stabs i)
unfolding all_numbers
object_sound i object = (path_none i object, functions_sound i object 100 0 (omega arith))

symbols_sound : (n a : ℕ) → a + n ≤ 1001 → AreSound (flat_map object_stabs (range_with_len a n))
symbols_sound zero a fits = tt
symbols_sound (suc n) a fits = joined (object_stabs a) (flat_map object_stabs (range_with_len (a + 1) n)) (object_sound a (omega (arith, fits))) (symbols_sound n (a + 1) (omega (arith, fits)))

-- ---- how many

stabs_len : (i : ℕ) (numbers : List ℕ) → length (flat_map (function_stabs i) numbers) ≡ 2 * length numbers
stabs_len i [] = refl
stabs_len i (j ∷ numbers) = let h = stabs_len i numbers in omega (arith, h)

kept_few : (n a : ℕ) → length (filter is_linked (range_with_len a n)) ≤ n
kept_few zero a = omega arith
kept_few (suc n) a = by (is_linked a) (kept_few n (a + 1))
  where
    by : (b : Bool) → length (filter is_linked (range_with_len (a + 1) n)) ≤ n → length (if b then a ∷ filter is_linked (range_with_len (a + 1) n) else filter is_linked (range_with_len (a + 1) n)) ≤ suc n
    by true h = omega (arith, h)
    by false h = omega (arith, h)

linked_few : length linked_numbers ≤ 100
unfolding all_numbers
linked_few = kept_few 100 0

symbols_few : (n a : ℕ) → length (flat_map object_stabs (range_with_len a n)) ≤ 201 * n
symbols_few zero a = omega arith
symbols_few (suc n) a =
    omega (arith, length-append (object_stabs a) (flat_map object_stabs (range_with_len (a + 1) n)), stabs_len a linked_numbers, linked_few, symbols_few n (a + 1))

-- ---- the image

segment_sound : IsSoundSegment text_segment
segment_sound = record { name = omega arith; end = λ other. omega arith }

section_sound : IsSoundSection code_section
section_sound = record { name = omega arith; segment = omega arith }

pub program_sound : (count : ℕ) → count ≤ 1000 → IsSound (program_of count)
program_sound count few =
    record {
      counts = refl;
      segments = All-from_recursion IsSoundSegment (text_segment ∷ []) (segment_sound, tt);
      sections = All-from_recursion IsSoundSection (code_section ∷ []) (section_sound, tt);
      symbols = All-from_recursion IsSoundSymbol (program_of count).symbols (symbols_sound count 1 (omega (arith, few)));
      few = omega (arith, symbols_few count 1, few);
      few_sections = omega arith;
    }

-- it has the kind of a program
pub program_kind : (count : ℕ) → kind_of (program_of count) roles.Program ≡ Ok tt
program_kind count = refl
