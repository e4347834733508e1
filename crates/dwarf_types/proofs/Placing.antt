-- Places by steps, and a table of them as it grows.
use Rattle.std.proofs.Common.{inl, inr, take, length-take-le, ap, append_assoc, ◌≡◌, ◌∙◌, ◌+◌, ◌-◌, ℕ, zero, suc, ◌*◌, ◌<◌, ◌≤◌, ◌==◌, List, [], ◌∷◌, ◌++◌, length, get_or, replicate, refl, arith, Some, None, Bool, false}
use Rattle.std.specs.List.{AllPairs, position, position_or_len}
use Rattle.std.proofs.lemmas.Bool.{cases_lt, eq-eqb, le-ltb, lt-ltb, ne_eqb}
use Rattle.std.proofs.lemmas.List.{get_or_append_left, get_or-append_right, get_or_default, get_or_push, get_or-map, get_or-replicate, get_or-take, length-append, length-map, length_push, length-replicate, take_more}
use Rattle.std.proofs.lemmas.List.Quantifiers.{all_pairs_push}
use Rattle.std.proofs.lemmas.List.Sums.{position_or_len_is}
use Rattle.dwarf_types.specs.declared.entry.RawEntry.{RawEntry}
use Rattle.dwarf_types.specs.declared.place_table.TheConstants.{STEP}
use Rattle.dwarf_types.specs.PlaceSteps.{IsTable}
use Rattle.dwarf_types.specs.Raw.{places_of}

abbrev is_at : ℕ → ℕ → Bool
is_at place p = p == place

-- no place is this one
none_there : (places : List ℕ) (place : ℕ) → ((k : ℕ) → k < length places → is_at place (get_or places k 0) ≡ false) → position (is_at place) places ≡ None
none_there places place none =
    let is : position_or_len (is_at place) places ≡ length places = position_or_len_is (is_at place) places (length places) 0 (omega arith) none (λ lt. absurd (omega arith)) in
    rw (is, le-ltb (length places) (length places) (omega arith)) refl

-- those before an index lie before it, and the one there and all behind lie behind it
pub passed_over : (places : List ℕ) (place i : ℕ) → AllPairs (λ p later. p < later) places → ((k : ℕ) → k < i → k < length places → get_or places k 0 < place) → i < length places → place < get_or places i 0 → position (is_at place) places ≡ None
passed_over places place i rise before lt past =
    none_there places place (λ k inside. elim (cases_lt k i) [
      | inl less ↦
          let low = before k less inside in
          ne_eqb (get_or places k 0) place (λ is. omega arith)
      | inr le ↦
          elim (cases_lt i k) [
            | inl later ↦
                let high : get_or places i 0 < get_or places k 0 = rise i k 0 later inside in
                ne_eqb (get_or places k 0) place (λ is. omega arith)
            | inr same ↦
                let there : k ≡ i = omega arith in
                rw there (ne_eqb (get_or places i 0) place (λ is. omega arith))
          ]
    ])

pub found_there : (places : List ℕ) (place i : ℕ) → ((k : ℕ) → k < i → k < length places → get_or places k 0 < place) → i < length places → get_or places i 0 ≡ place → position (is_at place) places ≡ Some i
found_there places place i before lt here =
    let none : (k : ℕ) → k < i → is_at place (get_or places k 0) ≡ false = λ k less. let low = before k less (omega arith) in ne_eqb (get_or places k 0) place (λ is. omega arith) in
    let is : position_or_len (is_at place) places ≡ i = position_or_len_is (is_at place) places i 0 (omega arith) none (λ _. eq-eqb (get_or places i 0) place here) in
    rw (is, lt-ltb i (length places) lt) refl

-- all lie before it
pub all_before : (places : List ℕ) (place : ℕ) → ((k : ℕ) → k < length places → get_or places k 0 < place) → position (is_at place) places ≡ None
all_before places place before =
    none_there places place (λ k lt. let low = before k lt in ne_eqb (get_or places k 0) place (λ is. omega arith))

-- ---- the table as it grows

pub rank_le : (places : List ℕ) → AllPairs (λ p later. p < later) places → (i : ℕ) → i < length places → i ≤ get_or places i 0
rank_le places rise zero lt = omega arith
rank_le places rise (suc i) lt =
    let le = rank_le places rise i (omega arith) in
    let up : get_or places i 0 < get_or places (suc i) 0 = rise i (suc i) 0 (omega arith) lt in
    omega arith

count_there : (before : List ℕ) (k count b : ℕ) → length before ≤ b → b < length (before ++ replicate k count) → get_or (before ++ replicate k count) b 0 ≡ count
count_there before k count b behind lt =
    get_or-append_right before (replicate k count) (length before) b 0 refl behind ∙ get_or-replicate k (b - length before) count 0 (omega (arith, length-append before (replicate k count), length-replicate k count))

steps_more : (places before : List ℕ) (k count : ℕ) → count ≤ length places → IsTable places before → IsTable places (before ++ replicate k count)
steps_more places before k count le t = record {
  rise = t.rise;
  low = λ i lt. let low = t.low i lt in omega (arith, length-append before (replicate k count));
  within = λ b lt. elim (cases_lt b (length before)) [
    | inl less ↦ rw (get_or_append_left before (replicate k count) 0 b less) (t.within b less)
    | inr behind ↦ rw (count_there before k count b behind lt) le
  ];
  steps = λ b i lt inside. elim (cases_lt b (length before)) [
    | inl less ↦ t.steps b i less (rw (get_or_append_left before (replicate k count) 0 b less) at inside)
    | inr behind ↦
        let there : i < count = rw (count_there before k count b behind lt) at inside in
        let low = t.low i (omega arith) in
        omega arith
  ];
}

place_more : (places before : List ℕ) (place : ℕ) → ((i : ℕ) → i < length places → get_or places i 0 < place) → place < STEP * length before → IsTable places before → IsTable (places ++ place ∷ []) before
place_more places before place rising low t = record {
  rise = all_pairs_push (λ p later. p < later) places place t.rise (λ i d lt. rw (get_or_default places i d 0 lt) (rising i lt));
  low = λ i lt. elim (cases_lt i (length places)) [
    | inl less ↦ rw (get_or_append_left places (place ∷ []) 0 i less) (t.low i less)
    | inr last ↦ rw (get_or_push places place 0 i (omega (arith, length_push places place))) low
  ];
  within = λ b lt. let le = t.within b lt in omega (arith, length_push places place);
  steps = λ b i lt inside. let le = t.within b lt in rw (get_or_append_left places (place ∷ []) 0 i (omega arith)) (t.steps b i lt inside);
}

replicate_more : (k count : ℕ) → replicate k count ++ count ∷ [] ≡ replicate (suc k) count
replicate_more zero count = refl
replicate_more (suc k) count = ap (λ (xs : List ℕ). count ∷ xs) (replicate_more k count)

pub one_step_more : (old now : List ℕ) (k count : ℕ) → now ≡ old ++ replicate k count → now ++ count ∷ [] ≡ old ++ replicate (suc k) count
one_step_more old now k count is = ap (λ (xs : List ℕ). xs ++ count ∷ []) is ∙ (append_assoc old (replicate k count) (count ∷ []) ∙ ap (λ (xs : List ℕ). old ++ xs) (replicate_more k count))

-- the steps up to a place are put before that place is counted
pub table_more : (places before : List ℕ) (i k : ℕ) → AllPairs (λ p later. p < later) places → i < length places → get_or places i 0 < STEP * length (before ++ replicate k i)
    → IsTable (take i places) before → IsTable (take (i + 1) places) (before ++ replicate k i)
table_more places before i k rise lt low so_far =
    let place = get_or places i 0 in
    let count : length (take i places) ≡ i = length-take-le i places (omega arith) in
    let behind : (j : ℕ) → j < length (take i places) → get_or (take i places) j 0 < place = λ j inside. rw (get_or-take i places j 0 (omega arith)) (rise j i 0 (omega arith) lt) in
    rw (take_more places i 0 lt) (place_more (take i places) (before ++ replicate k i) place behind low (steps_more (take i places) before k i (omega arith) so_far))

-- the places of entries, each of which stands behind those before it
pub places_rise : (entries : List RawEntry) → AllPairs (λ (e later : RawEntry). e.place < later.place) entries → AllPairs (λ p later. p < later) (places_of entries)
places_rise entries rising i j d lt within =
    let inside : j < length entries = omega (arith, length-map entries (λ (e : RawEntry). e.place)) in
    let none : RawEntry = record { parent = None; unit = 0; place = d; tag = 0; attrs = [] } in
    let first : get_or (places_of entries) i d ≡ (get_or entries i none).place = get_or-map (λ (e : RawEntry). e.place) entries i none d (omega arith) in
    let second : get_or (places_of entries) j d ≡ (get_or entries j none).place = get_or-map (λ (e : RawEntry). e.place) entries j none d inside in
    rw (first, second) (rising i j none lt inside)
