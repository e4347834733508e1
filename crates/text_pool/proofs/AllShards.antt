-- Texts joined one after the other from all shards.
use Rattle.std.proofs.Common.{◌≡◌, ℕ, zero, suc, ◌+◌, ◌-◌, ◌^◌, ◌<◌, ◌≤◌, ◌==◌, Bool, true, false, not, List, [], ◌∷◌, ◌++◌, drop, fold, length, set, slice_get, slice_set, Some, is_some, if◌then◌else◌, refl, sym, ap, subst, ◌∙◌, append_assoc, arith, length-set, map}
use mathlib.Core.Logic.{⊎_elim}
use Rattle.std.specs.Option.{unwrap_or}
use Rattle.std.proofs.lemmas.Bool.{cases_eq, eq-eqb, ne_eqb}
use Rattle.std.proofs.lemmas.Grind.{flat_map-append}
use Rattle.std.proofs.lemmas.List.{append-nil}
use Rattle.std.proofs.lemmas.List.Sums.{fold-append}
use Rattle.std.proofs.lemmas.Option.{same_Some}
use Rattle.ds_base.specs.Texts.{ended, place_of, section_of, with_text}
use Rattle.text_pool.specs.declared.shard.Shard.{Shard}
use Rattle.text_pool.specs.Joins.{AreShards, IsAt, IsJoining, Takes, place_in}
use Rattle.text_pool.specs.Shards.{in_shard, numbers_from, shard_of}
use Rattle.text_pool.proofs.Growing.{long_before, stays}
use Rattle.text_pool.proofs.Numbers.{size_grown}
use Rattle.text_pool.proofs.Uniting.{is_new, left_still, left_then, placed_still, placed_then, told}

-- ---- items at their places

get_some : {X : Type 0} (xs : List X) (i : ℕ) → i < length xs → (x : X) × (slice_get xs i ≡ Some x)
get_some [] i lt = absurd (omega (arith, lt))
get_some (x ∷ xs) zero lt = (x, refl)
get_some (x ∷ xs) (suc i) lt = get_some xs i (omega (arith, lt))

get_set : {X : Type 0} (xs : List X) (i : ℕ) (x : X) → i < length xs → slice_get (set xs i x) i ≡ Some x
get_set [] i x lt = absurd (omega (arith, lt))
get_set (y ∷ xs) zero x lt = refl
get_set (y ∷ xs) (suc i) x lt = get_set xs i x (omega (arith, lt))

get_other : {X : Type 0} (xs : List X) (i j : ℕ) (x : X) → (j ≡ i → ⊥) → slice_get (set xs i x) j ≡ slice_get xs j
get_other [] i j x ne = refl
get_other (y ∷ xs) zero zero x ne = absurd (ne refl)
get_other (y ∷ xs) zero (suc j) x ne = refl
get_other (y ∷ xs) (suc i) zero x ne = refl
get_other (y ∷ xs) (suc i) (suc j) x ne = get_other xs i j x (λ e. ne (ap suc e))

-- ---- before the first text

pub none_joined : (all : List (List ℕ)) (shards : List Shard) (section : List ℕ) → AreShards all shards → section ≡ [] → IsJoining all all shards section
none_joined all shards section are none = record {
  before = [];
  whole = refl;
  some = are.some;
  section_is = none;
  small = omega (arith, ap (λ (bytes : List ℕ). length bytes) none);
  each = λ s it at.
      let fresh = are.each s it at in
      record {
        left = ap (λ (k : ℕ). drop k it.numbers.items) fresh.taken ∙ fresh.numbers;
        placed = fresh.places;
      };
}

-- ---- the next text

module _ (all rest : List (List ℕ)) (t : List ℕ) (shards : List Shard) (section : List ℕ) (joining : IsJoining all (t ∷ rest) shards section) where
  abbrev texts : List (List ℕ)
  texts = fold with_text [] joining.before

  one_more : fold with_text [] (joining.before ++ t ∷ []) ≡ with_text (fold with_text [] joining.before) t
  one_more = fold-append with_text [] joining.before (t ∷ [])

  with_rest : (joining.before ++ t ∷ []) ++ rest ≡ all
  with_rest = append_assoc joining.before (t ∷ []) rest ∙ joining.whole

  abbrev its : ℕ → List ℕ → Bool
  its s = λ u. shard_of (length shards) u == s

  -- its shard has a use of it left
  pub has_left : (s : ℕ) (it : Shard) → s ≡ shard_of (length shards) t → slice_get shards s ≡ Some it → it.taken < length it.numbers.items
  has_left s it is at =
      let own : its s t ≡ true = eq-eqb _ _ (sym is) in
      let left = (joining.each s it at).left ∙ ap (λ (b : Bool). numbers_from (in_shard (length shards) s texts) (if b then t ∷ in_shard (length shards) s rest else in_shard (length shards) s rest)) own in
      within it.numbers.items it.taken _ _ left
    where
      within : (ns : List ℕ) (i n : ℕ) (more : List ℕ) → drop i ns ≡ n ∷ more → i < length ns
      within [] zero n more cut = absurd cc
      within [] (suc i) n more cut = absurd cc
      within (m ∷ ns) zero n more cut = omega arith
      within (m ∷ ns) (suc i) n more cut = omega (arith, within ns i n more cut)

  module _ (s : ℕ) (after : List Shard) (end place : ℕ) (is : s ≡ shard_of (length shards) t) (lt : s < length shards)
      (takes : (it : Shard) → slice_get shards s ≡ Some it → (new : Shard) × (after ≡ slice_set shards s new) × Takes end it new place) (is_end : end ≡ length section) where
    own : its s t ≡ true
    own = eq-eqb _ _ (sym is)

    abbrev old : Shard
    old = (get_some shards s lt).0

    here : slice_get shards s ≡ Some old
    here = (get_some shards s lt).1

    abbrev new : Shard
    new = (takes old here).0

    end_is : end ≡ length (section_of texts)
    end_is = is_end ∙ ap (λ (bytes : List ℕ). length bytes) joining.section_is

    -- whether it is new
    fresh_is : (place == end) ≡ not (is_some (place_of texts t))
    fresh_is = is_new (its s) texts rest t old new end place own (joining.each s old here).left (joining.each s old here).placed (takes old here).2 end_is

    -- its place stays
    pub place_is : place ≡ place_in (fold with_text [] all) t
    place_is =
        let now = told (its s) texts rest t old new end place own (joining.each s old here).left (joining.each s old here).placed (takes old here).2 end_is in
        let whole : fold with_text (with_text texts t) rest ≡ fold with_text [] all =
        ap (λ (ts : List (List ℕ)). fold with_text ts rest) (sym one_more) ∙ sym (fold-append with_text [] (joining.before ++ t ∷ []) rest) ∙ ap (fold with_text []) with_rest in
        let there : place_of (fold with_text [] all) t ≡ Some place = ap (λ (ts : List (List ℕ)). place_of ts t) (sym whole) ∙ stays rest (with_text texts t) t place now in
        sym (ap (λ (o : _). unwrap_or o 0) there)

    -- too long with it, and so with all
    pub long_then : 2 ^ 32 - 1 ≤ (if place == end then end + length t + 1 else end) → 2 ^ 32 - 1 ≤ length (section_of (fold with_text [] all))
    long_then long =
        let grown = size_grown texts t (place == end) end (if place == end then end + length t + 1 else end) fresh_is end_is refl in
        let before : 2 ^ 32 - 1 ≤ length (section_of (fold with_text [] (joining.before ++ t ∷ []))) = omega (arith, long, grown, ap (λ (ts : List (List ℕ)). length (section_of ts)) one_more) in
        omega (arith, long_before (joining.before ++ t ∷ []) rest before, ap (λ (ts : List (List ℕ)). length (section_of (fold with_text [] ts))) with_rest)

    section_grown : (bytes : List ℕ) → bytes ≡ (if place == end then section ++ ended t else section) → bytes ≡ section_of (with_text texts t)
    section_grown bytes grown =
        grown ∙ ap (λ (b : Bool). if b then section ++ ended t else section) fresh_is ∙ by (is_some (place_of texts t))
      where
        by : (b : Bool) → (if not b then section ++ ended t else section) ≡ section_of (if b then texts else texts ++ t ∷ [])
        by true = joining.section_is
        by false = ap (λ (front : List ℕ). front ++ ended t) joining.section_is ∙ ap (λ (back : List ℕ). section_of texts ++ back) (sym (append-nil (ended t))) ∙ sym (flat_map-append ended texts (t ∷ []))

    as_many : length after ≡ length shards
    as_many = ap (λ (ss : List Shard). length ss) (takes old here).1 ∙ length-set shards s new

    abbrev Then : ℕ → List (List ℕ) → Shard → Type 0
    Then v ts x = (drop x.taken x.numbers.items ≡ numbers_from (in_shard (length shards) v ts) (in_shard (length shards) v rest)) × (x.places.items ≡ map (place_in ts) (in_shard (length shards) v ts))

    -- each shard is where it is then
    each_then : (u : ℕ) (it : Shard) → slice_get after u ≡ Some it → IsAt (length shards) u (joining.before ++ t ∷ []) rest it
    each_then u it at = ⊎_elim its_own another (cases_eq u s)
      where
        at_set : slice_get (set shards s new) u ≡ Some it
        at_set = ap (λ (ss : List Shard). slice_get ss u) (sym (takes old here).1) ∙ at

        so : (v : ℕ) (x : Shard) → Then v (with_text texts t) x → IsAt (length shards) v (joining.before ++ t ∷ []) rest x
        so v x then_ = let moved = subst (λ (ts : List (List ℕ)). Then v ts x) (sym one_more) then_ in record { left = moved.0; placed = moved.1 }

        its_own : u ≡ s → IsAt (length shards) u (joining.before ++ t ∷ []) rest it
        its_own e =
            let same : new ≡ it = same_Some new it (sym (get_set shards s new lt) ∙ ap (λ (v : ℕ). slice_get (set shards s new) v) (sym e) ∙ at_set) in
            let then_ : Then s (with_text texts t) new = (
              left_then (its s) texts rest t old new end place own (joining.each s old here).left (joining.each s old here).placed (takes old here).2 end_is,
              placed_then (its s) texts rest t old new end place own (joining.each s old here).left (joining.each s old here).placed (takes old here).2 end_is,
            ) in
            so u it (subst (λ (x : Shard). Then u (with_text texts t) x) same (subst (λ (v : ℕ). Then v (with_text texts t) new) (sym e) then_))

        another : (u ≡ s → ⊥) → IsAt (length shards) u (joining.before ++ t ∷ []) rest it
        another ne =
            let was : slice_get shards u ≡ Some it = sym (get_other shards s u new ne) ∙ at_set in
            let other : its u t ≡ false = ne_eqb _ _ (λ (e : shard_of (length shards) t ≡ u). ne (sym e ∙ sym is)) in
            so u it (left_still (its u) texts rest t it other (joining.each u it was).left, placed_still (its u) texts rest t it other (joining.each u it was).placed)

    pub joined_more : (bytes : List ℕ) (size : ℕ) → bytes ≡ (if place == end then section ++ ended t else section) → size ≡ (if place == end then end + length t + 1 else end) → size < 2 ^ 32 - 1 → IsJoining all rest after bytes
    joined_more bytes size grown sized small =
        let is_section = section_grown bytes grown in
        let sized_so = size_grown texts t (place == end) end size fresh_is end_is sized in
        record {
          before = joining.before ++ t ∷ [];
          whole = with_rest;
          some = omega (arith, joining.some, as_many);
          section_is = is_section ∙ ap section_of (sym one_more);
          small = omega (arith, ap (λ (b : List ℕ). length b) is_section, sized_so, small);
          each = λ u it at. subst (λ (n : ℕ). IsAt n u (joining.before ++ t ∷ []) rest it) (sym as_many) (each_then u it at);
        }

-- ---- behind the last text

pub all_joined : (all : List (List ℕ)) (shards : List Shard) (section : List ℕ) → IsJoining all [] shards section → section ≡ section_of (fold with_text [] all)
all_joined all shards section joining = joining.section_is ∙ ap (λ (ts : List (List ℕ)). section_of (fold with_text [] ts)) (sym (append-nil joining.before) ∙ joining.whole)
