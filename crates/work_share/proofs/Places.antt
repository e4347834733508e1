-- Results in the places of their items.
use Rattle.std.proofs.Common.{◌≡◌, ◌≢◌, ℕ, zero, suc, ◌+◌, ◌<◌, ◌≤◌, List, [], ◌∷◌, ◌++◌, map, length, set, replicate, sym, refl, ap, subst, ◌∙◌, arith, length-set, length-append, append_assoc, append-nil, get_or}
use Rattle.std.proofs.Math.Seq.{get_or-append_seam}
use Rattle.std.specs.Prelude.{None, Some, slice_get}
use Rattle.std.specs.List.{All, Contains}
use Rattle.std.specs.declared.option.Option.{Option}
use Rattle.std.specs.Option.{option_map}
use Rattle.std.proofs.lemmas.List.{length-replicate, length-map}
use Rattle.std.proofs.lemmas.List.Elements.{Contains-push, Contains-append_left}
use Rattle.std.proofs.lemmas.Option.{slice_get-map, slice_get_within}
use Rattle.std.proofs.lemmas.Bool.{cases_eq}
use mathlib.Core.Logic.{⊎_elim}
use Rattle.work_share.specs.declared.done.Done.{Done}
use Rattle.work_share.specs.Numbers.{times}
use Rattle.work_share.specs.Worked.{items_of, InPlaces, InOrder}
use Rattle.work_share.proofs.Totals.{times-append, times_other}

module _ {A : Type 0} where
  get_set_same : (xs : List A) (i : ℕ) (a : A) → i < length xs → slice_get (set xs i a) i ≡ Some a
  get_set_same [] i a lt = absurd (omega arith)
  get_set_same (x ∷ xs) zero a lt = refl
  get_set_same (x ∷ xs) (suc i) a lt = get_set_same xs i a (omega arith)

  get_set_other : (xs : List A) (i j : ℕ) (a : A) → j ≢ i → slice_get (set xs i a) j ≡ slice_get xs j
  get_set_other [] i j a ne = refl
  get_set_other (x ∷ xs) zero zero a ne = absurd (ne refl)
  get_set_other (x ∷ xs) zero (suc j) a ne = refl
  get_set_other (x ∷ xs) (suc i) zero a ne = refl
  get_set_other (x ∷ xs) (suc i) (suc j) a ne = get_set_other xs i j a (λ e. ne (ap suc e))

  pub get_seam : (xs ys : List A) (a : A) → slice_get (xs ++ a ∷ ys) (length xs) ≡ Some a
  get_seam [] ys a = refl
  get_seam (x ∷ xs) ys a = get_seam xs ys a

  none_left : (taken rest : List A) → length rest ≡ 0 → taken ++ rest ≡ taken
  none_left taken [] e = append-nil taken
  none_left taken (x ∷ xs) e = absurd (omega arith)

  none_there : (n k : ℕ) (a : A) → slice_get (replicate n None) k ≡ Some (Some a) → ⊥
  none_there zero k a e = absurd (cc)
  none_there (suc n) zero a e = absurd (cc)
  none_there (suc n) (suc k) a e = none_there n k a e

module _ {O : Type 0} where
  items_push : (done : List (Done O)) (d : Done O) → items_of (done ++ d ∷ []) ≡ items_of done ++ d.item ∷ []
  items_push [] d = refl
  items_push (x ∷ xs) d = ap (λ l. x.item ∷ l) (items_push xs d)

  pub items_append : (a b : List (Done O)) → items_of (a ++ b) ≡ items_of a ++ items_of b
  items_append [] b = refl
  items_append (x ∷ xs) b = ap (λ l. x.item ∷ l) (items_append xs b)

  pub places_none : (count : ℕ) (slots : List (Option O)) → slots ≡ replicate count None → InPlaces count [] slots
  places_none count slots e = record {
    wide = ap length e ∙ length-replicate count None;
    own = λ x o at. absurd (none_there count x o (ap (λ l. slice_get l x) (sym e) ∙ at));
    each = λ x h. absurd (omega arith);
  }

  pub places_more : (count : ℕ) (done : List (Done O)) (slots : List (Option O)) (d : Done O) → InPlaces count done slots → d.item < count
      → InPlaces count (done ++ d ∷ []) (set slots d.item (Some d.out))
  places_more count done slots d old lt =
      let room : d.item < length slots = omega (arith, old.wide, lt) in
      let same = get_set_same slots d.item (Some d.out) room in
      record {
        wide = length-set slots d.item (Some d.out) ∙ old.wide;
        own = λ x o at. ⊎_elim
            (λ (e : x ≡ d.item).
            let here : slice_get (set slots d.item (Some d.out)) x ≡ Some (Some d.out) = subst (λ k. slice_get (set slots d.item (Some d.out)) k ≡ Some (Some d.out)) (sym e) same in
            let out : d.out ≡ o = cc (here, at) in
            subst (λ (y : Done O). Contains (done ++ d ∷ []) y) (λ i. record { item = sym e i; out = out i }) (Contains-push done d))
            (λ (ne : x ≢ d.item). Contains-append_left done (d ∷ []) (record { item = x; out = o }) (old.own x o (sym (get_set_other slots d.item x (Some d.out) ne) ∙ at)))
            (cases_eq x d.item);
        each = λ x h. ⊎_elim
            (λ (e : x ≡ d.item). (d.out, subst (λ k. slice_get (set slots d.item (Some d.out)) k ≡ Some (Some d.out)) (sym e) same))
            (λ (ne : x ≢ d.item).
            let parts : times x (items_of (done ++ d ∷ [])) ≡ times x (items_of done) + times x (d.item ∷ []) = ap (times x) (items_push done d) ∙ times-append x (items_of done) (d.item ∷ []) in
            let other : times x (d.item ∷ []) ≡ 0 = times_other x d.item (λ e. ne (sym e)) in
            let was = old.each x (omega (arith, parts, other, h)) in
            (was.0, get_set_other slots d.item x (Some d.out) ne ∙ was.1))
            (cases_eq x d.item);
      }

  -- no place is empty
  pub place_full : (count : ℕ) (done : List (Done O)) (slots taken rest : List (Option O)) → InPlaces count done slots → ((x : ℕ) → x < count → 1 ≤ times x (items_of done))
      → taken ++ None ∷ rest ≡ slots → ⊥
  place_full count done slots taken rest places each e =
      let empty : slice_get slots (length taken) ≡ Some None = ap (λ l. slice_get l (length taken)) (sym e) ∙ get_seam taken rest None in
      let inside : length taken < count = subst (λ n. length taken < n) places.wide (slice_get_within slots (length taken) None empty) in
      let full = places.each (length taken) (each (length taken) inside) in
      let both : Some (Some full.0) ≡ Some None = sym full.1 ∙ empty in
      absurd (cc (both))

  pub ordered : (count : ℕ) (done : List (Done O)) (slots taken rest : List (Option O)) (outs : List O) → InPlaces count done slots → taken ++ rest ≡ slots → length rest ≡ 0 → map Some outs ≡ taken
      → InOrder count done outs
  ordered count done slots taken rest outs places whole none all =
      let e : map Some outs ≡ slots = all ∙ sym (none_left taken rest none) ∙ whole in
      record {
        wide = sym (length-map outs Some) ∙ ap length e ∙ places.wide;
        own = λ k o at. places.own k o (ap (λ l. slice_get l k) (sym e) ∙ slice_get-map Some outs k ∙ ap (option_map Some) at);
      }

  -- one more result goes to its place
  pub placed_one : (count : ℕ) (done taken left rest : List (Done O)) (slots : List (Option O)) (d : Done O) → All (λ (x : Done O). x.item < count) done
      → taken ++ left ≡ done → left ≡ d ∷ rest → InPlaces count taken slots
      → ((taken ++ d ∷ []) ++ rest ≡ done) × InPlaces count (taken ++ d ∷ []) (set slots d.item (Some d.out))
  placed_one count done taken left rest slots d all e next old =
      let whole : taken ++ d ∷ rest ≡ done = ap (λ l. taken ++ l) (sym next) ∙ e in
      let here : get_or done (length taken) d ≡ d = ap (λ l. get_or l (length taken) d) (sym whole) ∙ get_or-append_seam taken d rest d in
      let inside : length taken < length done = subst (λ l. length taken < length l) whole (omega (arith, length-append taken (d ∷ rest))) in
      let lt : d.item < count = subst (λ (x : Done O). x.item < count) here (all (length taken) d inside) in
      (append_assoc taken (d ∷ []) rest ∙ whole, places_more count taken slots d old lt)
