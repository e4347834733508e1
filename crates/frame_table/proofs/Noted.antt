-- The frames that are noted for each CIE, as frames are put behind the others.
use Rattle.std.proofs.Common.{◌≡◌, ℕ, ◌<◌, ◌⊎◌, inl, inr, List, [], ◌∷◌, ◌++◌, Option, Some, length, drop, take, get_or, set, slice_get, refl, ap, sym, subst, ◌∙◌, arith}
use Rattle.std.proofs.lemmas.Bool.{cases_eq}
use Rattle.std.proofs.lemmas.List.{append-nil, drop_all, get_or_append_left, get_or_push, get_or-set_other, get_or-set_same, length-set, length_push, take_all}
use Rattle.std.proofs.lemmas.Option.{get_or_from_slice_get, slice_get-get_or, slice_get_within}
use Rattle.dwarf_types.specs.declared.frames.RawFrame.{RawFrame}
use Rattle.frame_table.specs.Sharing.{AreFirsts, HasCie}

-- a slice of all items of a vector, written
pub lent_all : {A : Type 0} (became was : List A) (n : ℕ) → n ≡ length was → length became ≡ length was → take n (became ++ drop (length became) was) ≡ became
lent_all became was n is same =
    ap (λ (rest : List _). take n (became ++ rest)) (drop_all (length became) was (omega (arith, same))) ∙ ap (take n) (append-nil became) ∙ take_all n became (omega (arith, is, same))

has_more : (frames : List RawFrame) (f : RawFrame) (k : ℕ) (cie : List ℕ) → HasCie frames k cie → HasCie (frames ++ f ∷ []) k cie
has_more frames f k cie has =
    let within = slice_get_within frames k has.0 has.1 in
    let more : k < length (frames ++ f ∷ []) = omega (arith, length_push frames f) in
    let there : slice_get (frames ++ f ∷ []) k ≡ Some has.0 =
    slice_get-get_or (frames ++ f ∷ []) k has.0 more ∙ ap Some (get_or_append_left frames (f ∷ []) has.0 k within ∙ get_or_from_slice_get frames k has.0 has.0 has.1) in
    (has.0, there, has.2)

has_last : (frames : List RawFrame) (f : RawFrame) (cie : List ℕ) → f.cie ≡ cie → HasCie (frames ++ f ∷ []) (length frames) cie
has_last frames f cie is =
    let more : length frames < length (frames ++ f ∷ []) = omega (arith, length_push frames f) in
    (f, slice_get-get_or (frames ++ f ∷ []) (length frames) f more ∙ ap Some (get_or_push frames f f (length frames) refl), is)

module _ (contents : ℕ → List ℕ) (frames : List RawFrame) (f : RawFrame) (firsts : List (Option ℕ)) (noted : AreFirsts contents frames firsts) where
  firsts_stay : AreFirsts contents (frames ++ f ∷ []) firsts
  firsts_stay i k is = has_more frames f k (contents i) (noted i k is)

  firsts_set : (j : ℕ) → j < length firsts → f.cie ≡ contents j → AreFirsts contents (frames ++ f ∷ []) (set firsts j (Some (length frames)))
  firsts_set j lt cie i k is =
      let within = slice_get_within (set firsts j (Some (length frames))) i (Some k) is in
      let inside : i < length firsts = omega (arith, length-set firsts j (Some (length frames))) in
      let read : get_or (set firsts j (Some (length frames))) i (Some k) ≡ Some k = get_or_from_slice_get (set firsts j (Some (length frames))) i (Some k) (Some k) is in
      elim (cases_eq i j) [
        | inl same ↦
            let at_j : get_or (set firsts j (Some (length frames))) j (Some k) ≡ Some k = subst (λ (n : ℕ). get_or (set firsts j (Some (length frames))) n (Some k) ≡ Some k) same read in
            let first : Some (length frames) ≡ Some k = sym (get_or-set_same firsts j (Some (length frames)) (Some k) lt) ∙ at_j in
            let it : length frames ≡ k = cc in
            subst (λ (n : ℕ). HasCie (frames ++ f ∷ []) n (contents i)) it (has_last frames f (contents i) (cie ∙ ap contents (sym same)))
        | inr other ↦
            let before : slice_get firsts i ≡ Some (Some k) = slice_get-get_or firsts i (Some k) inside ∙ ap Some (sym (get_or-set_other firsts j i (Some (length frames)) (Some k) other) ∙ read) in
            firsts_stay i k before
      ]

  pub firsts_more : (j : ℕ) (new : List (Option ℕ)) → j < length firsts → f.cie ≡ contents j → (new ≡ firsts) ⊎ (new ≡ set firsts j (Some (length frames))) → AreFirsts contents (frames ++ f ∷ []) new
  firsts_more j new lt cie (inl same) = rw same firsts_stay
  firsts_more j new lt cie (inr is) = rw is (firsts_set j lt cie)

pub noted_all : (firsts new : List (Option ℕ)) (j k : ℕ) → (new ≡ firsts) ⊎ (new ≡ set firsts j (Some k)) → length new ≡ length firsts
noted_all firsts new j k (inl same) = ap length same
noted_all firsts new j k (inr is) = ap length is ∙ length-set firsts j (Some k)
