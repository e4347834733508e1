-- Whether a text holds a part, by a search for it.
use Rattle.std.proofs.Common.{◌≡◌, ℕ, zero, suc, ◌+◌, ◌<◌, ◌≤◌, ◌==◌, ◌||◌, Bool, true, false, List, [], ◌∷◌, ◌++◌, length, take, drop, Option, Some, None, is_some, refl, sym, ap, ◌∙◌, arith}
use Rattle.std.specs.List.{starts_with}
use Rattle.std.proofs.lemmas.Bool.Decides.{Decides-eqb}
use Rattle.std.proofs.lemmas.Slice.Eq.{starts_is}
use Rattle.std.proofs.lemmas.List.{length-append, length-drop}
use Rattle.std.proofs.Math.Seq.{take-append_seam}
use Rattle.memchr.specs.Find.{FindsNeedle}
use Rattle.memchr.proofs.lemmas.MatchLemmas.{OccursAt-from_part, OccursAt-split}
use Rattle.type_names.specs.Entries.{holds}

or_right : (a b : Bool) → b ≡ true → (a || b) ≡ true
or_right true b is = refl
or_right false b is = is

held : (part text rest : List ℕ) (k : ℕ) → 0 < length part → drop k text ≡ part ++ rest → holds part text ≡ true
held [] text rest k some is = absurd (omega arith)
held (p ∷ part) [] rest zero some is = absurd (cc)
held (p ∷ part) [] rest (suc k) some is = absurd (cc)
held part (b ∷ bs) rest zero some is = ap (λ (t : Bool). t || holds part bs) ((starts_is Decides-eqb (b ∷ bs) part (starts_with (λ x y. x == y) (b ∷ bs) part) refl).1 rest is)
held part (b ∷ bs) rest (suc k) some is = or_right (starts_with (λ x y. x == y) (b ∷ bs) part) (holds part bs) (held part bs rest k some is)

place_of : (part text : List ℕ) → holds part text ≡ true → (k : ℕ) × (rest : List ℕ) × (k < length text) × (drop k text ≡ part ++ rest)
place_of part [] is = absurd (cc)
place_of part (b ∷ bs) is = go (place_of part bs) (starts_with (λ x y. x == y) (b ∷ bs) part) refl where
  Place : List ℕ → Type 0
  Place xs = (k : ℕ) × (rest : List ℕ) × (k < length xs) × (drop k xs ≡ part ++ rest)

  go : (holds part bs ≡ true → Place bs) → (t : Bool) → starts_with (λ x y. x == y) (b ∷ bs) part ≡ t → Place (b ∷ bs)
  go later true here = (0, drop (length part) (b ∷ bs), omega arith, (starts_is Decides-eqb (b ∷ bs) part (starts_with (λ x y. x == y) (b ∷ bs) part) refl).0 here)
  go later false here =
      let behind = later (ap (λ (t : Bool). t || holds part bs) (sym here) ∙ is) in
      (suc behind.0, behind.1, omega (arith, behind.2), behind.3)

pub found : (text part : List ℕ) (r : Option ℕ) → 0 < length part → FindsNeedle text part 0 r → is_some r ≡ holds part text
found text part None some finds = go (holds part text) refl where
  go : (t : Bool) → holds part text ≡ t → false ≡ holds part text
  go true is = (
      let at = place_of part text is in
      let fits : at.0 + length part ≤ length text = omega (arith, ap length at.3, length-drop at.0 text, length-append part at.1) in
      absurd (finds at.0 (omega arith) (omega (arith, at.2)) (OccursAt-from_part text part at.0 fits (ap (take (length part)) at.3 ∙ take-append_seam part at.1))))
  go false is = sym is
found text part (Some k) some finds = sym (held part text (drop (k + length part) text) k some (OccursAt-split text part k finds.1))
