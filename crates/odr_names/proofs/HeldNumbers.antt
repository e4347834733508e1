-- Numbers as they are held.
use Rattle.std.proofs.Common.{◌≡◌, ℕ, zero, suc, List, [], ◌∷◌, ◌++◌, map, get_or, Option, None, refl, ap, ◌∙◌}
use Rattle.std.proofs.lemmas.List.{map_push}
use Rattle.odr_names.specs.Entering.{number_held}

pub held_at : (held : List ℕ) (k : ℕ) → number_held (get_or held k 0) ≡ get_or (map number_held held) k None
held_at [] k = refl
held_at (n ∷ held) zero = refl
held_at (n ∷ held) (suc k) = held_at held k

pub held_more : (held new : List ℕ) (n : ℕ) (number : Option ℕ) (was : List (Option ℕ)) → new ≡ held ++ n ∷ [] → number_held n ≡ number → map number_held held ≡ was → map number_held new ≡ was ++ number ∷ []
held_more held new n number was pushed is view = ap (map number_held) pushed ∙ map_push number_held held n ∙ (λ i. view i ++ is i ∷ [])
