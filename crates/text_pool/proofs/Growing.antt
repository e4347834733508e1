-- Texts that are added: the section grows, and each text stays where it stands.
use Rattle.std.proofs.Common.{◌≡◌, ℕ, ◌-◌, ◌^◌, ◌≤◌, List, [], ◌∷◌, ◌++◌, fold, length, Some, is_some, ap, arith}
use Rattle.std.proofs.lemmas.Bool.{cond_both}
use Rattle.std.proofs.lemmas.List.Sums.{fold-append}
use Rattle.ds_base.specs.Texts.{place_of, section_of, with_text}
use Rattle.text_pool.proofs.Keeping.{section-push}
use Rattle.text_pool.proofs.Places.{place_kept}

one_grows : (texts : List (List ℕ)) (t : List ℕ) → length (section_of texts) ≤ length (section_of (with_text texts t))
one_grows texts t =
    cond_both (is_some (place_of texts t)) texts (texts ++ t ∷ []) (λ more. length (section_of texts) ≤ length (section_of more)) (λ _. omega arith)
    (λ _. omega (arith, section-push texts t))

pub grows : (uses texts : List (List ℕ)) → length (section_of texts) ≤ length (section_of (fold with_text texts uses))
grows [] texts = omega arith
grows (t ∷ uses) texts = omega (arith, one_grows texts t, grows uses (with_text texts t))

-- too long with some texts, and so with more
pub long_before : (uses more : List (List ℕ)) → 2 ^ 32 - 1 ≤ length (section_of (fold with_text [] uses)) → 2 ^ 32 - 1 ≤ length (section_of (fold with_text [] (uses ++ more)))
long_before uses more long =
    omega (arith, long, grows more (fold with_text [] uses), ap (λ (texts : List (List ℕ)). length (section_of texts)) (fold-append with_text [] uses more))

pub stays : (uses texts : List (List ℕ)) (t : List ℕ) (n : ℕ) → place_of texts t ≡ Some n → place_of (fold with_text texts uses) t ≡ Some n
stays [] texts t n at = at
stays (u ∷ uses) texts t n at = stays uses (with_text texts u) t n (place_kept texts u t n at)
