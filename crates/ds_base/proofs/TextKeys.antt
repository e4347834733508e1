-- Tables whose keys are texts: what a change at one text leaves at any other.
use Rattle.std.proofs.Common.{◌≡◌, Bool, true, false, cond, List, ℕ, Option, sym, subst, ◌∙◌}
use mathlib.Core.Logic.{⊎_elim}
use Rattle.std.specs.HashMap.{HashMap, UpdatesBy, get_by}
use Rattle.std.specs.Map.{update, lookup, IsKeyTest, AreApart, KeepsOthers}
use Rattle.std.specs.Str.{bytes_eq}
use Rattle.std.specs.Cmp.Lexicographic.{bytes_decides, nat_list_eq_equiv}
use Rattle.std.proofs.lemmas.Bool.{cases_Bool, cond-true, cond-false}
use Rattle.ds_base.specs.declared.text_key.TextKey.{TextKey}

apart : (bs cs ks : List ℕ) → bytes_eq bs cs ≡ false → bytes_eq bs ks ≡ true → bytes_eq cs ks ≡ false
apart bs cs ks n y = nat_list_eq_equiv.symm cs ks ∙ sym (nat_list_eq_equiv.congr bs ks cs y) ∙ n

module _ {K : Type 0} (eq : K → K → Bool) (test : K → Bool) where
  other_entries : {X : Type 0} (old new : List (K × X)) → KeepsOthers eq test old new → (other : K → Bool) → IsKeyTest eq other → AreApart test other → lookup other new ≡ lookup other old
  unfolding KeepsOthers
  other_entries old new h = h

-- g is w at bs, and f at other texts
by_text : {W : Type 0} (f g : List ℕ → W) (bs : List ℕ) (w : W) → g bs ≡ w → ((cs : List ℕ) → bytes_eq bs cs ≡ false → g cs ≡ f cs) → (cs : List ℕ) → g cs ≡ cond (bytes_eq bs cs) w (f cs)
by_text f g bs w here other cs =
    ⊎_elim
    (λ y. subst (λ l. g l ≡ w) ((bytes_decides bs cs).0 y) here ∙ sym (cond-true (bytes_eq bs cs) w (f cs) y))
    (λ n. other cs n ∙ sym (cond-false (bytes_eq bs cs) w (f cs) n))
    (cases_Bool (bytes_eq bs cs))

module _ (bs : List ℕ) where
  pub text_updates : {X S : Type 0} (m n : HashMap TextKey X S) (w : Option X) → UpdatesBy (λ x y. bytes_eq x.text.now y.text.now) (λ k. bytes_eq bs k.text.now) m n w
      → (cs : List ℕ) → get_by (λ k. bytes_eq cs k.text.now) n ≡ update bytes_eq (λ ds. get_by (λ k. bytes_eq ds k.text.now) m) bs w cs
  text_updates m n w h = by_text (λ ds. get_by (λ k. bytes_eq ds k.text.now) m) (λ ds. get_by (λ k. bytes_eq ds k.text.now) n) bs w h.1 (λ cs e. other_entries _ _ _ _ h.3 _ (λ x y. nat_list_eq_equiv.congr cs x.text.now y.text.now) (λ k. apart bs cs k.text.now e))
