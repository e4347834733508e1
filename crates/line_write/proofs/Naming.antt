-- Bytes that name texts, piece by piece.
use Rattle.std.proofs.Common.{◌≡◌, ℕ, zero, suc, List, [], ◌∷◌, ◌++◌, fold, slice_get, Some, is_some, append_assoc, refl, sym, ap, ◌∙◌}
use Rattle.std.proofs.lemmas.Bool.{cond_both}
use Rattle.std.proofs.lemmas.List.Sums.{fold-append}
use Rattle.ds_base.specs.Texts.{place_of, with_text}
use Rattle.patches.specs.Filling.{Filling, Holey, filled}
use Rattle.line_write.specs.Named.{AppendsNamed, TellsTexts}

-- ---- texts keep their numbers

in_front : (xs ys : List (List ℕ)) (i : ℕ) (t : List ℕ) → slice_get xs i ≡ Some t → slice_get (xs ++ ys) i ≡ Some t
in_front [] ys i t at = cc
in_front (x ∷ xs) ys zero t at = at
in_front (x ∷ xs) ys (suc i) t at = in_front xs ys i t at

pub number_kept : (texts : List (List ℕ)) (new : List ℕ) (i : ℕ) (t : List ℕ) → slice_get texts i ≡ Some t → slice_get (with_text texts new) i ≡ Some t
number_kept texts new i t at =
    cond_both (is_some (place_of texts new)) texts (texts ++ new ∷ []) (λ (more : List (List ℕ)). slice_get more i ≡ Some t) (λ known. at) (λ unknown. in_front texts (new ∷ []) i t at)

numbers_kept : (uses texts : List (List ℕ)) (i : ℕ) (t : List ℕ) → slice_get texts i ≡ Some t → slice_get (fold with_text texts uses) i ≡ Some t
numbers_kept [] texts i t at = at
numbers_kept (u ∷ uses) texts i t at = numbers_kept uses (with_text texts u) i t (number_kept texts u i t at)

-- what tells the places of more texts tells those of fewer
tells_before : (before after uses : List (List ℕ)) (f : Filling) (text : List ℕ → ℕ) → after ≡ fold with_text before uses → TellsTexts after f text → TellsTexts before f text
tells_before before after uses f text is tells =
    λ i t at. tells i t (ap (λ (texts : List (List ℕ)). slice_get texts i) is ∙ numbers_kept uses before i t at)

-- ---- pieces

-- the place of a text
pub names_one : (old new : Holey) (before after : List (List ℕ)) (t : List ℕ) (part : (List ℕ → ℕ) → List ℕ) → after ≡ with_text before t
    → ((f : Filling) (text : List ℕ → ℕ) → TellsTexts after f text → filled new f ≡ filled old f ++ part text) → AppendsNamed old new before after part (t ∷ [])
names_one old new before after t part grown is = record { bytes = is; names = grown }

-- nothing is named
pub names_none : (old new : Holey) (texts : List (List ℕ)) (part : List ℕ) → ((f : Filling) → filled new f ≡ filled old f ++ part) → AppendsNamed old new texts texts (λ text. part) []
names_none old new texts part is = record { bytes = λ f text tells. is f; names = refl }

module _ (old mid new : Holey) (part more : (List ℕ → ℕ) → List ℕ) where
  -- one piece behind the other
  pub named_more : (before between after : List (List ℕ)) (uses later : List (List ℕ)) → AppendsNamed old mid before between part uses → AppendsNamed mid new between after more later
      → AppendsNamed old new before after (λ text. part text ++ more text) (uses ++ later)
  named_more before between after uses later one two = record {
    bytes = λ f text tells.
        two.bytes f text tells ∙ ap (λ (front : List ℕ). front ++ more text) (one.bytes f text (tells_before between after later f text two.names tells))
        ∙ append_assoc (filled old f) (part text) (more text);
    names = two.names ∙ ap (λ (texts : List (List ℕ)). fold with_text texts later) one.names ∙ sym (fold-append with_text before uses later);
  }

module _ (old mid new : Holey) (before after uses : List (List ℕ)) (part : (List ℕ → ℕ) → List ℕ) where
  -- behind bytes that name nothing
  pub named_behind : (head : List ℕ) → ((f : Filling) → filled mid f ≡ filled old f ++ head) → AppendsNamed mid new before after part uses → AppendsNamed old new before after (λ text. head ++ part text) uses
  named_behind head is h = record {
    bytes = λ f text tells. h.bytes f text tells ∙ ap (λ (front : List ℕ). front ++ part text) (is f) ∙ append_assoc (filled old f) head (part text);
    names = h.names;
  }

  -- before bytes that name nothing
  pub named_before : (tail : List ℕ) → AppendsNamed old mid before after part uses → ((f : Filling) → filled new f ≡ filled mid f ++ tail) → AppendsNamed old new before after (λ text. part text ++ tail) uses
  named_before tail h is = record {
    bytes = λ f text tells. is f ∙ ap (λ (front : List ℕ). front ++ tail) (h.bytes f text tells) ∙ append_assoc (filled old f) (part text) tail;
    names = h.names;
  }
