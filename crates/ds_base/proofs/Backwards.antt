-- Loops that go over a list from its end: what holds of those that are done.
use Rattle.std.proofs.Common.{◌≡◌, List, [], ◌∷◌, ◌++◌, length, sym, ap, subst, ◌∙◌, append_assoc, append-nil}
use Rattle.std.proofs.lemmas.List.{nil_from_length}

-- P holds of those behind the ones that are left
pub record Done {X : Type 0} (P : List X → Type 0) (left all : List X) : Type 0 where
  pub done : List X
  pub split : all ≡ left ++ done
  pub holds : P done

pub done_none : {X : Type 0} (P : List X → Type 0) (all : List X) → P [] → Done P all all
done_none P all holds = record { done = []; split = sym (append-nil all); holds = holds }

-- one more is done, by which P becomes Q
pub done_more : {X : Type 0} (P Q : List X → Type 0) (left rest all : List X) (x : X) → left ≡ rest ++ x ∷ [] → ((xs : List X) → P xs → Q (x ∷ xs)) → Done P left all → Done Q rest all
done_more {X} P Q left rest all x last step so_far = record {
  done = x ∷ so_far.done;
  split = so_far.split ∙ ap (λ (xs : List X). xs ++ so_far.done) last ∙ append_assoc rest (x ∷ []) so_far.done;
  holds = step so_far.done so_far.holds;
}

pub done_all : {X : Type 0} (P : List X → Type 0) (left all : List X) → length left ≡ 0 → Done P left all → P all
done_all {X} P left all none so_far = subst P (sym (so_far.split ∙ ap (λ (xs : List X). xs ++ so_far.done) (nil_from_length left none))) so_far.holds
