-- Marks of the live entries, object by object.
use Rattle.std.proofs.Common.{◌≡◌, Bool, List, [], ◌∷◌, ◌++◌, length, refl, sym, ap, subst, arith, length-append}
use Rattle.std.specs.List.{All, zip}
use Rattle.std.proofs.lemmas.List.Elements.{All-push}
use Rattle.dwarf_types.specs.declared.analysis.Analysis.{Analysis}
use Rattle.object_reads.specs.Marks.{AreLive, MarkLive}

zip_push : {A B : Type 0} (xs : List A) (ys : List B) (x : A) (y : B) → length ys ≡ length xs → zip (xs ++ x ∷ []) (ys ++ y ∷ []) ≡ zip xs ys ++ (x, y) ∷ []
zip_push [] [] x y e = refl
zip_push [] (y' ∷ ys) x y e = absurd (omega (arith, e))
zip_push (x' ∷ xs) [] x y e = absurd (omega (arith, e))
zip_push {A} {B} (x' ∷ xs) (y' ∷ ys) x y e = ap (λ (l : List (A × B)). (x', y') ∷ l) (zip_push xs ys x y (omega (arith, e)))

pub mark_none : MarkLive [] []
mark_none = record { marked = record { each = refl; whole = λ k d lt. absurd (omega (arith, lt)) }; live = λ k d lt. absurd (omega (arith, lt)) }

abbrev is_whole : Analysis × List Bool → Type 0
is_whole object = length object.1 ≡ length object.0.entries

pub mark_one : (seen : List Analysis) (marks : List (List Bool)) (a : Analysis) (row : List Bool) → MarkLive seen marks → length row ≡ length a.entries → AreLive (a, row) → MarkLive (seen ++ a ∷ []) (marks ++ row ∷ [])
mark_one seen marks a row h size live =
    let each = h.marked.each in
    let both = sym (zip_push seen marks a row each) in
    record {
      marked = record {
        each = omega (arith, each, length-append seen (a ∷ []), length-append marks (row ∷ []));
        whole = subst (All is_whole) both (All-push is_whole (zip seen marks) (a, row) h.marked.whole size);
      };
      live = subst (All AreLive) both (All-push AreLive (zip seen marks) (a, row) h.live live);
    }
