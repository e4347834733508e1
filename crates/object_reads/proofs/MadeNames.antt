-- The names of objects, one after the other.
use Rattle.std.proofs.Common.{◌≡◌, ◌+◌, ℕ, Bool, true, false, List, [], ◌∷◌, ◌++◌, length, Option, Some, None, refl, sym, ap, subst, ◌∙◌, arith, inl, inr, append-nil, length-append}
use Rattle.std.specs.Option.{option_to_list}
use Rattle.std.proofs.lemmas.Bool.{cases_lt}
use Rattle.std.proofs.lemmas.Option.{same_Some, slice_get_within}
use Rattle.dwarf_types.specs.declared.analysis.Analysis.{Analysis}
use Rattle.odr_names.specs.declared.one_object.ObjectNames.{ObjectNames}
use Rattle.odr_names.specs.Numbered.{objects_of}
use Rattle.odr_names.specs.Joining.{AreAllNames, AreNamesOf}
use Rattle.odr_names.proofs.MakingBooks.{length_objects}
use Rattle.type_names.specs.Heads.{Object}
use Rattle.type_names.specs.Objects.{object_of}
use Rattle.object_reads.specs.MadeNames.{HasNames, HaveNames}
use Rattle.work_share.proofs.Turns.{slice_get_behind, slice_get_front}

-- ---- those of the objects so far, and of one more

pub names_none : (named : Bool) → HaveNames named [] [] []
names_none true = record { len = refl; each = λ i o one at at_one. absurd cc }
names_none false = refl

objects_more : (seen : List Analysis) (marks : List (List Bool)) (a : Analysis) (row : List Bool) → length marks ≡ length seen → objects_of (seen ++ a ∷ []) (marks ++ row ∷ []) ≡ objects_of seen marks ++ object_of a row ∷ []
objects_more [] [] a row e = refl
objects_more [] (r ∷ marks) a row e = absurd (omega (arith, e))
objects_more (s ∷ seen) [] a row e = absurd (omega (arith, e))
objects_more (s ∷ seen) (r ∷ marks) a row e = ap (λ (os : List Object). object_of s r ∷ os) (objects_more seen marks a row (omega (arith, e)))

made_more : (objects : List Object) (made : List ObjectNames) (o : Object) (one : ObjectNames) → AreAllNames objects made → AreNamesOf (length objects + 1) o one → AreAllNames (objects ++ o ∷ []) (made ++ one ∷ [])
made_more objects made o one before here = record {
  len = omega (arith, before.len, length-append made (one ∷ []), length-append objects (o ∷ []));
  each = λ i o' one' at at_one. elim (cases_lt i (length objects)) [
    | inl lt ↦ before.each i o' one' (sym (slice_get_front objects (o ∷ []) i lt) ∙ at) (sym (slice_get_front made (one ∷ []) i (omega (arith, lt, before.len))) ∙ at_one)
    | inr ge ↦
        let last : i ≡ length objects + 0 = omega (arith, ge, slice_get_within (objects ++ o ∷ []) i o' at, length-append objects (o ∷ [])) in
        let same_o : o ≡ o' = same_Some o o' (sym (slice_get_behind objects (o ∷ []) 0 i last) ∙ at) in
        let same_one : one ≡ one' = same_Some one one' (sym (slice_get_behind made (one ∷ []) 0 i (omega (arith, last, before.len))) ∙ at_one) in
        let place : length objects ≡ i = omega (arith, last) in
        subst (λ (n : ℕ). AreNamesOf (n + 1) o' one') place (subst (λ (x : Object). AreNamesOf (length objects + 1) x one') same_o (subst (AreNamesOf (length objects + 1) o) same_one here))
  ];
}

pub names_more : (named : Bool) (seen : List Analysis) (marks : List (List Bool)) (made : List ObjectNames) (a : Analysis) (row : List Bool) (it : Option ObjectNames) → length marks ≡ length seen
    → HaveNames named seen marks made → HasNames named (length seen + 1) a row it → HaveNames named (seen ++ a ∷ []) (marks ++ row ∷ []) (made ++ option_to_list it)
names_more true seen marks made a row (Some own) each before one =
    let here = subst (λ (n : ℕ). AreNamesOf (n + 1) (object_of a row) own) (sym (length_objects seen marks each)) one in
    subst (λ (os : List Object). AreAllNames os (made ++ own ∷ [])) (sym (objects_more seen marks a row each)) (made_more (objects_of seen marks) made (object_of a row) own before here)
names_more true seen marks made a row None each before one = absurd one
names_more false seen marks made a row it each before one = ap (λ (own : Option ObjectNames). made ++ option_to_list own) one ∙ append-nil made ∙ before
