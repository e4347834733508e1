-- Which files are held while objects are read in their order.
use Rattle.std.proofs.Common.{◌≡◌, ◌<◌, ◌≤◌, ◌+◌, ◌-◌, ℕ, zero, suc, Bool, List, [], ◌∷◌, ◌++◌, length, take, drop, append-nil, get_or, set, slice_get, Option, Some, None, Result, refl, ap, subst, ◌∙◌, arith, get_or-set_other}
use Rattle.std.proofs.lemmas.List.{drop_all, get_or_default, take_all}
use Rattle.stab_map.specs.declared.object.MapObject.{MapObject}
use Rattle.work_share.specs.Results.{GivesAll}
use Rattle.object_reads.specs.declared.objects.ReadObject.{ReadObject}
use Rattle.link_status.specs.declared.refusal.Refusal.{Refusal}
use Rattle.object_reads.specs.Sources.{sources_of}
use Rattle.object_reads.specs.declared.target.Target.{Target}
use Rattle.object_reads.specs.MadeNames.{ReadsNamed}
use Rattle.object_reads.specs.Reading.{AreHeld, AreLast, ReadsAt}
use Rattle.object_reads.proofs.Analysing.{taken_at}
use Rattle.work_share.proofs.Turns.{given_as}

pub held_all : (source : List (Option ℕ)) (files : List (List ℕ)) → AreHeld 0 source files files
held_all source files k n le at = refl

pub held_from : (from to : ℕ) (source : List (Option ℕ)) (files held : List (List ℕ)) → from ≤ to → AreHeld from source files held → AreHeld to source files held
held_from from to source files held le are k n le' at = are k n (omega (arith, le, le')) at

-- a file whose last object stands before a number is not needed from there on
pub held_without : (source : List (Option ℕ)) (files held : List (List ℕ)) (last : List ℕ) (n end d : ℕ) → AreLast source last → n < length last → get_or last n d < end → AreHeld end source files held → AreHeld end source files (set held n [])
held_without source files held last n end d lasts inside lt are k m le at =
    get_or-set_other held n m [] [] (λ same. absurd (
    let behind : k ≤ get_or last n k = subst (λ (i : ℕ). k ≤ get_or last i k) same (lasts k m at) in
    omega (arith, behind, get_or_default last n k d inside, lt, le)
    )) ∙ are k m le at

module _ (files held : List (List ℕ)) where
  -- an object whose file is held is read as before
  same_at : (objects : List MapObject) (source : List (Option ℕ)) (k : ℕ) → ((n : ℕ) → slice_get source k ≡ Some (Some n) → get_or held n [] ≡ get_or files n []) → slice_get (sources_of objects held source) k ≡ slice_get (sources_of objects files source) k
  same_at [] source k same = refl
  same_at (o ∷ objects) [] k same = refl
  same_at (o ∷ objects) (None ∷ source) zero same = refl
  same_at (o ∷ objects) (Some n ∷ source) zero same = ap (λ (file : List ℕ). Some (record { object = o; file = Some file })) (same n refl)
  same_at (o ∷ objects) (n ∷ source) (suc k) same = same_at objects source k same

  module _ (named : Bool) (target : Target) (first end : ℕ) (objects : List MapObject) (source : List (Option ℕ)) (are : AreHeld first source files held) where
    read_as : (k : ℕ) (out : Result ReadObject Refusal) → ReadsAt target (sources_of objects held source) (first + k) out → ReadsAt target (take end (sources_of objects files source)) (first + k) out
    read_as k out reads s at = reads s (same_at objects source (first + k) (λ n here. are (first + k) n (omega arith) here) ∙ taken_at end (first + k) (sources_of objects files source) s at)

    -- what is read of a batch by the files that are held is read of it by all
    pub read_held : (count : ℕ) (outs : List (Result ReadObject Refusal)) → GivesAll (λ k out. ReadsNamed named target (sources_of objects held source) first k out) count outs
        → GivesAll (λ k out. ReadsNamed named target (take end (sources_of objects files source)) first k out) count outs
    read_held count outs given =
        given_as (λ k out. ReadsNamed named target (sources_of objects held source) first k out) (λ k out. ReadsNamed named target (take end (sources_of objects files source)) first k out) count outs
        (λ k out lt reads. (read_as k out reads.0, reads.1)) given

-- ---- lists that were lent

-- a list whose items were all lent has what they became
pub lent_all : {X : Type 0} (became was : List X) → length became ≡ length was → take (length was) (became ++ drop (length became) was) ≡ became
lent_all {X} became was same =
    ap (λ (rest : List X). take (length was) (became ++ rest)) (drop_all (length became) was (omega (arith, same)))
    ∙ ap (take (length was)) (append-nil became) ∙ take_all (length was) became (omega (arith, same))
