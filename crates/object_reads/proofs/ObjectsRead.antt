-- Objects that were read, one after the other.
use Rattle.std.proofs.Common.{◌≡◌, ◌<◌, ◌+◌, ℕ, Bool, List, [], ◌∷◌, ◌++◌, length, drop, get_or, slice_get, Some, Result, Ok, Err, refl, sym, subst, arith, length-append}
use Rattle.std.proofs.lemmas.List.Elements.{All-push}
use Rattle.std.proofs.lemmas.Option.{get_or_from_slice_get}
use Rattle.dwarf_types.specs.declared.analysis.Analysis.{Analysis}
use Rattle.dwarf_types.specs.Sound.{IsSound}
use Rattle.object_reads.specs.declared.objects.ReadObject.{ReadObject}
use Rattle.object_reads.specs.declared.target.Target.{Target}
use Rattle.link_status.specs.declared.refusal.Refusal.{Refusal}
use Rattle.object_reads.specs.Sources.{Source, analyses_from}
use Rattle.object_reads.specs.Reading.{AreRead, Going, Reads, ReadsAt, behind}
use Rattle.object_reads.proofs.Analysing.{object_more, object_refused, objects_all}
use Rattle.object_reads.proofs.Marking.{mark_none, mark_one}
use Rattle.work_share.proofs.Turns.{there_is}

behind_none : (r : Result (List Analysis) Refusal) → r ≡ behind [] r
behind_none (Ok seen) = refl
behind_none (Err e) = refl

pub going_none : (target : Target) (first : ℕ) (sources : List Source) → Going target first sources first [] []
going_none target first sources = record { exact = behind_none (analyses_from target (first + 1) (drop first sources)); sound = λ k d lt. absurd (omega (arith, lt)); size = omega arith; live = mark_none }

pub going_none_at : (target : Target) (first : ℕ) (sources : List Source) → Going target first sources (first + 0) [] []
going_none_at target first sources = let place : first ≡ first + 0 = omega arith in subst (λ (n : ℕ). Going target first sources n [] []) place (going_none target first sources)

module _ (target : Target) (first : ℕ) (sources : List Source) (i : ℕ) (seen : List Analysis) (marks : List (List Bool)) (before : Going target first sources i seen marks) where
  pub going_all : length sources ≡ i → AreRead target first sources seen marks
  going_all whole = record {
    exact = objects_all target first i sources seen before.exact (omega (arith, whole));
    sound = before.sound;
    size = omega (arith, whole, before.size);
    live = before.live;
  }

  module _ (lt : i < length sources) where
    abbrev s : Source
    s = (there_is sources i lt).0

    at : slice_get sources i ≡ Some s
    at = (there_is sources i lt).1

    is : s ≡ get_or sources i s
    is = sym (get_or_from_slice_get sources i s s at)

    pub going_stops : (r : Refusal) → ReadsAt target sources i (Err r) → Reads target first sources (Err r)
    going_stops r refused = object_refused target first i sources seen before.exact s lt is r (refused s at)

    pub going_more : (it : ReadObject) (seen' : List Analysis) (marks' : List (List Bool)) → ReadsAt target sources i (Ok it) → seen' ≡ seen ++ it.analysis ∷ [] → marks' ≡ marks ++ it.live ∷ [] → Going target first sources (i + 1) seen' marks'
    going_more it seen' marks' reads e e' =
        let read = reads s at in
        let more : Going target first sources (i + 1) (seen ++ it.analysis ∷ []) (marks ++ it.live ∷ []) = record {
          exact = object_more target first i sources seen before.exact s lt is it.analysis read.exact;
          sound = All-push IsSound seen it.analysis before.sound read.sound;
          size = omega (arith, before.size, length-append seen (it.analysis ∷ []));
          live = mark_one seen marks it.analysis it.live before.live read.size read.live;
        } in
        subst (λ (m : List (List Bool)). Going target first sources (i + 1) seen' m) (sym e') (subst (λ (l : List Analysis). Going target first sources (i + 1) l (marks ++ it.live ∷ [])) (sym e) more)
