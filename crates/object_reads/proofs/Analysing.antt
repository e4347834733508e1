-- Objects analysed one after the other.
use Rattle.std.proofs.Common.{◌≡◌, ◌<◌, ◌≤◌, ◌+◌, ℕ, zero, suc, List, [], ◌∷◌, ◌++◌, length, drop, take, get_or, slice_get, Option, Some, Result, Ok, Err, refl, sym, ap, ◌∙◌, arith, append_assoc, append-nil, length-take}
use Rattle.std.specs.List.{zip}
use Rattle.std.proofs.lemmas.List.{drop_all, get_or-map, length-map}
use Rattle.std.proofs.lemmas.Slice.Zip.{get_or-zip, length-zip}
use Rattle.ds_base.specs.declared.fault.Fault.{Fault}
use Rattle.ds_base.proofs.Walking.{drop_one}
use Rattle.dwarf_types.specs.declared.analysis.Analysis.{Analysis}
use Rattle.stab_map.specs.declared.object.MapObject.{MapObject}
use Rattle.link_status.specs.declared.refusal.Refusal.{Refusal}
use Rattle.link_status.specs.declared.refusal.Refusal.TheVariants as refusals
use Rattle.object_reads.specs.declared.target.Target.{Target}
use Rattle.object_reads.specs.Sources.{Source, analyses_from, analysis_from, and_then, source_of, sources_of}
use Rattle.object_reads.specs.Reading.{Reads, ReadsNumbered, behind}

-- ---- all objects

module _ (objects : List MapObject) (files : List (List ℕ)) (numbers : List (Option ℕ)) where
  pub sources_long : length numbers ≡ length objects → length (sources_of objects files numbers) ≡ length objects
  sources_long each = length-map (zip objects numbers) (source_of files) ∙ omega (arith, length-zip objects numbers, each)

  pub source_at : (i : ℕ) (o : MapObject) (n : Option ℕ) → i < length objects → i < length numbers → o ≡ get_or objects i o → n ≡ get_or numbers i n
      → source_of files (o, n) ≡ get_or (sources_of objects files numbers) i (source_of files (o, n))
  source_at i o n lt lt' is is' =
      sym (get_or-map (source_of files) (zip objects numbers) i (o, n) (source_of files (o, n)) (omega (arith, lt, lt', length-zip objects numbers))
      ∙ ap (source_of files) (get_or-zip objects numbers i (o, n) lt lt' ∙ cc (is, is')))

  -- those up to a place
  pub listed_long : (end : ℕ) → length numbers ≡ length objects → end ≤ length objects → length (take end (sources_of objects files numbers)) ≡ end
  listed_long end each le = omega (arith, length-take end (sources_of objects files numbers), sources_long each, le)

pub taken_at : {X : Type 0} (n i : ℕ) (xs : List X) (x : X) → slice_get (take n xs) i ≡ Some x → slice_get xs i ≡ Some x
taken_at zero i xs x at = absurd cc
taken_at (suc n) i [] x at = absurd cc
taken_at (suc n) zero (y ∷ xs) x at = at
taken_at (suc n) (suc i) (y ∷ xs) x at = taken_at n i xs x at

behind_one : (seen : List Analysis) (a : Analysis) (number : ℕ) (r : Result (List Analysis) Refusal) → behind seen (and_then number (Ok a) r) ≡ behind (seen ++ a ∷ []) r
behind_one seen a number (Ok others) = ap (λ (l : List Analysis). Ok l) (sym (append_assoc seen (a ∷ []) others))
behind_one seen a number (Err e) = refl

module _ (target : Target) (first i : ℕ) (sources : List Source) (seen : List Analysis) (so_far : analyses_from target (first + 1) (drop first sources) ≡ behind seen (analyses_from target (i + 1) (drop i sources))) where
  pub objects_all : length sources ≤ i → analyses_from target (first + 1) (drop first sources) ≡ Ok seen
  objects_all le = so_far ∙ ap (λ (l : List Source). behind seen (analyses_from target (i + 1) l)) (drop_all i sources le) ∙ ap (λ (l : List Analysis). Ok l) (append-nil seen)

  module _ (s : Source) (lt : i < length sources) (is : s ≡ get_or sources i s) where
    here : analyses_from target (first + 1) (drop first sources) ≡ behind seen (and_then (i + 1) (analysis_from target s.object s.file) (analyses_from target (i + 1 + 1) (drop (i + 1) sources)))
    here = so_far ∙ ap (λ (l : List Source). behind seen (analyses_from target (i + 1) l)) (drop_one sources i s lt is)

    pub object_more : (a : Analysis) → analysis_from target s.object s.file ≡ Ok a → analyses_from target (first + 1) (drop first sources) ≡ behind (seen ++ a ∷ []) (analyses_from target (i + 1 + 1) (drop (i + 1) sources))
    object_more a e =
        here ∙ ap (λ (r : Result Analysis Fault). behind seen (and_then (i + 1) r (analyses_from target (i + 1 + 1) (drop (i + 1) sources)))) e
        ∙ behind_one seen a (i + 1) (analyses_from target (i + 1 + 1) (drop (i + 1) sources))

    object_faulty : (f : Fault) → analysis_from target s.object s.file ≡ Err f → analyses_from target (first + 1) (drop first sources) ≡ Err (refusals.Faulty (i + 1) f)
    object_faulty f e = here ∙ ap (λ (r : Result Analysis Fault). behind seen (and_then (i + 1) r (analyses_from target (i + 1 + 1) (drop (i + 1) sources)))) e

    pub object_refused : (r : Refusal) → ReadsNumbered (i + 1) (analysis_from target s.object s.file) (Err r) → Reads target first sources (Err r)
    object_refused (refusals.Faulty file fault) h = object_faulty fault h.1 ∙ ap (λ (n : ℕ). Err (refusals.Faulty n fault)) (sym h.0)
    object_refused (refusals.Limit which n) h = absurd h
    object_refused refusals.NoMemory h = tt
