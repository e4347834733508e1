-- What a shape is joined of, made by several workers, and the limit of units.
use Rattle.std.proofs.Common.{◌≡◌, ◌<◌, ◌≤◌, ◌+◌, ◌-◌, ◌^◌, ℕ, suc, Bool, List, ◌∷◌, ◌++◌, length, map, Some, Result, Ok, slice_get, refl, sym, ap, subst, ◌∙◌, arith}
use Rattle.std.specs.List.{All}
use Rattle.std.specs.Option.{option_map}
use Rattle.std.proofs.lemmas.List.{length-map}
use Rattle.std.proofs.lemmas.Option.{slice_get-map}
use Rattle.ds_base.specs.declared.fault.NoMemory.{NoMemory}
use Rattle.dwarf_types.specs.declared.analysis.Analysis.{Analysis}
use Rattle.dwarf_types.specs.LinkedShape.{AreMarked}
use Rattle.dwarf_types.specs.Sound.{IsSound}
use Rattle.link_graph.specs.declared.object.ObjectShape.{ObjectShape}
use Rattle.link_graph.specs.declared.pool.PathNodes.{PathNodes}
use Rattle.link_graph.specs.Joining.{ArePathNodes}
use Rattle.link_graph.specs.Merged.{kept_objects, linked_names, shape_of}
use Rattle.link_graph.specs.OwnShapes.{AreOwnShapes, IsOwnShapeAt}
use Rattle.link_graph.proofs.Joined.{shape_is}
use Rattle.link_graph.proofs.Pairs.{slice_get_behind}
use Rattle.type_names.specs.Names.{Named}
use Rattle.work_share.specs.Results.{GivesAll}
use Rattle.link_status.specs.declared.refusal.LimitKind.TheVariants as limits
use Rattle.link_status.specs.declared.refusal.Refusal.TheVariants as refusals
use Rattle.unit_drafts.specs.declared.shaping.Made.{Made}
use Rattle.unit_drafts.specs.declared.shaping.Made.TheVariants as made
use Rattle.unit_drafts.specs.Limits.{drafts_limit}
use Rattle.unit_drafts.specs.Shaping.{GivesMade, IsPathsFirst}
use Rattle.unit_drafts.proofs.Graphs.{shape_long}

-- what objects gave, as it was made
abbrev pub as_made : List ObjectShape → List (Result Made NoMemory)
as_made own = map (λ (one : ObjectShape). Ok (made.Object one)) own

next_one : {A : Type 0} (x : A) (xs : List A) (i : ℕ) → slice_get (x ∷ xs) (i + 1) ≡ slice_get xs i
next_one x xs i = let e : i + 1 ≡ suc i = omega arith in ap (slice_get (x ∷ xs)) e

-- the nodes of merged entries come first, since item 0 gives them
pub paths_first : (seen : List Analysis) (live : List (List Bool)) (names : List Named) (winners : List ℕ) (count : ℕ) (outs : List (Result Made NoMemory)) → 0 < count → GivesAll (GivesMade seen live names winners) count outs → IsPathsFirst outs
paths_first seen live names winners count outs some all = record {
  some_item = omega (arith, some, all.0);
  paths = λ i paths at. (all.1 i (Ok (made.Paths paths)) at).0;
  objects = λ i own at. (all.1 i (Ok (made.Object own)) at).0;
}

pub paths_given : (seen : List Analysis) (live : List (List Bool)) (names : List Named) (winners : List ℕ) (count : ℕ) (outs : List (Result Made NoMemory)) (paths : PathNodes) (own : List ObjectShape) → Ok (made.Paths paths) ∷ as_made own ≡ outs
    → GivesAll (GivesMade seen live names winners) count outs → ArePathNodes names winners paths
paths_given seen live names winners count outs paths own is all = (all.1 0 (Ok (made.Paths paths)) (ap (λ (xs : List (Result Made NoMemory)). slice_get xs 0) (sym is))).1

pub all_given : (odr : Bool) (seen : List Analysis) (live : List (List Bool)) (names : List Named) (winners : List ℕ) (count : ℕ) (outs : List (Result Made NoMemory)) (paths : PathNodes) (own : List ObjectShape) → All IsSound seen → AreMarked seen live → length seen < 2 ^ 16
    → names ≡ linked_names odr seen live → count ≡ length seen + 1 → Ok (made.Paths paths) ∷ as_made own ≡ outs → GivesAll (GivesMade seen live names winners) count outs → AreOwnShapes odr seen live names own
all_given odr seen live names winners count outs paths own sound marked few named counted is all = record {
  sound = sound;
  marked = marked;
  few = few;
  named = named;
  len = omega (arith, counted, all.0, ap length is, length-map own object);
  each = λ i one at. (
      let here : slice_get outs (i + 1) ≡ Some (Ok (made.Object one)) =
      ap (λ (xs : List (Result Made NoMemory)). slice_get xs (i + 1)) (sym is) ∙ next_one first (as_made own) i ∙ slice_get-map object own i ∙ ap (option_map object) at in
      let back : (i + 1) - 1 ≡ i = omega arith in
      subst (λ (n : ℕ). IsOwnShapeAt (kept_objects odr seen live) n one) back ((all.1 (i + 1) (Ok (made.Object one)) here).1 odr named));
}
  where
    object : ObjectShape → Result Made NoMemory
    object one = Ok (made.Object one)

    first : Result Made NoMemory
    first = Ok (made.Paths paths)

-- ---- taken apart, from the front

module _ (outs behind : List (Result Made NoMemory)) (out : Result Made NoMemory) (first : IsPathsFirst outs) (is : outs ≡ out ∷ behind) where
  -- the first one is of no object
  pub not_first : (one : Made) (own : ObjectShape) → out ≡ Ok one → one ≡ made.Object own → ⊥
  not_first one own ok object = omega (arith, first.objects 0 own (ap (λ (xs : List (Result Made NoMemory)). slice_get xs 0) is ∙ ap (λ (o : Result Made NoMemory). Some o) (ok ∙ ap (λ (m : Made). Ok m) object)))

  -- and behind it no nodes of merged entries come
  pub not_later : (front left rest : List (Result Made NoMemory)) (next : Result Made NoMemory) (one : Made) (paths : PathNodes) → front ++ left ≡ behind → left ≡ next ∷ rest → next ≡ Ok one → one ≡ made.Paths paths → ⊥
  not_later front left rest next one paths whole step ok met =
      let parts : outs ≡ (out ∷ front) ++ next ∷ rest = is ∙ ap (λ (xs : List (Result Made NoMemory)). out ∷ xs) (sym whole ∙ ap (λ (xs : List (Result Made NoMemory)). front ++ xs) step) in
      let at : slice_get outs (length (out ∷ front)) ≡ Some (Ok (made.Paths paths)) =
      ap (λ (xs : List (Result Made NoMemory)). slice_get xs (length (out ∷ front))) parts ∙ slice_get_behind (out ∷ front) next rest ∙ ap (λ (o : Result Made NoMemory). Some o) (ok ∙ ap (λ (m : Made). Ok m) met) in
      absurd (omega (arith, first.paths (length (out ∷ front)) paths at))

-- ---- the limit of units

-- where it would have so many units
pub many_units : (odr : Bool) (seen : List Analysis) (live : List (List Bool)) → All IsSound seen → AreMarked seen live → length (linked_names odr seen live) < 2 ^ 25 → 2 ^ 32 ≤ length (shape_of odr seen live).units
    → drafts_limit odr seen live ≡ Some (refusals.Limit limits.Section (2 ^ 32 - 1))
many_units odr seen live sound marked few le =
    shape_long odr seen live (linked_names odr seen live) (shape_of odr seen live) refl refl (shape_is odr seen live (shape_of odr seen live) sound marked.each refl) few (omega (arith, le))
