-- Units are drafted batch by batch, and analyses go between.
use Rattle.std.proofs.Common.{◌≡◌, ◌<◌, ◌≤◌, ◌+◌, ◌-◌, ℕ, List, ◌++◌, length, Result, sym, subst, arith, inl, inr, ap}
use Rattle.work_share.specs.Results.{GivesAll}
use Rattle.clone_units.specs.Units.{object_of}
use Rattle.clone_units.proofs.Order.{its_object_is}
use Rattle.dwarf_types.specs.declared.analysis.Analysis.{Analysis}
use Rattle.dwarf_types.specs.declared.shape.Shape.{Shape}
use Rattle.link_graph.specs.Graph.{graph_in}
use Rattle.unit_draft.specs.declared.unit.Draft.{Draft}
use Rattle.unit_drafts.specs.declared.drafting.Drafts.{Drafts}
use Rattle.link_status.specs.declared.refusal.Refusal.{Refusal}
use Rattle.unit_drafts.specs.Drafting.{AreDrafting, AreLeft, DraftsBy, DraftsUnit, MayDraft, MayDraftAll, first_needed}
use Rattle.unit_drafts.proofs.Graphs.{given_batch}
use Rattle.unit_drafts.proofs.Leaving.{may_draft, rises, unit_there}

module _ (seen : List Analysis) (shape : Shape) (may : MayDraftAll seen shape) (it : Drafts) (are : AreDrafting seen shape it) (first : ℕ) (place : first ≡ length it.outs.items) (lt : first < length shape.units) where
  abbrev needed : ℕ
  needed = first_needed (object_of shape first)

  -- no analysis went that the next unit needs
  pub went_before : it.dropped ≤ needed
  went_before = are.waits first (omega (arith, place)) lt

  -- of the objects that are there
  within_seen : needed ≤ length seen
  within_seen = elim (its_object_is seen shape first may.is_shape lt) [
    | inl none ↦ omega (arith, ap first_needed none.1)
    | inr some ↦ omega (arith, ap first_needed some.1, some.2)
  ]

  pub may_from : (left : List Analysis) → AreLeft needed seen left → (u : ℕ) → first ≤ u → u < length shape.units → MayDraft left shape u
  may_from left from u le lt' = may_draft seen shape may.is_shape first u left may.few may.sound le lt' from

  -- the units of a batch are drafted too
  pub drafting_next : (it' : Drafts) (end : ℕ) (more : List (Result Draft Refusal)) → first < end → end ≤ length shape.units → it'.dropped ≡ needed → AreLeft needed seen it'.left → length it'.left ≡ length it.left
      → GivesAll (λ k out. DraftsBy it'.left shape (first + k) out) (end - first) more → it'.outs.items ≡ it.outs.items ++ more → (end ≡ length it'.outs.items) × AreDrafting seen shape it'
  drafting_next it' end more some within dropped from long given outs =
      let all = given_batch seen it'.left shape first end it.outs.items more it'.outs.items may.is_shape (omega (arith, some)) (λ u le lt'. unit_there seen shape may.is_shape first u it'.left le (omega (arith, lt', within)) from)
      (subst (λ (n : ℕ). GivesAll (DraftsUnit (graph_in seen shape)) n it.outs.items) (sym place) are.given) given outs in
      let count : end ≡ length it'.outs.items = sym all.0 in (
        count,
        record {
          within = omega (arith, count, within);
          given = subst (λ (n : ℕ). GivesAll (DraftsUnit (graph_in seen shape)) n it'.outs.items) count all;
          left = subst (λ (n : ℕ). AreLeft n seen it'.left) (sym dropped) from;
          long = omega (arith, long, are.long);
          gone = omega (arith, dropped, within_seen);
          waits = λ v le lt'.
              let up = rises seen shape may.is_shape first v (omega (arith, le, count, some)) lt' in
              omega (arith, up, dropped);
        },
      )

-- once all units are drafted, no analysis is needed
pub drafting_done : (seen : List Analysis) (shape : Shape) (it it' : Drafts) → AreDrafting seen shape it → length it.outs.items ≡ length shape.units → it'.outs.items ≡ it.outs.items → it'.dropped ≡ length it.left → length it'.left ≡ length it.left → AreLeft (length it.left) seen it'.left
    → AreDrafting seen shape it'
drafting_done seen shape it it' are all outs dropped long left = record {
  within = omega (arith, ap length outs, are.within);
  given = subst (λ (l : List (Result Draft Refusal)). GivesAll (DraftsUnit (graph_in seen shape)) (length l) l) (sym outs) are.given;
  left = subst (λ (n : ℕ). AreLeft n seen it'.left) (sym dropped) left;
  long = omega (arith, long, are.long);
  gone = omega (arith, dropped, are.long);
  waits = λ v le lt. absurd (omega (arith, le, lt, ap length outs, all));
}
