-- Entries that stand apart: the one that holds a place, and the one that begins there.
use Rattle.std.proofs.Common.{◌≡◌, ℕ, ◌+◌, ◌<◌, ◌≤◌, ◌==◌, false, List, [], ◌∷◌, ◌++◌, length, get_or, nat_le, Some, None, refl, arith, inl, inr, le_refl, true}
use Rattle.std.specs.List.{All, find}
use Rattle.std.specs.List.Sorted.{IsNonDecreasingBy, IsPartitionedBy, IsPartitionPoint}
use Rattle.std.proofs.lemmas.Bool.{leb-true, leb-false, eq-eqb, ne_eqb, cases_lt, cases_order}
use Rattle.std.proofs.lemmas.List.Sorted.{IsPartitionedBy-leb}
use Rattle.std.proofs.lemmas.List.Elements.{All-push}
use Rattle.std.proofs.lemmas.List.Quantifiers.{all_pairs_push}
use Rattle.std.proofs.lemmas.List.Recursion.{found_at, found_nowhere}
use Rattle.frame_table.specs.declared.entry.FrameEntry.{FrameEntry}
use Rattle.frame_table.specs.Order.{StandApart}

ends_rise : (es : List FrameEntry) → StandApart es → IsNonDecreasingBy (λ e. e.end) es
ends_rise es apart i j d le within = elim (cases_lt i j) [
  | inl lt ↦ let e = apart.rise i j d lt within in let n = apart.filled j d within in omega arith
  | inr ge ↦ let same : i ≡ j = omega arith in rw same (le_refl _)
]

-- those that end at a place or before it stand before the others
pub ended_first : (es : List FrameEntry) (place : ℕ) → StandApart es → IsPartitionedBy (λ e. nat_le e.end place) es
ended_first es place apart = IsPartitionedBy-leb (λ e. e.end) es place (ends_rise es apart)

pub ended_by : (es : List FrameEntry) (place n : ℕ) → IsPartitionPoint (λ e. nat_le e.end place ≡ true) (λ e. nat_le e.end place ≡ false) es n
    → IsPartitionPoint (λ e. e.end ≤ place) (λ e. place < e.end) es n
ended_by es place n point =
    (λ k d from below. leb-true (get_or es k d).end place (point.0 k d from below), λ k d from below. leb-false (get_or es k d).end place (point.1 k d from below))

abbrev pub Holds : List FrameEntry → ℕ → ℕ → Type 0
Holds es place n = IsPartitionPoint (λ e. e.end ≤ place) (λ e. place < e.end) es n

-- none begins at the place before the entry that holds it
begins_behind : (es : List FrameEntry) (place n k : ℕ) (d : FrameEntry) → StandApart es → Holds es place n → n ≤ length es → k < n → ((get_or es k d).place == place) ≡ false
begins_behind es place n k d apart holds within lt =
    let e = holds.0 k d (omega arith) lt in let f = apart.filled k d (omega arith) in ne_eqb _ _ (λ same. omega arith)

pub begins_at : (es : List FrameEntry) (place n : ℕ) (d : FrameEntry) → StandApart es → Holds es place n → n < length es → (get_or es n d).place ≡ place → find (λ e. e.place == place) es ≡ Some (get_or es n d)
begins_at es place n d apart holds lt is = found_at (find (λ e. e.place == place)) (λ e. e.place == place) (λ e. Some e) None refl (λ e es. refl) es n d lt
    (λ k before. begins_behind es place n k d apart holds (omega arith) before) (eq-eqb _ _ is)

pub begins_not : (es : List FrameEntry) (place n : ℕ) (d : FrameEntry) → StandApart es → Holds es place n → n ≤ length es → (n < length es → (get_or es n d).place ≡ place → ⊥) → find (λ e. e.place == place) es ≡ None
begins_not es place n d apart holds within differs = found_nowhere (find (λ e. e.place == place)) (λ e. e.place == place) (λ e. Some e) None refl (λ e es. refl) es d
    (λ k lt. elim (cases_order k n) [
      | inl same ↦ rw same (ne_eqb _ _ (differs (omega arith)))
      | inr (inl before) ↦ begins_behind es place n k d apart holds within before
      | inr (inr behind) ↦ let e = apart.rise n k d behind lt in let h = holds.1 n d (omega arith) (omega arith) in ne_eqb _ _ (λ is. omega arith)
    ])

-- one more entry behind those before it
pub apart_push : (es : List FrameEntry) (e : FrameEntry) → StandApart es → All (λ x. x.end ≤ e.place) es → e.place + 8 ≤ e.end → StandApart (es ++ e ∷ [])
apart_push es e apart ends filled = record {
  rise = all_pairs_push (λ x later. x.end ≤ later.place) es e apart.rise (λ k d lt. ends k d lt);
  filled = All-push (λ x. x.place + 8 ≤ x.end) es e apart.filled filled;
}

pub ends_push : (es : List FrameEntry) (e : FrameEntry) → All (λ x. x.end ≤ e.place) es → e.place ≤ e.end → All (λ x. x.end ≤ e.end) (es ++ e ∷ [])
ends_push es e ends le = All-push (λ x. x.end ≤ e.end) es e (λ k d lt. let h = ends k d lt in omega arith) (le_refl _)
