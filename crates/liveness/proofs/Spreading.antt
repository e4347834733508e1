-- From the roots on: the state at first, after a step, and at the end.
use Rattle.std.proofs.Common.{ℕ, zero, suc, Bool, false, List, [], ◌∷◌, ◌++◌, length, replicate, ◌↔◌, ◌⊎◌, inl, inr, sym, subst, ◌∙◌}
use Rattle.std.specs.List.{Contains}
use Rattle.std.proofs.lemmas.List.{length-replicate}
use Rattle.std.proofs.lemmas.List.Elements.{Contains-append_left, Contains-push, Contains-push_cases}
use Rattle.dwarf_types.specs.declared.entry.Entry.{Entry}
use Rattle.dwarf_types.specs.Live.{IsLive, IsReachedIn, IsRoot, Needs}
use Rattle.liveness.specs.Marking.{Grown, Marked, Spread}
use Rattle.liveness.proofs.Elements.{none_contained}
use Rattle.liveness.proofs.Marks.{none_marked}

pub spread_first : (entries : List Entry) (row : List Bool) (work roots : List ℕ) → ((k : ℕ) → Contains roots k ↔ IsRoot entries k) → Grown (replicate (length entries) false) [] row work roots → Spread entries row work
spread_first entries row work roots are g = record {
  len = g.len ∙ length-replicate (length entries) false;
  sound = λ k m. elim (g.fresh k m) [ inl w ↦ absurd (none_marked (length entries) k w) | inr w ↦ (zero, (are k).0 w.0) ];
  roots = λ k r. g.marked k ((are k).1 r);
  waits = λ k w. elim (g.waits k w) [ inl q ↦ absurd (none_contained k q) | inr q ↦ g.marked k q ];
  closed = λ k j m need. elim (g.fresh k m) [ inl w ↦ absurd (none_marked (length entries) k w) | inr w ↦ inr w.1 ];
}

pub spread_more : (entries : List Entry) (row : List Bool) (work : List ℕ) (k : ℕ) (row' : List Bool) (work' these : List ℕ) → Spread entries row (work ++ k ∷ []) → ((j : ℕ) → Contains these j ↔ Needs entries k j) → Grown row work row' work' these → Spread entries row' work'
spread_more entries row work k row' work' these s are g = record {
  len = g.len ∙ s.len;
  sound = λ j m. elim (g.fresh j m) [
    | inl w ↦ s.sound j w
    | inr w ↦ (let it = s.sound k (s.waits k (Contains-push work k)) in (suc it.0, (k, it.1, (are j).0 w.0)))
  ];
  roots = λ j r. g.kept j (s.roots j r);
  waits = λ j w. elim (g.waits j w) [ inl q ↦ g.kept j (s.waits j (Contains-append_left work (k ∷ []) j q)) | inr q ↦ g.marked j q ];
  closed = closed;
}
  where
    closed : (i j : ℕ) → Marked row' i → Needs entries i j → Marked row' j ⊎ Contains work' i
    closed i j m need = elim (g.fresh i m) [
      | inl w ↦ elim (s.closed i j w need) [
        | inl q ↦ inl (g.kept j q)
        | inr q ↦ elim (Contains-push_cases work k i q) [
          | inl r ↦ inr (g.still_waits i r)
          | inr e ↦ inl (g.marked j ((are j).1 (subst (λ (n : ℕ). Needs entries n j) (sym e) need)))
        ]
      ]
      | inr w ↦ inr w.1
    ]

reached : (entries : List Entry) (row : List Bool) → Spread entries row [] → (n k : ℕ) → IsReachedIn entries n k → Marked row k
reached entries row s zero k r = s.roots k r
reached entries row s (suc n) k r = elim (s.closed r.0 k (reached entries row s n r.0 r.1) r.2) [ inl m ↦ m | inr w ↦ absurd (none_contained r.0 w) ]

pub spread_done : (entries : List Entry) (row : List Bool) → Spread entries row [] → (k : ℕ) → Marked row k ↔ IsLive entries k
spread_done entries row s k = (s.sound k, λ w. reached entries row s w.0 k w.1)
