-- An object alone, and the row of its live entries.
use Rattle.std.proofs.Common.{◌≡◌, ℕ, zero, suc, Bool, List, [], ◌∷◌, length, slice_get, Some, ap, sym, ◌∙◌, subst}
use Rattle.dwarf_types.specs.declared.analysis.Analysis.{Analysis}
use Rattle.odr_names.specs.Making.{AreLiveRows, IsLiveRow}

pub live_rows : (seen : Analysis) (live : List Bool) (objects : List Analysis) (rows : List (List Bool)) → objects ≡ seen ∷ [] → rows ≡ live ∷ [] → IsLiveRow seen.entries live → AreLiveRows objects rows
live_rows seen live objects rows one row given = record { len = let same : length rows ≡ length objects = cc in same; each = λ i a marks at here. each i a marks (ap (λ (xs : List Analysis). slice_get xs i) (sym one) ∙ at) (ap (λ (xs : List (List Bool)). slice_get xs i) (sym row) ∙ here) }
  where
    each : (i : ℕ) (a : Analysis) (marks : List Bool) → slice_get (seen ∷ []) i ≡ Some a → slice_get (live ∷ []) i ≡ Some marks → IsLiveRow a.entries marks
    each zero a marks at here = subst (λ (r : List Bool). IsLiveRow a.entries r) (let same : live ≡ marks = cc in same) (subst (λ (s : Analysis). IsLiveRow s.entries live) (let same : seen ≡ a = cc in same) given)
    each (suc i) a marks at here = absurd cc
