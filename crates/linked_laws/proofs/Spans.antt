-- The addresses of a unit's code are some.
use Rattle.std.proofs.Common.{◌≡◌, ◌==◌, ◌&&◌, ℕ, Bool, true, false, cond, List, [], ◌∷◌, slice_get, Option, Some, None, sym, subst}
use Rattle.std.specs.List.{All, filter_map}
use Rattle.std.specs.Option.{option_and_then}
use Rattle.std.proofs.lemmas.List.Elements.{All-cons, All-head, All-nil, All-tail}
use Rattle.dwarf_types.specs.declared.address.Span.{Span}
use Rattle.dwarf_types.specs.declared.analysis.CodeRange.{CodeRange}
use Rattle.dwarf_types.specs.declared.entry.Entry.{Entry}
use Rattle.dwarf_types.specs.LinkedGraph.{code_of_unit, comes_before, in_order, piece_in, placed_span}
use Rattle.dwarf_types.specs.LinkedUnits.{Object, is_kept}
use Rattle.dwarf_types.specs.WellValues.{IsSpan}
use Rattle.link_graph.proofs.Gathered.{All-filter_map}
use Rattle.linked_laws.proofs.Attributes.{when_some}

module _ (P : Span → Type 0) where
  placed_by : (s x : Span) (xs : List Span) (a b : Bool) → P s → P x → All P xs → All P (placed_span s xs) → All P (cond a (s ∷ x ∷ xs) (cond b (x ∷ placed_span s xs) (x ∷ xs)))
  placed_by s x xs true b ps px h more = All-cons P s (x ∷ xs) ps (All-cons P x xs px h)
  placed_by s x xs false true ps px h more = All-cons P x (placed_span s xs) px more
  placed_by s x xs false false ps px h more = All-cons P x xs px h

  placed : (s : Span) (xs : List Span) → P s → All P xs → All P (placed_span s xs)
  placed s [] ps h = All-cons P s [] ps h
  placed s (x ∷ xs) ps h = placed_by s x xs (comes_before s x) (comes_before x s) ps (All-head P x xs h) (All-tail P x xs h) (placed s xs ps (All-tail P x xs h))

  ordered : (spans : List Span) → All P spans → All P (in_order spans)
  ordered [] h = All-nil P
  ordered (s ∷ spans) h = placed s (in_order spans) (All-head P s spans h) (ordered spans (All-tail P s spans h))

piece_some : (o : Object) (u : ℕ) (piece : CodeRange) (found : Option Entry) (y : Span) → option_and_then (λ (e : Entry). cond (e.unit == u && is_kept o piece.entry) (Some piece.span) None) found ≡ Some y → IsSpan piece.span → IsSpan y
piece_some o u piece None y e h = absurd cc
piece_some o u piece (Some entry) y e h = subst IsSpan (sym (when_some (entry.unit == u && is_kept o piece.entry) piece.span y e)) h

pub code_spans : (o : Object) (u : ℕ) → All (λ piece. IsSpan piece.span) o.seen.code → All IsSpan (code_of_unit o u)
code_spans o u h =
    ordered IsSpan (filter_map (piece_in o u) o.seen.code)
    (All-filter_map IsSpan (piece_in o u) o.seen.code (λ k d lt y e. piece_some o u _ (slice_get o.seen.entries _) y e (h k d lt)))
