-- The pieces of a unit's code, as pairs of addresses in order.
use Rattle.std.specs.Prelude.{ℕ, ◌<◌, ◌≤◌, ◌⊎◌, ◌==◌, ◌&&◌, Bool, false, List, [], ◌∷◌, map, slice_get, Option, Some, None, is_some, if◌then◌else◌}
use Rattle.std.specs.Option.{option_map, option_map_or}
use Rattle.std.specs.Ordering.{nat_cmp, ordering_then}
use Rattle.std.specs.declared.cmp.Ordering.{Ordering}
use Rattle.dwarf_types.specs.declared.address.Span.{Span}
use Rattle.dwarf_types.specs.declared.analysis.Analysis.{Analysis}
use Rattle.dwarf_types.specs.declared.analysis.CodeRange.{CodeRange}
use Rattle.dwarf_types.specs.LinkedGraph.{piece_in}
use Rattle.dwarf_types.specs.LinkedUnits.{Object}

-- an object by its analysis and the nodes of its entries
abbrev pub object_in : Analysis → List (Option ℕ) → Object
object_in seen plain = record { seen = seen; kept = map is_some plain }

abbrev pub pair_of : Span → ℕ × ℕ
pair_of span = (span.low, span.high)

abbrev pub span_of : ℕ × ℕ → Span
span_of pair = record { low = pair.0; high = pair.1 }

-- a piece of unit u that is written, as a pair
abbrev pub pair_in : Object → ℕ → CodeRange → Option (ℕ × ℕ)
pair_in o u piece = option_map pair_of (piece_in o u piece)

-- entry k is marked
abbrev pub is_marked : List Bool → ℕ → Bool
is_marked marks k = option_map_or (λ b. b) (slice_get marks k) false

-- a piece whose subprogram is marked as written, as a pair
abbrev pub written_pair : List Bool → CodeRange → Option (ℕ × ℕ)
written_pair marks piece = if is_marked marks piece.entry then Some (pair_of piece.span) else None

-- by the low end, and then by the high one
abbrev pub pair_cmp : ℕ × ℕ → ℕ × ℕ → Ordering
pair_cmp p q = ordering_then (nat_cmp p.0 q.0) (nat_cmp p.1 q.1)

abbrev pub same_pair : ℕ × ℕ → ℕ × ℕ → Bool
same_pair p q = p.0 == q.0 && p.1 == q.1

-- each pair that is not the one before it, as a span
abbrev pub once_behind : Option (ℕ × ℕ) → List (ℕ × ℕ) → List Span
once_behind last [] = []
once_behind last (p ∷ ps) = if option_map_or (λ q. same_pair q p) last false then once_behind last ps else span_of p ∷ once_behind (Some p) ps

-- a piece of an entry that does not stand in a stretch of entries
abbrev pub IsOutside : ℕ → ℕ → CodeRange → Type 0
IsOutside first end piece = (piece.entry < first) ⊎ (end ≤ piece.entry)
