-- The linked graph: each written unit with its nodes, its line table and the addresses of its code, and the frames.
use Rattle.std.specs.Prelude.{ℕ, ◌==◌, ◌&&◌, ◌||◌, Bool, List, [], ◌∷◌, ◌++◌, length, map, slice_get, Option, Some, None, is_none, nat_lt, if◌then◌else◌}
use Rattle.std.specs.List.{filter_map, flat_map}
use Rattle.std.specs.Option.{option_and_then, option_map}
use Rattle.dwarf_types.specs.declared.address.Span.{Span}
use Rattle.dwarf_types.specs.declared.analysis.CodeRange.{CodeRange}
use Rattle.dwarf_types.specs.declared.entry.Entry.{Entry}
use Rattle.dwarf_types.specs.declared.entry.InUnit.{InUnit}
use Rattle.dwarf_types.specs.declared.graph.Graph.{Graph}
use Rattle.dwarf_types.specs.declared.graph.Node.{Node}
use Rattle.dwarf_types.specs.declared.graph.OutAttr.{OutAttr}
use Rattle.dwarf_types.specs.declared.graph.OutUnit.{OutUnit}
use Rattle.dwarf_types.specs.declared.graph.Target.{Target}
use Rattle.dwarf_types.specs.LinkedUnits.{Object, Source, is_kept, kept_entries, parent_node, plain_target, sources}
use Rattle.dwarf_types.specs.LinkedValues.{attrs_written}
use Rattle.dwarf_types.specs.WellRoots.{closing_pair}

-- ---- the addresses of a unit's code

-- by the low end, and then by the high one
abbrev pub comes_before : Span → Span → Bool
comes_before a b = nat_lt a.low b.low || (a.low == b.low && nat_lt a.high b.high)

-- a span put where it belongs, unless it is there
abbrev pub placed_span : Span → List Span → List Span
placed_span s [] = s ∷ []
placed_span s (x ∷ xs) = if comes_before s x then s ∷ x ∷ xs else if comes_before x s then x ∷ placed_span s xs else x ∷ xs

-- spans in order, each once
abbrev pub in_order : List Span → List Span
in_order [] = []
in_order (s ∷ spans) = placed_span s (in_order spans)

-- the pieces of a unit's subprograms that are written
abbrev pub piece_in : Object → ℕ → CodeRange → Option Span
piece_in o u piece =
    option_and_then (λ e. if e.unit == u && is_kept o piece.entry then Some piece.span else None) (slice_get o.seen.entries piece.entry)

abbrev pub code_of_unit : Object → ℕ → List Span
code_of_unit o u = in_order (filter_map (piece_in o u) o.seen.code)

-- ---- nodes

-- a root whose unit has code ends with its ranges
abbrev pub closing : Entry → List Span → List OutAttr
closing e spans = if is_none e.parent then (if length spans == 0 then [] else closing_pair spans) else []

-- the node of an entry in its own unit, by the image of each entry of its object
abbrev pub node_of : (ℕ → Option Target) → Object → ℕ → ℕ × Entry → Node
node_of image o u e =
    record {
      parent = parent_node o u e.1;
      tag = e.1.tag;
      attrs = attrs_written image None e.1 ++ closing e.1 (code_of_unit o u);
    }

-- ---- units

abbrev pub unit_written : (ℕ → Option Target) → Object → ℕ → InUnit → OutUnit
unit_written image o u unit =
    record {
      version = unit.version;
      nodes = map (node_of image o u) (kept_entries o u);
      lines = unit.lines;
      ranges = code_of_unit o u;
    }

-- by the image of each entry of each object
abbrev pub written : (ℕ → ℕ → Option Target) → List Object → Source → Option OutUnit
written image objects source =
    option_and_then (λ o. option_map (unit_written (image source.object) o source.unit) (slice_get o.seen.units source.unit)) (slice_get objects source.object)

-- The units of all objects behind some others, and the frames that the objects keep. An image tells where a reference to an entry leads: to its own node, or to one in the units before.
abbrev pub linked_behind : List OutUnit → (ℕ → ℕ → Option Target) → List Object → Graph
linked_behind units image objects = record { units = units ++ filter_map (written image objects) (sources objects); frames = flat_map (λ o. o.seen.frames) objects }

-- where nothing is merged, a reference leads to the entry's own node
abbrev pub linked : List Object → Graph
linked objects = linked_behind [] (plain_target 0 objects) objects
