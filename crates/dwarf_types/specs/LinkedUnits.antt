-- Which units and entries are written, and where each entry went: the linked graph without what its nodes say.
use Rattle.std.specs.Prelude.{ℕ, ◌+◌, ◌==◌, ◌&&◌, Bool, false, List, length, slice_get, Option, Some, None, if◌then◌else◌}
use Rattle.std.specs.List.{enumerate_from, filter, filter_map, flat_map, position}
use Rattle.std.specs.Option.{option_and_then, option_map, option_map_or}
use Rattle.dwarf_types.specs.declared.analysis.Analysis.{Analysis}
use Rattle.dwarf_types.specs.declared.entry.Entry.{Entry}
use Rattle.dwarf_types.specs.declared.graph.Target.{Target}

-- an object: its analysis, and for each of its entries whether it has a node in its own unit
pub record Object : Type 0 where
  pub seen : Analysis
  pub kept : List Bool

-- the entries of an object with their numbers
abbrev pub numbered : Object → List (ℕ × Entry)
numbered o = enumerate_from 0 o.seen.entries

abbrev pub is_kept : Object → ℕ → Bool
is_kept o k = option_map_or (λ b. b) (slice_get o.kept k) false

-- the entries of a unit that have a node, in document order, which is preorder
abbrev pub kept_entries : Object → ℕ → List (ℕ × Entry)
kept_entries o u = filter (λ e. e.1.unit == u && is_kept o e.0) (numbered o)

-- a unit of an object by its number there; the objects count from 0
pub record Source : Type 0 where
  pub object : ℕ
  pub unit : ℕ

abbrev pub same_source : Source → Source → Bool
same_source a b = a.object == b.object && a.unit == b.unit

-- the units of an object that are written: those with an entry that has a node
abbrev pub sources_in : ℕ × Object → List Source
sources_in o = filter_map (λ u. if length (kept_entries o.1 u.0) == 0 then None else Some (record { object = o.0; unit = u.0 })) (enumerate_from 0 o.1.seen.units)

-- of all objects in order, and of each object in the order of its units
abbrev pub sources : List Object → List Source
sources objects = flat_map sources_in (enumerate_from 0 objects)

-- the node of entry k among those of its unit: as many entries of the unit stand before it that have one
abbrev pub node_number : Object → ℕ → ℕ → Option ℕ
node_number o u k = position (λ e. e.0 == k) (kept_entries o u)

-- the node of an entry's parent
abbrev pub parent_node : Object → ℕ → Entry → Option ℕ
parent_node o u e = option_and_then (node_number o u) e.parent

-- where the node of entry k of an object stands, if it has one in its own unit; the first of these units has a number in the output
abbrev pub plain_target : ℕ → List Object → ℕ → ℕ → Option Target
plain_target first objects object k =
    option_and_then (λ o. option_and_then (λ e. option_and_then (λ unit. option_map (λ node. record { unit = first + unit; node = node }) (node_number o e.unit k))
    (position (same_source (record { object = object; unit = e.unit })) (sources objects))) (slice_get o.seen.entries k)) (slice_get objects object)
