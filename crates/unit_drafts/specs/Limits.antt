-- The limits that a linked graph reaches before it is laid out.
use Rattle.std.specs.Prelude.{◌-◌, ◌^◌, Bool, List, length, Option, Some, None, is_some, nat_le, if◌then◌else◌}
use Rattle.dwarf_types.specs.declared.analysis.Analysis.{Analysis}
use Rattle.dwarf_types.specs.declared.graph.Graph.{Graph}
use Rattle.link_graph.specs.Merged.{linked_names}
use Rattle.layout.specs.Lengths.{long_unit}
use Rattle.link_status.specs.declared.refusal.LimitKind.TheVariants as limits
use Rattle.link_status.specs.declared.refusal.Refusal.{Refusal}
use Rattle.link_status.specs.declared.refusal.Refusal.TheVariants as refusals
use Rattle.unit_drafts.specs.Graphs.{graph_of}

-- as many units as the limit of a section has bytes, or more
abbrev pub are_many : Graph → Bool
are_many graph = nat_le (2 ^ 32 - 1) (length graph.units)

-- the first limit of a graph's units: of their number, or of one unit's bytes
abbrev pub units_limit : Graph → Option Refusal
units_limit graph =
    if are_many graph then Some (refusals.Limit limits.Section (2 ^ 32 - 1))
    else if is_some (long_unit graph) then Some (refusals.Limit limits.Unit (2 ^ 28))
    else None

-- the first limit of what is drafted of analyses with their live entries: so many entries are merged that they can't be numbered, or one of the units
abbrev pub drafts_limit : Bool → List Analysis → List (List Bool) → Option Refusal
drafts_limit odr seen live =
    if nat_le (2 ^ 25) (length (linked_names odr seen live)) then Some (refusals.Limit limits.Pooled (2 ^ 25)) else units_limit (graph_of odr seen live)
