-- What passing over one object gives: its units that are written, the nodes of its entries, and where references to them lead.
use Rattle.std.specs.Prelude.{ℕ, ◌+◌, ◌-◌, ◌==◌, Bool, true, false, List, [], ◌∷◌, map, take, drop, length, replicate, slice_get, slice_set, Option, Some, None, if◌then◌else◌}
use Rattle.std.specs.List.{enumerate_from, filter, filter_map, flat_map}
use Rattle.std.specs.Option.{option_and_then, option_map, option_map_or}
use Rattle.dwarf_types.specs.declared.analysis.Analysis.{Analysis}
use Rattle.dwarf_types.specs.declared.entry.Entry.{Entry}
use Rattle.dwarf_types.specs.declared.entry.InUnit.{InUnit}
use Rattle.dwarf_types.specs.declared.graph.Target.{Target}
use Rattle.dwarf_types.specs.declared.shape.Origin.{Origin}
use Rattle.dwarf_types.specs.declared.shape.ShapeUnit.{ShapeUnit}
use Rattle.dwarf_types.specs.Kept.{kept_of}
use Rattle.dwarf_types.specs.LinkedShape.{origin_of, plain_in}
use Rattle.dwarf_types.specs.LinkedUnits.{Object, is_kept, kept_entries, node_number, numbered}
use Rattle.type_names.specs.Names.{Named}
use Rattle.link_graph.specs.Pool.{node_of_path}

-- an analysis with its marks
abbrev pub marked : Analysis → List Bool → Object
marked seen live = record { seen = seen; kept = live }

-- ---- one entry

-- the node of a parent, where those of the entries up to it are known
abbrev pub parent_in : List (Option ℕ) → Option ℕ → Option ℕ
parent_in plain parent = option_and_then (λ p. option_and_then (λ node. node) (slice_get plain p)) parent

-- the node of entry k of an object, if it is kept; the objects count from 1
abbrev pub nodes_with : Bool → ℕ → ℕ → Entry → List (Option ℕ) → List Origin
nodes_with kept object k e plain = if kept then record { object = object; entry = k; parent = parent_in plain e.parent } ∷ [] else []

abbrev pub plain_with : Bool → ℕ → Option ℕ
plain_with kept node = if kept then Some node else None

-- a node of the unit of a number
abbrev pub target_in : ℕ → Option ℕ → Option Target
target_in number node = option_map (λ n. record { unit = number; node = n }) node

abbrev pub node_in : Option Target → Option ℕ
node_in image = option_map (λ target. target.node) image

-- ---- one unit

-- n entries from one on
abbrev pub stretch : Object → ℕ → ℕ → List (ℕ × Entry)
stretch o first n = take n (drop first (numbered o))

-- the entries of unit u
abbrev pub entries_of : Object → ℕ → List (ℕ × Entry)
entries_of o u = option_map_or (λ unit. stretch o unit.first unit.count) (slice_get o.seen.units u) []

abbrev pub is_kept_one : Object → ℕ × Entry → Bool
is_kept_one o e = is_kept o e.0

-- the nodes of these entries of unit u
abbrev pub nodes_in : ℕ → Object → ℕ → List (ℕ × Entry) → List Origin
nodes_in object o u es = map (origin_of object o u) (filter (is_kept_one o) es)

-- the numbers of their nodes
abbrev pub plain_in_unit : Object → ℕ → List (ℕ × Entry) → List (Option ℕ)
plain_in_unit o u es = map (λ e. node_number o u e.0) es

-- where references to them lead, where the unit has a number in the output
abbrev pub images_in_unit : ℕ → Object → ℕ → List (ℕ × Entry) → List (Option Target)
images_in_unit number o u es = map (λ e. target_in number (node_number o u e.0)) es

-- ---- one object

-- a unit by its number, if it is written
abbrev pub unit_in : ℕ → Object → ℕ × InUnit → Option ShapeUnit
unit_in object o u =
    if length (kept_entries o u.0) == 0 then None else Some (record { version = u.1.version; nodes = map (origin_of object o u.0) (kept_entries o u.0) })

-- unit u, if it is written
abbrev pub unit_at : ℕ → Object → ℕ → Option ShapeUnit
unit_at object o u = option_and_then (λ unit. unit_in object o (u, unit)) (slice_get o.seen.units u)

-- those of the units below u
abbrev pub units_below : ℕ → Object → ℕ → List ShapeUnit
units_below object o u = filter_map (unit_in object o) (take u (enumerate_from 0 o.seen.units))

abbrev pub units_of : ℕ → Object → List ShapeUnit
units_of object o = filter_map (unit_in object o) (enumerate_from 0 o.seen.units)

-- where references to an entry lead, behind so many units of the objects before
abbrev pub image_behind : ℕ → ℕ → Object → ℕ × Entry → Option Target
image_behind before object o e = target_in (before + length (units_below object o e.1.unit)) (node_number o e.1.unit e.0)

abbrev pub images_of : ℕ → ℕ → Object → List (Option Target)
images_of before object o = map (image_behind before object o) (numbered o)

-- ---- objects

-- the units of the objects below i
abbrev pub units_before : List Object → ℕ → List ShapeUnit
units_before objects i = flat_map (λ o. units_of o.0 o.1) (take i (enumerate_from 0 objects))

-- the nodes of the entries of the objects below i
abbrev pub plain_before : List Object → ℕ → List (List (Option ℕ))
plain_before objects i = map plain_in (take i objects)

-- ---- merged entries

-- the names from one on up to another
abbrev pub names_between : List Named → ℕ → ℕ → List Named
names_between names from end = take (end - from) (drop from names)

-- something is put at the entry of each of these names
abbrev pub put_each : {A : Type 0} → (Named → A) → List Named → List A → List A
put_each f [] xs = xs
put_each f (w ∷ ws) xs = put_each f ws (slice_set xs w.entry (f w))

-- a row for so many entries that marks those of these names
abbrev pub merged_by : ℕ → List Named → List Bool
merged_by entries ws = put_each (λ w. true) ws (replicate entries false)

-- which entries of an object have a node in their own unit, where those of these names are merged
abbrev pub kept_with : Analysis → List Bool → List Named → Object
kept_with seen live ws = marked seen (kept_of seen.entries live (merged_by (length seen.entries) ws))

-- the node of a name's path in the first unit
abbrev pub path_target : List Named → Named → Option Target
path_target names w = target_in 0 (node_of_path names w.path)

-- ---- the pool's unit

-- units of which the first is of a version
abbrev pub with_version : ℕ → List ShapeUnit → List ShapeUnit
with_version version [] = []
with_version version (first ∷ units) = record { version = version; nodes = first.nodes } ∷ units
