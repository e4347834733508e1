use Rattle.std.proofs.Common.{◌≡◌, ◌++◌, drop}
use Rattle.std.specs.List.{filter_map}
use Rattle.dwarf_types.specs.LinkedValues.{location_written}
use Rattle.clone_values.specs.Images.{image_at}
use Rattle.clone_values.proofs.value.items_written.Given as goal

-- the items so far and those that are left
abbrev pub invariant-loop-k : goal.invariant-loop-k
invariant-loop-k l = l.locations ++ filter_map (location_written (image_at l.images)) (drop l.k l.items) ≡ filter_map (location_written (image_at l.images)) l.items
