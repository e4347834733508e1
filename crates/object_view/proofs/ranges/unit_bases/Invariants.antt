use Rattle.std.proofs.Common.{◌≡◌, take, map, slice_get}
use Rattle.std.specs.Option.{option_map_or}
use Rattle.dwarf_types.specs.declared.address.Addr.TheVariants as addrs
use Rattle.object_view.specs.Attributes as Attributes
use Rattle.object_view.proofs.ranges.unit_bases.Given as goal

abbrev pub invariant-loop-unit : goal.invariant-loop-unit
invariant-loop-unit l = l.bases ≡ map (λ u. option_map_or Attributes.base_of (slice_get l.entries u.first) (addrs.Fixed 0)) (take l.unit-index l.units)
