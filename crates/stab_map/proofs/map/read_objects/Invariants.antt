use Rattle.std.proofs.Common.{◌≡◌, drop}
use Rattle.stab_map.specs.Addresses.{address_in}
use Rattle.stab_map.specs.DebugMap.{objects_of}
use Rattle.stab_map.specs.Pass.{map_from}
use Rattle.stab_map.proofs.map.read_objects.Given as goal

-- what the symbols from here on make of the map so far is the map of all
abbrev pub invariant-loop-index : goal.invariant-loop-index
invariant-loop-index l = map_from (address_in l.addresses) l.objects l.state l.index (drop l.index l.image.symbols) ≡ objects_of l.image
