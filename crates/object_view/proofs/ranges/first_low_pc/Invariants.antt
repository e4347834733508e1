use Rattle.std.proofs.Common.{◌≡◌, drop, slice_get}
use Rattle.std.specs.List.{filter_map}
use Rattle.object_view.specs.Attributes.{low_pc_in}
use Rattle.object_view.proofs.ranges.first_low_pc.Given as goal

abbrev pub invariant-loop-j : goal.invariant-loop-j
invariant-loop-j l = slice_get (filter_map low_pc_in (drop l.j l.root.attrs)) 0 ≡ slice_get (filter_map low_pc_in l.root.attrs) 0
