-- A sound address map: what every map that was built keeps to.
use Rattle.std.specs.Prelude.{◌+◌, ◌-◌, ◌^◌, ◌<◌, ◌≤◌}
use Rattle.std.specs.List.{All, AllPairs}
use Rattle.addr_map.specs.declared.map.AddrMap.{AddrMap}
use Rattle.addr_map.specs.declared.map.MapRange.{MapRange}

-- the range holds an address, and its linked end doesn't pass 2^64 - 1
pub record IsSoundRange (r : MapRange) : Type 0 where
  pub not_empty : r.start < r.end
  pub fits : r.linked + (r.end - r.start) < 2 ^ 64

pub record IsSound (map : AddrMap) : Type 0 where
  pub ranges : All IsSoundRange map.ranges
  -- the ranges are in order, and don't overlap
  pub apart : AllPairs (λ r later. r.end ≤ later.start) map.ranges
  -- the symbols are in order, so none has two linked addresses
  pub names : AllPairs (λ n later. n.symbol < later.symbol) map.names
