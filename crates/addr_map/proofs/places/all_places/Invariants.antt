use Rattle.std.proofs.Common.{◌≡◌, ◌++◌, drop}
use Rattle.std.specs.List.{filter_map}
use Rattle.macho_read.specs.Standings.{standing_of}
use Rattle.addr_map.specs.Entries.{place_of}
use Rattle.addr_map.proofs.places.all_places.Given as goal

-- the places so far and those of the other symbols are the places of all
abbrev pub invariant-loop-i : goal.invariant-loop-i
invariant-loop-i l =
    l.all.items ++ filter_map (λ s. place_of (standing_of l.image s) s.value) (drop l.i l.image.symbols) ≡ filter_map (λ s. place_of (standing_of l.image s) s.value) l.image.symbols
