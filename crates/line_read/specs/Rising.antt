-- What every sequence that is read keeps to: its addresses of the object do not fall (DWARF 4, section 6.2.5).
use Rattle.std.specs.Prelude.{◌≤◌, ℕ, List, ◌++◌, Option, Some, None}
use Rattle.std.specs.List.{AllPairs, filter_map}
use Rattle.std.specs.Option.{option_to_list}
use Rattle.dwarf_types.specs.declared.address.Addr.{Addr}
use Rattle.dwarf_types.specs.declared.address.Addr.TheVariants as addrs
use Rattle.dwarf_types.specs.declared.lines.RawSequence.{RawSequence}

-- an address of the object
abbrev pub placed : Addr → Option ℕ
placed (addrs.Placed a) = Some a
placed (addrs.Named symbol a) = None
placed (addrs.Fixed a) = None

-- the addresses of the object among those of the rows and the end, in order
abbrev pub addresses : RawSequence → List ℕ
addresses s = filter_map (λ row. placed row.at) s.rows ++ filter_map placed (option_to_list s.end)

abbrev pub DoesNotFall : RawSequence → Type 0
DoesNotFall s = AllPairs (λ a later. a ≤ later) (addresses s)
