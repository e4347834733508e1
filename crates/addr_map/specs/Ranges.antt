-- Where an object's addresses and symbols went in the linked program, by its part of the debug map.
use Rattle.std.specs.Prelude.{min, List, [], ◌∷◌, Option, Some, None, nat_lt}
use Rattle.std.specs.List.{filter, filter_map}
use Rattle.ds_base.specs.InOrder.{in_order}
use Rattle.macho_read.specs.declared.image.Image.{Image}
use Rattle.stab_map.specs.declared.object.MapObject.{MapObject}
use Rattle.addr_map.specs.declared.entry.Given.{Given}
use Rattle.addr_map.specs.declared.entry.Given.TheVariants as givens
use Rattle.addr_map.specs.declared.map.AddrMap.{AddrMap}
use Rattle.addr_map.specs.declared.map.MapRange.{MapRange}
use Rattle.addr_map.specs.declared.map.MapName.{MapName}
use Rattle.addr_map.specs.Entries.{given_of}

-- each range cut at the start of the next one
abbrev pub cut : List MapRange → List MapRange
cut [] = []
cut (r ∷ []) = r ∷ []
cut (r ∷ next ∷ rs) = record r { end = min r.end next.start } ∷ cut (next ∷ rs)

-- those that hold an address
abbrev pub kept : List MapRange → List MapRange
kept ranges = filter (λ r. nat_lt r.start r.end) ranges

-- a range, or a name, of what is given
abbrev pub range_part : Given → Option MapRange
range_part (givens.Range r) = Some r
range_part (givens.Name n) = None

abbrev pub name_part : Given → Option MapName
name_part (givens.Range r) = None
name_part (givens.Name n) = Some n

-- a range that holds no address still counts among equal starts, and cuts the one before it
abbrev pub map_from : List Given → AddrMap
map_from given =
    record {
      ranges = kept (cut (in_order (λ r. r.start) (filter_map range_part given)));
      names = in_order (λ n. n.symbol) (filter_map name_part given);
    }

unfoldable pub map_of : MapObject → Image → AddrMap
map_of object image = map_from (filter_map (given_of image) object.entries)
