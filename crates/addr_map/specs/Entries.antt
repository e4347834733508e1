-- What an entry of the debug map gives to an object: a range of addresses that were linked, or the linked address of a symbol.
use Rattle.std.specs.Prelude.{ℕ, ◌+◌, ◌-◌, ◌^◌, ◌==◌, ◌&&◌, not, min, Bool, List, slice_get, Option, Some, None, nat_lt, if◌then◌else◌}
use Rattle.std.specs.List.{enumerate_from, filter_map, find, reduce}
use Rattle.std.specs.Option.{option_and_then, option_map, option_or}
use Rattle.std.specs.Str.{bytes_eq}
use Rattle.macho_read.specs.declared.image.Image.{Image}
use Rattle.macho_read.specs.declared.image.Section.{Section}
use Rattle.macho_read.specs.declared.image.Symbol.{Symbol}
use Rattle.stab_map.specs.declared.object.MapEntry.{MapEntry}
use Rattle.macho_read.specs.declared.standing.Standing.{Standing}
use Rattle.macho_read.specs.declared.standing.Standing.TheVariants as standings
use Rattle.macho_read.specs.Standings.{is_stab, standing_of}
use Rattle.addr_map.specs.declared.map.MapRange.{MapRange}
use Rattle.addr_map.specs.declared.entry.Given.{Given}
use Rattle.addr_map.specs.declared.entry.Given.TheVariants as givens

-- ---- the symbol that is named

-- a symbol has a name and isn't a stab
abbrev pub has_name : List ℕ → ℕ × Symbol → Bool
has_name name symbol = not (is_stab symbol.1) && bytes_eq symbol.1.name name

-- the object's first symbol of a name that isn't a stab, with its index from 0
abbrev pub named : Image → List ℕ → Option (ℕ × Symbol)
named image name = find (has_name name) (enumerate_from 0 image.symbols)

-- ---- where a variable ends

-- the section and the address of a symbol, where it is defined in one
abbrev pub place_of : Standing → ℕ → Option (ℕ × ℕ)
place_of (standings.Defined section) address = Some (section, address)
place_of standings.Common address = None
place_of standings.Undefined address = None
place_of standings.Absolute address = None

-- of all symbols; a stab has none
abbrev pub places : Image → List (ℕ × ℕ)
places image = filter_map (λ s. place_of (standing_of image s) s.value) image.symbols

-- the address of a place in a section that is greater than a start
abbrev pub above : ℕ → ℕ → ℕ × ℕ → Option ℕ
above section start place = if place.0 == section && nat_lt start place.1 then Some place.1 else None

-- the next greater address of a symbol of the section
abbrev pub next_among : ℕ → ℕ → List (ℕ × ℕ) → Option ℕ
next_among section start places = reduce min (filter_map (above section start) places)

-- a number, unless it passes 2^64 - 1
abbrev pub in_64_bits : ℕ → Option ℕ
in_64_bits n = if nat_lt n (2 ^ 64) then Some n else None

-- the section of an ordinal, which counts from 1
abbrev pub section_of : Image → ℕ → Option Section
section_of image ordinal = slice_get image.sections (ordinal - 1)

-- the address behind it
abbrev pub section_end : Image → ℕ → Option ℕ
section_end image ordinal = option_and_then (λ s. in_64_bits (s.addr + s.size)) (section_of image ordinal)

-- a function ends behind its size, and a variable at the next symbol of its section, or else with the section
abbrev pub end_of : Image → Option ℕ → ℕ → ℕ → Option ℕ
end_of image (Some size) section start = in_64_bits (start + size)
end_of image None section start = option_or (next_among section start (places image)) (section_end image section)

-- ---- what it is given

-- the range between two addresses of the object, unless where it was linked would pass 2^64 - 1
abbrev pub range_from : ℕ → ℕ → ℕ → Option MapRange
range_from linked start end = if nat_lt (linked + (end - start)) (2 ^ 64) then Some (record { start = start; end = end; linked = linked }) else None

-- what an entry gives by its symbol: a range where that is defined in a section, and a linked address where it is common or undefined
abbrev pub given_at : Image → MapEntry → Standing → ℕ → ℕ → Option Given
given_at image entry (standings.Defined section) symbol start = option_map (λ r. givens.Range r) (option_and_then (λ end. range_from entry.linked start end) (end_of image entry.size section start))
given_at image entry standings.Common symbol start = Some (givens.Name (record { symbol = symbol; linked = entry.linked }))
given_at image entry standings.Undefined symbol start = Some (givens.Name (record { symbol = symbol; linked = entry.linked }))
given_at image entry standings.Absolute symbol start = None

-- nothing where no symbol has its name
abbrev pub given_of : Image → MapEntry → Option Given
given_of image entry = option_and_then (λ s. given_at image entry (standing_of image s.1) s.0 s.1.value) (named image entry.name)
