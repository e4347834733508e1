-- The addresses of an output unit as bytes (DWARF 4, section 6.1.2).
use Rattle.std.specs.Prelude.{ℕ, ◌+◌, ◌-◌, ◌*◌, ◌==◌, List, [], ◌∷◌, ◌++◌, length, replicate, if◌then◌else◌}
use Rattle.std.specs.List.{flat_map}
use Rattle.byteorder.specs.Endian.{little_bytes}
use Rattle.dwarf_types.specs.declared.address.Span.{Span}

-- "the beginning address of a range of text or data" and its length
abbrev pub arange_bytes : Span → List ℕ
arange_bytes span = little_bytes 8 span.low ++ little_bytes 8 (span.high - span.low)

-- a set, 32 bytes and 16 for each range: unit_length, version 2, debug_info_offset, address_size, segment_size, four bytes up to a multiple of 16, the ranges, two zeros
abbrev pub set_len : List Span → ℕ
set_len spans = 32 + 16 * length spans

abbrev pub set_bytes : ℕ → List Span → List ℕ
set_bytes start spans =
    little_bytes 4 (set_len spans - 4) ++ (little_bytes 2 2 ++ (little_bytes 4 start ++ (8 ∷ 0 ∷ (replicate 4 0
    ++ (flat_map arange_bytes spans ++ replicate 16 0)))))

-- that of a unit whose header stands at a place, if it has addresses
abbrev pub aranges_bytes : ℕ → List Span → List ℕ
aranges_bytes start spans = if length spans == 0 then [] else set_bytes start spans
