-- The tables that indices of version 5 name (DWARF 5, sections 7.26 to 7.29), in the 32-bit format. A base is the place behind a table's header.
use Rattle.std.specs.Prelude.{◌≡◌, ◌≤◌, ℕ, ◌+◌, ◌-◌, ◌*◌, ◌/◌, ◌==◌, ◌&&◌, ◌||◌, Bool, false, not, List, length, drop, slice_index, nat_lt, Option, Some, None, Result, Ok, Err, if◌then◌else◌}
use Rattle.byteorder.specs.Endian.{little_number}
use Rattle.ds_base.specs.DwarfNumbers.{ADDRESS_SIZE, LENGTH_RESERVED}
use Rattle.ds_base.specs.declared.fault.Kind.{Kind}
use Rattle.ds_base.specs.declared.fault.Kind.TheVariants.{BadIndex}
use Rattle.dwarf_types.specs.SectionBytes.{SectionBytes}

-- the number in n bytes of a section from a place on, the lowest byte first
abbrev pub stored : ℕ → List ℕ → ℕ → ℕ
stored n section place = little_number n (drop place section)

-- the length in the header of a table: it counts the bytes behind itself
abbrev pub length_of : List ℕ → ℕ → ℕ
length_of section base = stored 4 section (base - 8)

-- the length is one of the 32-bit format, the table does not pass the section, and its version is 5
abbrev pub is_described : List ℕ → ℕ → Bool
is_described section base =
    not (nat_lt (length_of section base) 4) && (nat_lt (length_of section base) LENGTH_RESERVED
    && (not (nat_lt (length section) (base - 4 + length_of section base)) && stored 2 section (base - 4) == 5))

-- a table whose header is the 8 bytes before a base
unfoldable pub is_table : List ℕ → ℕ → Bool
is_table section base = if nat_lt base 8 || nat_lt (length section) base then false else is_described section base

-- one of addresses: it has addresses of 8 bytes, and segment selectors of none
unfoldable pub is_address_table : List ℕ → ℕ → Bool
is_address_table section base = is_table section base && (slice_index section (base - 2) == ADDRESS_SIZE && slice_index section (base - 1) == 0)

-- how many offsets a table of string offsets has (section 7.26), and how many addresses a table of addresses (section 7.27)
unfoldable pub text_count : List ℕ → ℕ → ℕ
text_count section base = if is_table section base then (length_of section base - 4) / 4 else 0

unfoldable pub address_count : List ℕ → ℕ → ℕ
address_count section base = if is_address_table section base then (length_of section base - 4) / 8 else 0

-- the place in __debug_str that stands at an index
unfoldable pub text_place : SectionBytes → ℕ → ℕ → Option ℕ
text_place sections base index = if nat_lt index (text_count sections.str_offs base) then Some (stored 4 sections.str_offs (base + 4 * index)) else None

-- the place in __debug_addr of the address at an index
unfoldable pub address_place : SectionBytes → ℕ → ℕ → Option ℕ
address_place sections base index = if nat_lt index (address_count sections.addr base) then Some (base + 8 * index) else None

-- How many offsets stand before the lists of a section (sections 7.28 and 7.29): the last number of the header, which has 12 bytes.
unfoldable pub list_count : List ℕ → ℕ → ℕ
list_count section base = if nat_lt base 12 || nat_lt (length section) base then 0 else stored 4 section (base - 4)

-- the place in __debug_rnglists or __debug_loclists of the list at an index, whose offset counts from the base
unfoldable pub list_place : List ℕ → ℕ → ℕ → Option ℕ
list_place section base index =
    if nat_lt index (list_count section base) && not (nat_lt (length section) (base + 4 * index + 4)) then Some (base + stored 4 section (base + 4 * index)) else None

-- What a table's header makes sure of: it is there, and the table with all its entries lies in the section.
pub record LiesIn (section : List ℕ) (base : ℕ) : Type 0 where
  pub header : 8 ≤ base
  pub some : 4 ≤ length_of section base
  pub inside : base - 4 + length_of section base ≤ length section

-- What a look-up answered is what stands at the index, or that the index is outside of its table.
abbrev pub LooksUp : Result ℕ Kind → Option ℕ → Type 0
LooksUp (Ok n) found = found ≡ Some n
LooksUp (Err kind) found = (found ≡ None) × (kind ≡ BadIndex)
