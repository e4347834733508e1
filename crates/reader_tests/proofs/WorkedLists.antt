-- Range lists and location lists (DWARF 4 and 5, sections 2.17.3 and 2.6.2): what they give, or the first fault.
use Rattle.std.proofs.Common.{◌≡◌, ℕ, List, [], ◌∷◌, Result, Ok, Err, refl}
use Rattle.ds_base.specs.declared.fault.Fault.{Fault}
use Rattle.ds_base.specs.declared.fault.Kind.{Kind}
use Rattle.ds_base.specs.declared.fault.Kind.TheVariants as kinds
use Rattle.ds_base.specs.declared.fault.Part.{Part}
use Rattle.ds_base.specs.declared.fault.Part.TheVariants as parts
use Rattle.ds_base.specs.Reading.{bytes_at, leb_at, number_at, uleb_at}
use Rattle.dwarf_types.specs.declared.address.Addr.{Addr}
use Rattle.dwarf_types.specs.declared.address.Addr.TheVariants as addrs
use Rattle.dwarf_types.specs.declared.lists.RawLocation.{RawLocation}
use Rattle.dwarf_types.specs.declared.lists.RawSpan.{RawSpan}
use Rattle.index_tables.specs.Tables.{address_count, address_place, is_address_table, is_table}
use Rattle.reloc_table.specs.Address.{address_of}
use Rattle.list_items.specs.Ends.{belong_together, from_base, is_empty}
use Rattle.list_items.specs.Entries.{address_at, entry_at, entry_from, index_at, indexed, offset_at}
use Rattle.list_items.specs.EntryKinds.{location_kind, range_kind}
use Rattle.list_items.specs.Reading.{item_at}
use Rattle.list_items.specs.Words.{word_at, words_at}
use Rattle.loc_lists.specs.Reading.{expression_at, locations_of}
use Rattle.range_lists.specs.Reading.{ranges_of}
use Rattle.reader_tests.proofs.Object.{image, sections, two}

-- what a list computes with
reading : Unit {0}
unfolding ranges_of locations_of item_at words_at word_at entry_at entry_from index_at indexed address_at offset_at range_kind location_kind expression_at belong_together from_base is_empty address_of address_place address_count is_address_table is_table bytes_at number_at uleb_at leb_at
reading = tt

-- the base of the unit
abbrev unit : Addr
unit = addrs.Placed 0x100

-- the list at the start of a section whose first two words are relocated, in a unit of a version with two addresses
abbrev ranges : ℕ → List ℕ → Result (List RawSpan) Fault
ranges version bytes = ranges_of (sections bytes) (two 0 8) image 0 version unit (two 8 16) 8

abbrev locations : ℕ → List ℕ → Result (List RawLocation) Fault
locations version bytes = locations_of (sections bytes) (two 0 8) image 0 version unit (two 8 16) 8

abbrev span : ℕ → ℕ → RawSpan
span low high = record { low = addrs.Placed low; high = addrs.Placed high }

-- ---- what they give

relocated : ranges 4 (
    0x18 ∷ 0 ∷ 0 ∷ 0 ∷ 0 ∷ 0 ∷ 0 ∷ 0 ∷ 0x30 ∷ 0 ∷ 0 ∷ 0 ∷ 0 ∷ 0 ∷ 0 ∷ 0
    ∷ 0 ∷ 0 ∷ 0 ∷ 0 ∷ 0 ∷ 0 ∷ 0 ∷ 0 ∷ 0 ∷ 0 ∷ 0 ∷ 0 ∷ 0 ∷ 0 ∷ 0 ∷ 0 ∷ []
    ) ≡ Ok (span 0x18 0x30 ∷ [])
unfolding reading
relocated = refl

a_base_and_numbers_that_count_from_it : ranges 4 (
    0xff ∷ 0xff ∷ 0xff ∷ 0xff ∷ 0xff ∷ 0xff ∷ 0xff ∷ 0xff ∷ 0 ∷ 0x40 ∷ 0 ∷ 0 ∷ 0 ∷ 0 ∷ 0 ∷ 0
    ∷ 1 ∷ 0 ∷ 0 ∷ 0 ∷ 0 ∷ 0 ∷ 0 ∷ 0 ∷ 2 ∷ 0 ∷ 0 ∷ 0 ∷ 0 ∷ 0 ∷ 0 ∷ 0
    ∷ 0 ∷ 0 ∷ 0 ∷ 0 ∷ 0 ∷ 0 ∷ 0 ∷ 0 ∷ 0 ∷ 0 ∷ 0 ∷ 0 ∷ 0 ∷ 0 ∷ 0 ∷ 0 ∷ []
    ) ≡ Ok (span 0x4001 0x4002 ∷ [])
unfolding reading
a_base_and_numbers_that_count_from_it = refl

-- they end a list as they are stored
two_zeros_that_are_relocated : ranges 4 (0 ∷ 0 ∷ 0 ∷ 0 ∷ 0 ∷ 0 ∷ 0 ∷ 0 ∷ 0 ∷ 0 ∷ 0 ∷ 0 ∷ 0 ∷ 0 ∷ 0 ∷ 0 ∷ []) ≡ Ok []
unfolding reading
two_zeros_that_are_relocated = refl

an_index_and_a_length : ranges 5 (3 ∷ 1 ∷ 0x10 ∷ 0 ∷ []) ≡ Ok (span 0x20 0x30 ∷ [])
unfolding reading
an_index_and_a_length = refl

two_indices_and_an_empty_span : ranges 5 (2 ∷ 0 ∷ 1 ∷ 3 ∷ 1 ∷ 0 ∷ 0 ∷ []) ≡ Ok (span 0x18 0x20 ∷ [])
unfolding reading
two_indices_and_an_empty_span = refl

offsets_from_the_base_of_the_unit_and_from_another : ranges 5 (4 ∷ 1 ∷ 2 ∷ 1 ∷ 1 ∷ 4 ∷ 1 ∷ 2 ∷ 0 ∷ []) ≡ Ok (span 0x101 0x102 ∷ span 0x21 0x22 ∷ [])
unfolding reading
offsets_from_the_base_of_the_unit_and_from_another = refl

an_address_that_is_not_relocated : ranges 5 (7 ∷ 5 ∷ 0 ∷ 0 ∷ 0 ∷ 0 ∷ 0 ∷ 0 ∷ 0 ∷ 2 ∷ 0 ∷ []) ≡ Ok (record { low = addrs.Fixed 5; high = addrs.Fixed 7 } ∷ [])
unfolding reading
an_address_that_is_not_relocated = refl

-- its expression stands from the third byte on
a_default_location : locations 5 (5 ∷ 1 ∷ 0x50 ∷ 0 ∷ []) ≡ Ok (record { span = record { low = addrs.Fixed 0; high = addrs.Fixed 0xffffffffffffffff }; place = 0; first = 2; bytes = 0x50 ∷ [] } ∷ [])
unfolding reading
a_default_location = refl

-- ---- first faults

abbrev fault : Kind → Part → ℕ → Fault
fault kind section place = record { kind = kind; section = section; place = place }

a_low_end_above_the_high_one : ranges 4 (0x31 ∷ 0 ∷ 0 ∷ 0 ∷ 0 ∷ 0 ∷ 0 ∷ 0 ∷ 0x30 ∷ 0 ∷ 0 ∷ 0 ∷ 0 ∷ 0 ∷ 0 ∷ 0 ∷ []) ≡ Err (fault kinds.BadList parts.Ranges 0)
unfolding reading
a_low_end_above_the_high_one = refl

ranges_without_an_end : ranges 4 (0x18 ∷ 0 ∷ 0 ∷ 0 ∷ 0 ∷ 0 ∷ 0 ∷ 0 ∷ 0x30 ∷ 0 ∷ 0 ∷ 0 ∷ 0 ∷ 0 ∷ 0 ∷ 0 ∷ []) ≡ Err (fault kinds.Truncated parts.Ranges 16)
unfolding reading
ranges_without_an_end = refl

half_a_span : ranges 4 (0x18 ∷ 0 ∷ 0 ∷ 0 ∷ 0 ∷ 0 ∷ 0 ∷ 0 ∷ 0x30 ∷ 0 ∷ 0 ∷ 0 ∷ 0 ∷ 0 ∷ 0 ∷ []) ≡ Err (fault kinds.Truncated parts.Ranges 8)
unfolding reading
half_a_span = refl

an_unknown_kind : ranges 5 (9 ∷ []) ≡ Err (fault kinds.UnknownListEntry parts.Rnglists 0)
unfolding reading
an_unknown_kind = refl

an_index_one_past_the_table : ranges 5 (1 ∷ 1 ∷ 3 ∷ 2 ∷ 0x10 ∷ 0 ∷ []) ≡ Err (fault kinds.BadIndex parts.Rnglists 2)
unfolding reading
an_index_one_past_the_table = refl

an_end_below_its_start : ranges 5 (6 ∷ 5 ∷ 0 ∷ 0 ∷ 0 ∷ 0 ∷ 0 ∷ 0 ∷ 0 ∷ 4 ∷ 0 ∷ 0 ∷ 0 ∷ 0 ∷ 0 ∷ 0 ∷ 0 ∷ []) ≡ Err (fault kinds.BadList parts.Rnglists 0)
unfolding reading
an_end_below_its_start = refl

entries_without_an_end : ranges 5 (3 ∷ 1 ∷ 0x10 ∷ []) ≡ Err (fault kinds.Truncated parts.Rnglists 3)
unfolding reading
entries_without_an_end = refl

a_cut_entry : ranges 5 (3 ∷ 1 ∷ 0x10 ∷ 3 ∷ []) ≡ Err (fault kinds.Truncated parts.Rnglists 4)
unfolding reading
a_cut_entry = refl

a_cut_expression : locations 4 (0x18 ∷ 0 ∷ 0 ∷ 0 ∷ 0 ∷ 0 ∷ 0 ∷ 0 ∷ 0x30 ∷ 0 ∷ 0 ∷ 0 ∷ 0 ∷ 0 ∷ 0 ∷ 0 ∷ 2 ∷ 0 ∷ 0x50 ∷ []) ≡ Err (fault kinds.Truncated parts.Loc 18)
unfolding reading
a_cut_expression = refl

a_cut_expression_of_an_entry : locations 5 (3 ∷ 1 ∷ 0x10 ∷ 2 ∷ 0x50 ∷ []) ≡ Err (fault kinds.Truncated parts.Loclists 4)
unfolding reading
a_cut_expression_of_an_entry = refl
