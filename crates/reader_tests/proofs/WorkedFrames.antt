-- Sections of frames (DWARF 4, section 6.4.1): their frames, or the first fault.
use Rattle.std.proofs.Common.{◌≡◌, ℕ, List, [], ◌∷◌, Result, Ok, Err, refl}
use Rattle.ds_base.specs.declared.fault.Fault.{Fault}
use Rattle.ds_base.specs.declared.fault.Kind.{Kind}
use Rattle.ds_base.specs.declared.fault.Kind.TheVariants as kinds
use Rattle.ds_base.specs.declared.fault.Part.TheVariants as parts
use Rattle.ds_base.specs.Reading.{bytes_at, number_at}
use Rattle.dwarf_types.specs.declared.address.Addr.TheVariants as addrs
use Rattle.dwarf_types.specs.declared.frames.RawFrame.{RawFrame}
use Rattle.reloc_table.specs.Address.{address_of}
use Rattle.frame_table.specs.Description.{description_at}
use Rattle.frame_table.specs.Entry.{entry_at}
use Rattle.frame_table.specs.Frames.{frames_of}
use Rattle.moved_parts.specs.Frames.{frames_moved}
use Rattle.reader_tests.specs.declared.bytes.TheConstants.{FRAMES}
use Rattle.reader_tests.proofs.Object.{image, map, two}

-- what frames compute with
reading : Unit {0}
unfolding frames_of entry_at description_at bytes_at number_at address_of
reading = tt

-- the frames of a section in which the numbers at 0x24 and 0x3c are relocated
abbrev frames : List ℕ → Result (List RawFrame) Fault
frames bytes = frames_of image (two 0x24 0x3c) bytes

-- what stands behind the ids of two CIEs
abbrev first_cie : List ℕ
first_cie = 4 ∷ 0 ∷ 8 ∷ 0 ∷ 1 ∷ 0x78 ∷ 0x1e ∷ 0 ∷ []

abbrev second_cie : List ℕ
second_cie = 4 ∷ 0 ∷ 8 ∷ 1 ∷ []

abbrev three : List RawFrame
three =
    record { cie = first_cie; at = addrs.Placed 0x20; length = 8; code = [] }
    ∷ record { cie = second_cie; at = addrs.Placed 0x50; length = 11; code = [] }
    ∷ record { cie = first_cie; at = addrs.Fixed 3; length = 12; code = [] } ∷ []

three_frames : frames FRAMES ≡ Ok three
unfolding reading
three_frames = refl

-- the first alone begins in a range
one_that_moved : frames_moved map three ≡ record { cie = first_cie; address = 0x100002000; length = 8; code = [] } ∷ []
one_that_moved = refl

-- ---- first faults

abbrev fault : Kind → ℕ → Fault
fault kind place = record { kind = kind; section = parts.Frame; place = place }

a_reserved_length : frames (4 ∷ 0 ∷ 0 ∷ 0 ∷ 0xff ∷ 0xff ∷ 0xff ∷ 0xff ∷ 0xf0 ∷ 0xff ∷ 0xff ∷ 0xff ∷ []) ≡ Err (fault kinds.BadFrame 8)
unfolding reading
a_reserved_length = refl

a_cut_id : frames (3 ∷ 0 ∷ 0 ∷ 0 ∷ 0xff ∷ 0xff ∷ 0xff ∷ []) ≡ Err (fault kinds.Truncated 4)
unfolding reading
a_cut_id = refl

an_fde_of_itself : frames (0x14 ∷ 0 ∷ 0 ∷ 0 ∷ 0 ∷ 0 ∷ 0 ∷ 0 ∷ 1 ∷ 0 ∷ 0 ∷ 0 ∷ 0 ∷ 0 ∷ 0 ∷ 0 ∷ 2 ∷ 0 ∷ 0 ∷ 0 ∷ 0 ∷ 0 ∷ 0 ∷ 0 ∷ []) ≡ Err (fault kinds.BadFrame 0)
unfolding reading
an_fde_of_itself = refl

the_values_of_a_later_entry_before_an_fde_that_waits : frames (
    0x14 ∷ 0 ∷ 0 ∷ 0 ∷ 0x21 ∷ 0 ∷ 0 ∷ 0 ∷ 1 ∷ 0 ∷ 0 ∷ 0 ∷ 0 ∷ 0 ∷ 0 ∷ 0 ∷ 2 ∷ 0 ∷ 0 ∷ 0 ∷ 0 ∷ 0 ∷ 0 ∷ 0
    ∷ 4 ∷ 0 ∷ 0 ∷ 0 ∷ 0x20 ∷ 0 ∷ 0 ∷ 0
    ∷ 4 ∷ 0 ∷ 0 ∷ 0 ∷ 0xff ∷ 0xff ∷ 0xff ∷ 0xff ∷ []
    ) ≡ Err (fault kinds.Truncated 0x20)
unfolding reading
the_values_of_a_later_entry_before_an_fde_that_waits = refl

an_fde_that_waits_before_the_values_of_the_entry_that_it_names : frames (
    0x14 ∷ 0 ∷ 0 ∷ 0 ∷ 0x18 ∷ 0 ∷ 0 ∷ 0 ∷ 1 ∷ 0 ∷ 0 ∷ 0 ∷ 0 ∷ 0 ∷ 0 ∷ 0 ∷ 2 ∷ 0 ∷ 0 ∷ 0 ∷ 0 ∷ 0 ∷ 0 ∷ 0
    ∷ 4 ∷ 0 ∷ 0 ∷ 0 ∷ 0x20 ∷ 0 ∷ 0 ∷ 0
    ∷ 4 ∷ 0 ∷ 0 ∷ 0 ∷ 0xff ∷ 0xff ∷ 0xff ∷ 0xff ∷ []
    ) ≡ Err (fault kinds.BadFrame 0)
unfolding reading
an_fde_that_waits_before_the_values_of_the_entry_that_it_names = refl

one_that_waits_before_a_later_one_past_the_section : frames (
    0x14 ∷ 0 ∷ 0 ∷ 0 ∷ 0x19 ∷ 0 ∷ 0 ∷ 0 ∷ 1 ∷ 0 ∷ 0 ∷ 0 ∷ 0 ∷ 0 ∷ 0 ∷ 0 ∷ 2 ∷ 0 ∷ 0 ∷ 0 ∷ 0 ∷ 0 ∷ 0 ∷ 0
    ∷ 0x14 ∷ 0 ∷ 0 ∷ 0 ∷ 0xfe ∷ 0 ∷ 0 ∷ 0 ∷ 1 ∷ 0 ∷ 0 ∷ 0 ∷ 0 ∷ 0 ∷ 0 ∷ 0 ∷ 2 ∷ 0 ∷ 0 ∷ 0 ∷ 0 ∷ 0 ∷ 0 ∷ 0 ∷ []
    ) ≡ Err (fault kinds.BadFrame 0)
unfolding reading
one_that_waits_before_a_later_one_past_the_section = refl
