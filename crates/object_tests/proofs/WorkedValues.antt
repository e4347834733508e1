-- Attribute values by their forms (DWARF 4, section 7.5.4; DWARF 5, section 7.5.5): the value and how many bytes it takes, or the first fault.
use Rattle.std.proofs.Common.{◌≡◌, ℕ, ◌-◌, ◌^◌, negsuc, List, [], ◌∷◌, Result, Ok, Err, refl}
use Rattle.ds_base.specs.declared.fault.Fault.{Fault}
use Rattle.ds_base.specs.declared.fault.Kind.{Kind}
use Rattle.ds_base.specs.declared.fault.Kind.TheVariants as kinds
use Rattle.ds_base.specs.declared.fault.Part.TheVariants as parts
use Rattle.ds_base.specs.Reading.{◌>>=◌, bytes_at, leb_at, number_at, placed_text_at, sleb_at, text_at, text_of, uleb_at}
use Rattle.ds_base.specs.Spot.{start}
use Rattle.dwarf_types.specs.SectionBytes.{SectionBytes}
use Rattle.dwarf_types.specs.declared.value.Value.{Value}
use Rattle.dwarf_types.specs.declared.value.Value.TheVariants as values
use Rattle.form_value.specs.Forms.{form_row}
use Rattle.form_value.specs.Reading.{block_at, class_at, coded_at, value_at}

-- the texts `m.c` and `main`, and `a` and `b`
abbrev sections : SectionBytes
sections = record {
  info = [];
  abbrev_ = [];
  strings = 0x6d ∷ 0x2e ∷ 0x63 ∷ 0 ∷ 0x6d ∷ 0x61 ∷ 0x69 ∷ 0x6e ∷ 0 ∷ [];
  str_offs = [];
  addr = [];
  line = [];
  line_str = 0x61 ∷ 0 ∷ 0x62 ∷ [];
  ranges = [];
  rnglists = [];
  loc = [];
  loclists = [];
  aranges = [];
  frame = [];
}

-- what the first bytes mean by a form in a unit of a version, where the abbreviation has the constant -2, and how many they are
abbrev read : ℕ → ℕ → List ℕ → Result (Value × ℕ) Fault
read version form bytes = value_at (record { name = 3; form = form; fixed = negsuc 1 }) version sections (start parts.Info bytes) >>= λ read. Ok (read.0, read.1.place)

-- a fault at a byte
abbrev fault : Kind → ℕ → Result (Value × ℕ) Fault
fault kind place = Err (record { kind = kind; section = parts.Info; place = place })

-- by data1, data2, data4, udata, sdata, flag and flag_present; an implicit constant stands in the abbreviation, and is of the form sdata
numbers :
    (read 5 0x0b (0xff ∷ 0 ∷ []) ≡ Ok (values.Number 0x0b 0xff, 1))
    × (read 5 0x05 (0xfe ∷ 0xff ∷ 0 ∷ []) ≡ Ok (values.Number 0x05 0xfffe, 2))
    × (read 5 0x06 (1 ∷ 2 ∷ 3 ∷ 4 ∷ 0 ∷ []) ≡ Ok (values.Number 0x06 0x04030201, 4))
    × (read 5 0x0f (0x80 ∷ 0x01 ∷ 0 ∷ []) ≡ Ok (values.Number 0x0f 0x80, 2))
    × (read 5 0x0d (0x7f ∷ 0 ∷ []) ≡ Ok (values.Number 0x0d (2 ^ 64 - 1), 1))
    × (read 5 0x0c (2 ∷ 0 ∷ []) ≡ Ok (values.Number 0x0c 2, 1))
    × (read 5 0x19 [] ≡ Ok (values.Number 0x19 1, 0))
    × (read 5 0x21 [] ≡ Ok (values.Number 0x0d (2 ^ 64 - 2), 0))
unfolding value_at class_at coded_at form_row leb_at number_at sleb_at uleb_at
numbers = (refl, refl, refl, refl, refl, refl, refl, refl)

-- by ref4, ref_addr and sec_offset
offsets :
    (read 5 0x13 (0x2a ∷ 0 ∷ 0 ∷ 0 ∷ []) ≡ Ok (values.Offset 0x2a, 4))
    × (read 5 0x10 (0x2b ∷ 0 ∷ 0 ∷ 0 ∷ []) ≡ Ok (values.Offset 0x2b, 4))
    × (read 5 0x17 (0x2c ∷ 0 ∷ 0 ∷ 0 ∷ []) ≡ Ok (values.Offset 0x2c, 4))
unfolding value_at class_at coded_at form_row number_at
offsets = (refl, refl, refl)

-- by string, strp and line_strp
texts :
    (read 5 0x08 (0x61 ∷ 0x62 ∷ 0 ∷ 0x63 ∷ []) ≡ Ok (values.Text (0x61 ∷ 0x62 ∷ []), 3))
    × (read 5 0x0e (4 ∷ 0 ∷ 0 ∷ 0 ∷ []) ≡ Ok (values.Text (0x6d ∷ 0x61 ∷ 0x69 ∷ 0x6e ∷ []), 4))
    × (read 5 0x1f (0 ∷ 0 ∷ 0 ∷ 0 ∷ []) ≡ Ok (values.Text (0x61 ∷ []), 4))
unfolding value_at class_at form_row number_at placed_text_at text_at text_of
texts = (refl, refl, refl)

-- by block1, exprloc and data16
blocks :
    (read 5 0x0a (2 ∷ 7 ∷ 8 ∷ 9 ∷ []) ≡ Ok (values.Block 0x0a (7 ∷ 8 ∷ []), 3))
    × (read 5 0x18 (1 ∷ 0x9c ∷ []) ≡ Ok (values.Block 0x18 (0x9c ∷ []), 2))
    × (read 5 0x1e (0 ∷ 1 ∷ 2 ∷ 3 ∷ 4 ∷ 5 ∷ 6 ∷ 7 ∷ 8 ∷ 9 ∷ 10 ∷ 11 ∷ 12 ∷ 13 ∷ 14 ∷ 15 ∷ 16 ∷ []) ≡ Ok (values.Wide (0 ∷ 1 ∷ 2 ∷ 3 ∷ 4 ∷ 5 ∷ 6 ∷ 7 ∷ 8 ∷ 9 ∷ 10 ∷ 11 ∷ 12 ∷ 13 ∷ 14 ∷ 15 ∷ []), 16))
unfolding value_at block_at bytes_at class_at coded_at form_row leb_at number_at uleb_at
blocks = (refl, refl, refl)

-- a form that the standard doesn't have, one that is not read, and one of version 5 in a unit of version 4
refused_forms :
    (read 4 0x1f01 [] ≡ fault kinds.UnknownForm 0)
    × (read 4 0x20 [] ≡ fault kinds.FormOutsideProfile 0)
    × (read 4 0x1e [] ≡ fault kinds.FormOutsideProfile 0)
unfolding value_at class_at form_row
refused_forms = (refl, refl, refl)

-- an address and a block that are cut, the block behind its length; a number past 64 bits; a text that begins behind those of its section, and one without an end
refused_values :
    (read 4 0x01 (0 ∷ 0 ∷ 0 ∷ 0 ∷ 0 ∷ 0 ∷ 0 ∷ []) ≡ fault kinds.Truncated 0)
    × (read 4 0x03 (2 ∷ 0 ∷ 9 ∷ []) ≡ fault kinds.Truncated 2)
    × (read 4 0x0f (0xff ∷ 0xff ∷ 0xff ∷ 0xff ∷ 0xff ∷ 0xff ∷ 0xff ∷ 0xff ∷ 0xff ∷ 2 ∷ []) ≡ fault kinds.LebTooWide 0)
    × (read 4 0x0e (9 ∷ 0 ∷ 0 ∷ 0 ∷ []) ≡ fault kinds.BadOffset 0)
    × (read 5 0x1f (2 ∷ 0 ∷ 0 ∷ 0 ∷ []) ≡ fault kinds.BadOffset 0)
unfolding value_at block_at bytes_at class_at coded_at form_row leb_at number_at placed_text_at text_of uleb_at
refused_values = (refl, refl, refl, refl, refl)
