-- A graph of one unit with one function, and its sections as they stand in a file, byte for byte.
use Rattle.std.proofs.Common.{◌≡◌, ℕ, List, [], ◌∷◌, Some, None, refl}
use Rattle.ds_base.specs.declared.fault.Part.TheVariants as parts
use Rattle.ds_base.specs.DwarfNumbers.{DW_TAG_compile_unit, DW_TAG_subprogram, DW_AT_name, DW_AT_language, DW_AT_low_pc, DW_AT_high_pc, DW_AT_ranges, DW_FORM_data2, DW_FORM_data4}
use Rattle.ds_base.specs.Leb.{uleb}
use Rattle.dwarf_types.specs.declared.address.Span.{Span}
use Rattle.dwarf_types.specs.declared.graph.Graph.{Graph}
use Rattle.dwarf_types.specs.declared.graph.Node.{Node}
use Rattle.dwarf_types.specs.declared.graph.OutValue.TheVariants as values
use Rattle.dwarf_types.specs.Encode.{encode}
use Rattle.dwarf_types.specs.Values.{number_len, number_bytes}

-- the texts `m.c` and `main`
unfoldable pub m_c : List ℕ
m_c = 0x6d ∷ 0x2e ∷ 0x63 ∷ []

unfoldable pub main : List ℕ
main = 0x6d ∷ 0x61 ∷ 0x69 ∷ 0x6e ∷ []

unfoldable pub code : Span
code = record { low = 0x100003f50; high = 0x100003f7a }

unfoldable pub unit : Node
unit = record {
  parent = None;
  tag = DW_TAG_compile_unit;
  attrs =
      record { name = DW_AT_name; value = values.Text m_c } ∷ record { name = DW_AT_language; value = values.Number DW_FORM_data2 0x000c }
      ∷ record { name = DW_AT_low_pc; value = values.Address 0 } ∷ record { name = DW_AT_ranges; value = values.Ranges (code ∷ []) } ∷ [];
}

unfoldable pub function : Node
function = record {
  parent = Some 0;
  tag = DW_TAG_subprogram;
  attrs =
      record { name = DW_AT_low_pc; value = values.Address 0x100003f50 } ∷ record { name = DW_AT_high_pc; value = values.Number DW_FORM_data4 0x2a }
      ∷ record { name = DW_AT_name; value = values.Text main } ∷ [];
}

unfoldable pub graph : Graph
graph = record { units = record { version = 4; nodes = unit ∷ function ∷ []; lines = None; ranges = code ∷ [] } ∷ []; frames = [] }

encoded : encode graph ≡
    record {
      part = parts.Abbrev;
      bytes =
          0x01 ∷ 0x11 ∷ 0x01 ∷ 0x03 ∷ 0x0e ∷ 0x13 ∷ 0x05 ∷ 0x11 ∷ 0x01 ∷ 0x55 ∷ 0x17 ∷ 0x00 ∷ 0x00
          ∷ 0x02 ∷ 0x2e ∷ 0x00 ∷ 0x11 ∷ 0x01 ∷ 0x12 ∷ 0x06 ∷ 0x03 ∷ 0x0e ∷ 0x00 ∷ 0x00 ∷ 0x00 ∷ [];
    }
    ∷ record {
      part = parts.Info;
      bytes =
          0x2c ∷ 0x00 ∷ 0x00 ∷ 0x00 ∷ 0x04 ∷ 0x00 ∷ 0x00 ∷ 0x00 ∷ 0x00 ∷ 0x00 ∷ 0x08
          ∷ 0x01 ∷ 0x00 ∷ 0x00 ∷ 0x00 ∷ 0x00 ∷ 0x0c ∷ 0x00
          ∷ 0x00 ∷ 0x00 ∷ 0x00 ∷ 0x00 ∷ 0x00 ∷ 0x00 ∷ 0x00 ∷ 0x00 ∷ 0x00 ∷ 0x00 ∷ 0x00 ∷ 0x00
          ∷ 0x02 ∷ 0x50 ∷ 0x3f ∷ 0x00 ∷ 0x00 ∷ 0x01 ∷ 0x00 ∷ 0x00 ∷ 0x00 ∷ 0x2a ∷ 0x00 ∷ 0x00 ∷ 0x00 ∷ 0x04 ∷ 0x00 ∷ 0x00 ∷ 0x00 ∷ 0x00 ∷ [];
    }
    ∷ record { part = parts.Str; bytes = 0x6d ∷ 0x2e ∷ 0x63 ∷ 0x00 ∷ 0x6d ∷ 0x61 ∷ 0x69 ∷ 0x6e ∷ 0x00 ∷ [] }
    ∷ record {
      part = parts.Ranges;
      bytes =
          0x50 ∷ 0x3f ∷ 0x00 ∷ 0x00 ∷ 0x01 ∷ 0x00 ∷ 0x00 ∷ 0x00 ∷ 0x7a ∷ 0x3f ∷ 0x00 ∷ 0x00 ∷ 0x01 ∷ 0x00 ∷ 0x00 ∷ 0x00
          ∷ 0x00 ∷ 0x00 ∷ 0x00 ∷ 0x00 ∷ 0x00 ∷ 0x00 ∷ 0x00 ∷ 0x00 ∷ 0x00 ∷ 0x00 ∷ 0x00 ∷ 0x00 ∷ 0x00 ∷ 0x00 ∷ 0x00 ∷ 0x00 ∷ [];
    }
    ∷ record {
      part = parts.Aranges;
      bytes =
          0x2c ∷ 0x00 ∷ 0x00 ∷ 0x00 ∷ 0x02 ∷ 0x00 ∷ 0x00 ∷ 0x00 ∷ 0x00 ∷ 0x00 ∷ 0x08 ∷ 0x00 ∷ 0x00 ∷ 0x00 ∷ 0x00 ∷ 0x00
          ∷ 0x50 ∷ 0x3f ∷ 0x00 ∷ 0x00 ∷ 0x01 ∷ 0x00 ∷ 0x00 ∷ 0x00 ∷ 0x2a ∷ 0x00 ∷ 0x00 ∷ 0x00 ∷ 0x00 ∷ 0x00 ∷ 0x00 ∷ 0x00
          ∷ 0x00 ∷ 0x00 ∷ 0x00 ∷ 0x00 ∷ 0x00 ∷ 0x00 ∷ 0x00 ∷ 0x00 ∷ 0x00 ∷ 0x00 ∷ 0x00 ∷ 0x00 ∷ 0x00 ∷ 0x00 ∷ 0x00 ∷ 0x00 ∷ [];
    } ∷ []
unfolding m_c main code unit function graph uleb number_len number_bytes
encoded = refl
