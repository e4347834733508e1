-- The parts of a draft, of a unit of version 5 with one function. Of version 4 it is in `dwarf_types/proofs/WorkedGraph.antt`, and of a graph with references, expressions and lists in `WorkedUnits.antt` there.
use Rattle.std.proofs.Common.{◌≡◌, [], ◌∷◌, None, refl}
use Rattle.ds_base.specs.Leb.{uleb}
use Rattle.dwarf_types.proofs.WorkedGraph.{code, function, m_c, main, unit}
use Rattle.dwarf_types.specs.Abbreviations.{table_bytes}
use Rattle.dwarf_types.specs.Encode.{info_section, unit_ranges}
use Rattle.dwarf_types.specs.Values.{number_bytes, number_len}
use Rattle.dwarf_types.specs.declared.graph.OutUnit.{OutUnit}
use Rattle.unit_draft.specs.Drafted.{node_places}

abbrev clone : OutUnit
clone = record { version = 5; nodes = unit ∷ function ∷ []; lines = None; ranges = code ∷ [] }

abbreviations : table_bytes 0 clone ≡
    0x01 ∷ 0x11 ∷ 0x01 ∷ 0x03 ∷ 0x0e ∷ 0x13 ∷ 0x05 ∷ 0x11 ∷ 0x01 ∷ 0x55 ∷ 0x17 ∷ 0x00 ∷ 0x00
    ∷ 0x02 ∷ 0x2e ∷ 0x00 ∷ 0x11 ∷ 0x01 ∷ 0x12 ∷ 0x06 ∷ 0x03 ∷ 0x0e ∷ 0x00 ∷ 0x00
    ∷ 0x00 ∷ []
unfolding m_c main code unit function uleb
abbreviations = refl

-- the texts stand at 0 and 4, and the range list behind the header of its section
entries : info_section (record { units = clone ∷ []; frames = [] }) ≡
    0x2d ∷ 0x00 ∷ 0x00 ∷ 0x00 ∷ 0x05 ∷ 0x00 ∷ 0x01 ∷ 0x08 ∷ 0x00 ∷ 0x00 ∷ 0x00 ∷ 0x00
    ∷ 0x01 ∷ 0x00 ∷ 0x00 ∷ 0x00 ∷ 0x00 ∷ 0x0c ∷ 0x00 ∷ 0x00 ∷ 0x00 ∷ 0x00 ∷ 0x00 ∷ 0x00 ∷ 0x00 ∷ 0x00 ∷ 0x00 ∷ 0x0c ∷ 0x00 ∷ 0x00 ∷ 0x00
    ∷ 0x02 ∷ 0x50 ∷ 0x3f ∷ 0x00 ∷ 0x00 ∷ 0x01 ∷ 0x00 ∷ 0x00 ∷ 0x00 ∷ 0x2a ∷ 0x00 ∷ 0x00 ∷ 0x00 ∷ 0x04 ∷ 0x00 ∷ 0x00 ∷ 0x00
    ∷ 0x00 ∷ []
unfolding m_c main code unit function uleb number_len number_bytes
entries = refl

places : node_places 0 clone ≡ 12 ∷ 31 ∷ []
unfolding m_c main code unit function number_len
places = refl

ranges : unit_ranges clone ≡
    0x06 ∷ 0x50 ∷ 0x3f ∷ 0x00 ∷ 0x00 ∷ 0x01 ∷ 0x00 ∷ 0x00 ∷ 0x00 ∷ 0x7a ∷ 0x3f ∷ 0x00 ∷ 0x00 ∷ 0x01 ∷ 0x00 ∷ 0x00 ∷ 0x00
    ∷ 0x00 ∷ []
unfolding m_c main code unit function
ranges = refl
