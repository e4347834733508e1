-- How long the sections of a graph are, and which unit or section is too long.
use Rattle.std.specs.Prelude.{ℕ, ◌+◌, ◌-◌, ◌^◌, ◌==◌, List, [], ◌∷◌, length, Option, nat_le, false, true, if◌then◌else◌}
use Rattle.std.specs.List.{find}
use Rattle.std.specs.Option.{option_map}
use Rattle.ds_base.specs.declared.fault.Part.{Part}
use Rattle.ds_base.specs.declared.fault.Part.TheVariants as parts
use Rattle.dwarf_types.specs.declared.graph.Graph.{Graph}
use Rattle.dwarf_types.specs.Encode.{all_sections, str_section}
use Rattle.dwarf_types.specs.Entries.{unit_len}
use Rattle.dwarf_types.specs.Layout.{lines_place, locations_before, numbered_units, ranges_before, table_place, unit_start}
use Rattle.dwarf_types.specs.Lists.{lists_header_len}
use Rattle.layout.specs.declared.sizes.Sizes.{Sizes}
use Rattle.layout.specs.declared.starts.Starts.{Starts}
use Rattle.layout.specs.declared.table.Common.{Common}
use Rattle.layout.specs.declared.table.Common.TheVariants as commons
use Rattle.layout.specs.declared.table.Content.{Content}
use Rattle.layout.specs.declared.table.Content.TheVariants as contents
use Rattle.layout.specs.declared.table.Listed.{Listed}
use Rattle.layout.specs.declared.table.Listed.TheVariants as listed
use Rattle.layout.specs.declared.table.Piece.{Piece}
use Rattle.layout.specs.declared.table.Piece.TheVariants as pieces
use Rattle.layout.specs.declared.table.Section.{Section}

-- where the parts of the unit of a number stand, lists counted from the first one; behind the last unit, where all end
abbrev pub starts_of : Graph → ℕ → Starts
starts_of graph u = record {
  info = unit_start graph u;
  tables = table_place graph u;
  line = lines_place graph u;
  ranges = ranges_before false graph u;
  rnglists = ranges_before true graph u;
  loc = locations_before false graph u;
  loclists = locations_before true graph u;
}

-- which piece of a unit lists behind a header are
abbrev pub piece_in : Listed → Piece
piece_in listed.Ranges = pieces.Rnglists
piece_in listed.Locations = pieces.Loclists

abbrev pub start_in : Starts → Piece → ℕ
start_in starts pieces.Tables = starts.tables
start_in starts pieces.Ranges = starts.ranges
start_in starts pieces.Rnglists = starts.rnglists
start_in starts pieces.Loc = starts.loc
start_in starts pieces.Loclists = starts.loclists

-- ---- sizes

-- the size of a section of lists: these stand behind a header, where there are any
abbrev pub lists_size : ℕ → ℕ
lists_size lists = if lists == 0 then 0 else lists_header_len + lists

abbrev pub common_size : Sizes → Common → ℕ
common_size sizes commons.Texts = sizes.texts
common_size sizes commons.LineTexts = sizes.line_texts
common_size sizes commons.Aranges = sizes.aranges
common_size sizes commons.Frames = sizes.frames

abbrev pub size_in : Sizes → Content → ℕ
size_in sizes contents.Entries = sizes.ends.info
size_in sizes contents.Lines = sizes.ends.line
size_in sizes (contents.Pieces piece) = start_in sizes.ends piece
size_in sizes (contents.Lists lists) = lists_size (start_in sizes.ends (piece_in lists))
size_in sizes (contents.Common common) = common_size sizes common

-- of sections that stand one behind the other
abbrev pub run_size : Sizes → List Section → ℕ
run_size sizes [] = 0
run_size sizes (s ∷ sections) = size_in sizes s.content + run_size sizes sections

-- ---- limits

-- the first unit that has 2^28 bytes or more
abbrev pub long_unit : Graph → Option ℕ
long_unit graph = option_map (λ n. n.0) (find (λ n. nat_le (2 ^ 28) (unit_len n.0 n.1)) (numbered_units graph))

-- a section that has 2^32 - 1 bytes or more: the string section first, then the first in the output's order
abbrev pub long_section : Graph → Option Part
long_section graph = option_map (λ s. s.part) (find (λ s. nat_le (2 ^ 32 - 1) (length s.bytes)) (record { part = parts.Str; bytes = str_section graph } ∷ all_sections graph))
