-- What the sections of a graph are made of.
use Rattle.std.specs.Prelude.{ℕ, List, true, false}
use Rattle.dwarf_types.specs.declared.graph.Graph.{Graph}
use Rattle.dwarf_types.specs.declared.graph.Written.{Written}
use Rattle.dwarf_types.specs.Encode.{abbrev_section, all_locations, all_ranges, aranges_section, frame_section, info_section, line_section, line_str_section, str_section}
use Rattle.dwarf_types.specs.Lists.{behind_header}
use Rattle.layout.specs.declared.table.Common.{Common}
use Rattle.layout.specs.declared.table.Common.TheVariants as commons
use Rattle.layout.specs.declared.table.Content.{Content}
use Rattle.layout.specs.declared.table.Content.TheVariants as contents
use Rattle.layout.specs.declared.table.Piece.{Piece}
use Rattle.layout.specs.declared.table.Piece.TheVariants as pieces
use Rattle.layout.specs.declared.table.Section.{Section}
use Rattle.layout.specs.Lengths.{piece_in}

-- what all units give, one behind the other
abbrev pub pieces_bytes : Graph → Piece → List ℕ
pieces_bytes graph pieces.Tables = abbrev_section graph
pieces_bytes graph pieces.Ranges = all_ranges false graph
pieces_bytes graph pieces.Rnglists = all_ranges true graph
pieces_bytes graph pieces.Loc = all_locations false graph
pieces_bytes graph pieces.Loclists = all_locations true graph

-- what they give together
abbrev pub common_bytes : Graph → Common → List ℕ
common_bytes graph commons.Texts = str_section graph
common_bytes graph commons.LineTexts = line_str_section graph
common_bytes graph commons.Aranges = aranges_section graph
common_bytes graph commons.Frames = frame_section graph

abbrev pub content_bytes : Graph → Content → List ℕ
content_bytes graph contents.Entries = info_section graph
content_bytes graph contents.Lines = line_section graph
content_bytes graph (contents.Pieces piece) = pieces_bytes graph piece
content_bytes graph (contents.Lists lists) = behind_header (pieces_bytes graph (piece_in lists))
content_bytes graph (contents.Common common) = common_bytes graph common

-- a section as it is written
abbrev pub written_in : Graph → Section → Written
written_in graph section = record { part = section.part; bytes = content_bytes graph section.content }
