-- The sections of a graph, and those of its image, tell it.
use Rattle.std.proofs.Common.{◌≡◌, ◌<◌, ◌+◌, ℕ, List, [], length, slice_get, Some, refl, sym, ap, ap₂, subst, ◌∙◌, arith}
use Rattle.std.proofs.lemmas.Option.{same_Some}
use Rattle.ds_base.specs.DwarfNumbers.{LENGTH_RESERVED}
use Rattle.dwarf_types.specs.declared.address.Addr.TheVariants as addrs
use Rattle.dwarf_types.specs.declared.entry.InUnit.{InUnit}
use Rattle.dwarf_types.specs.declared.entry.RawAttr.{RawAttr}
use Rattle.dwarf_types.specs.declared.entry.RawEntry.{RawEntry}
use Rattle.dwarf_types.specs.declared.entry.RawUnits.{RawUnits}
use Rattle.dwarf_types.specs.declared.graph.Graph.{Graph}
use Rattle.dwarf_types.specs.declared.graph.Node.{Node}
use Rattle.dwarf_types.specs.declared.graph.OutUnit.{OutUnit}
use Rattle.dwarf_types.specs.Encode.{frame_section}
use Rattle.dwarf_types.specs.Entries.{header_len}
use Rattle.dwarf_types.specs.Layout.{unit_start}
use Rattle.dwarf_types.specs.Well.{IsWell, IsWellUnit}
use Rattle.dwarf_types.specs.WellNodes.{IsNode}
use Rattle.dwarf_types.specs.WellValues.{IsTarget}
use Rattle.frame_laws.proofs.Written.{frames_spelled}
use Rattle.macho_read.specs.declared.image.Image.{Image}
use Rattle.reloc_table.specs.declared.relocation.Relocs.{Relocs}
use Rattle.written_laws.specs.LedBack.{first_entry}
use Rattle.written_laws.specs.ReadUnits.{IsReadable, entries_read, read_units, sections_of}
use Rattle.written_laws.proofs.NodeEntries.{node_stands}
use Rattle.written_laws.proofs.OwnUnit.{all_at}
use Rattle.written_laws.proofs.Units.{graph_spelled}
use Rattle.graph_laws.specs.Telling.{TellsAttrs, TellsGraph, base_of, TellsNode, TellsUnit}
use Rattle.graph_laws.proofs.Roots.{base_is, spans_are}
use Rattle.graph_laws.proofs.Rows.{read, row, row_is, rows_len}
use Rattle.graph_laws.proofs.Values.{around, attrs_told}

module _ (graph : Graph) (well : IsWell graph) (readable : IsReadable graph) (image : Image) (relocs : Relocs) (none : relocs.list ≡ []) where
  module _ (u : ℕ) (unit : OutUnit) (at : slice_get graph.units u ≡ Some unit) where
    is_unit : IsWellUnit (IsTarget graph) unit
    is_unit = all_at (IsWellUnit (IsTarget graph)) graph.units u unit well.units at

    abbrev first : ℕ
    first = first_entry graph.units u

    node_told : (root : Node) (base : base_of root.attrs ≡ addrs.Fixed 0) (k : ℕ) (node : Node) → slice_get unit.nodes k ≡ Some node
        → (e : RawEntry) × (slice_get (read_units graph).entries (first + k) ≡ Some e) × TellsNode (read graph readable image relocs) (row graph readable image relocs u unit at) (around graph well readable image relocs none u unit at root base) e node
    node_told root base k node inside =
        let s = node_stands graph u unit k node at inside in
        let is = s.is in
        let attrs = attrs_told graph well readable image relocs none u unit at root base k node inside [] node.attrs refl is.lists is.values (omega (arith, is.ranges)) (omega (arith, is.locations)) in (
          s.entry,
          s.stands,
          record { tag = is.tag; parent = is.parent; attrs = subst (λ (raws : List RawAttr). TellsAttrs (read graph readable image relocs) (around graph well readable image relocs none u unit at root base) raws node.attrs) (sym is.attrs) attrs },
        )

    unit_told : TellsUnit (read graph readable image relocs) u unit
    unit_told =
        let w = is_unit in
        let is_root = w.is_root in
        let here : slice_get unit.nodes 0 ≡ Some w.root = ap (λ (ns : List Node). slice_get ns 0) w.nodes in
        let base = base_is unit.ranges w.root.attrs is_root.ends in
        let n = all_at (IsNode (IsTarget graph) unit.version unit.nodes) unit.nodes 0 w.root w.each here in
        let s = node_stands graph u unit 0 w.root at here in
        let number : first + 0 ≡ first = omega arith in
        record {
          row = row graph readable image relocs u unit at;
          stands = row_is graph u unit at;
          version = refl;
          count = refl;
          root = w.root;
          first = here;
          start = unit_start graph u;
          header = λ e there.
              let same : s.entry ≡ e = same_Some s.entry e (sym s.stands ∙ ap (slice_get (entries_read graph 0 0 graph.units)) number ∙ there) in
              let placed = s.is.place in
              ap (λ (x : RawEntry). x.place) (sym same) ∙ placed ∙ root_place (header_len unit.version);
          lines = is_root.lines;
          ranges = spans_are (IsTarget graph) unit.version unit.nodes unit.ranges w.root.attrs n.attrs is_root.ends;
          nodes = node_told w.root base;
        }
      where
        root_place : (header : ℕ) → unit_start graph u + (header + 0) ≡ unit_start graph u + header
        root_place header = omega arith

  abbrev raw_by : List InUnit → List RawEntry → RawUnits
  raw_by units entries = record { units = units; entries = entries }

  pub graph_told : length (frame_section graph) < LENGTH_RESERVED → TellsGraph image relocs (sections_of graph) graph
  graph_told small =
      let s = graph_spelled graph well readable in
      record {
        raw = read_units graph;
        spelled = record { trees = s.trees; spells = s.spells; is = sym (ap₂ raw_by s.units s.entries) };
        count = rows_len graph 0 0 graph.units;
        units = unit_told;
        frames = frames_spelled graph.frames well.frames small;
      }
