use Rattle.std.proofs.Common.{None, map, sym, ap, ◌∙◌}
use Rattle.dwarf_types.specs.LinkedGraph.{piece_in}
use Rattle.dwarf_types.specs.LinkedUnits.{Object}
use Rattle.std.specs.List.{filter_map}
use Rattle.clone_units.specs.Pieces.{object_in, once_behind, span_of}
use Rattle.clone_units.proofs.Pieces.{spans_of}
use Rattle.clone_units.proofs.SpansInOrder.{spans_sorted}
use Rattle.clone_units.proofs.ranges.ranges_of.Goals as goal

pub returns : goal.returns
returns c =
    let o : Object = object_in c.args.seen.now c.args.plain.now in
    spans_sorted (filter_map (piece_in o c.args.u) o.seen.code) c.in_ok-pairs.pairs.items c.sort_pairs.new.pairs.items c.in_ok-spans.spans
    (spans_of o c.args.u o.seen.code ∙ ap (map span_of) (sym c.in_ok-pairs.ensures)) c.sort_pairs.ensures.same c.sort_pairs.ensures.order (c.in_ok-spans.ensures ∙ ap (once_behind None) c.deref.ensures.value)
