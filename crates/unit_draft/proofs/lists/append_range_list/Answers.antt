use Rattle.std.proofs.Common.{◌++◌, List, ℕ, ap, append_assoc, ◌∙◌}
use Rattle.std.specs.List.{flat_map}
use Rattle.dwarf_types.specs.declared.address.Span.{Span}
use Rattle.dwarf_types.specs.Lists.{end_of_list, range_bytes}
use Rattle.unit_draft.proofs.Pieces.{pieces_done, pieces_step}
use Rattle.unit_draft.proofs.lists.append_range_list.Goals as goal

abbrev none : Span
none = record { low = 0; high = 0 }

pub loop-span-preserved : goal.loop-span-preserved
loop-span-preserved c = pieces_step (range_bytes c.args.version) c.args.spans.now c.loop-span.span-index none c.loop-span.out c.append_range.new.out _ c.loop-span-test.true c.in_ok-append_range.ensures c.loop-span.invariant

pub returns : goal.returns
returns c =
    let all = flat_map (range_bytes c.args.version) c.args.spans.now in
    let end = end_of_list c.args.version in
    c.in_ok-append_range_end.ensures ∙ ap (λ (front : List ℕ). front ++ end) (pieces_done (range_bytes c.args.version) c.args.spans.now c.loop-span.span-index _ _ c.loop-span-test.false c.loop-span.invariant)
    ∙ append_assoc c.args.out.now all end
