use Rattle.std.proofs.Common.{◌++◌, List, ℕ, ap, append_assoc, ◌∙◌}
use Rattle.std.specs.List.{flat_map}
use Rattle.dwarf_types.specs.Lists.{end_of_list, location_bytes}
use Rattle.patches.specs.Filling.{filled}
use Rattle.unit_draft.proofs.Pieces.{pieces_done, pieces_next}
use Rattle.unit_draft.proofs.lists.append_location_list.Goals as goal

pub loop-item-preserved : goal.loop-item-preserved
loop-item-preserved c = λ f place tells.
    pieces_next (location_bytes c.args.version place) c.args.items.now c.loop-item.item-index c.item-item.result _ _ _ c.loop-item-test.true c.item-item.is (c.in_ok-append_location.ensures f place tells) (c.loop-item.invariant f place tells)

pub returns : goal.returns
returns c = λ f place tells.
    let all = flat_map (location_bytes c.args.version place) c.args.items.now in
    c.in_ok-append_location_end.ensures f ∙ ap (λ (front : List ℕ). front ++ end_of_list c.args.version) (pieces_done (location_bytes c.args.version place) c.args.items.now c.loop-item.item-index _ _ c.loop-item-test.false (c.loop-item.invariant f place tells))
    ∙ append_assoc (filled c.args.out.now f) all (end_of_list c.args.version)
