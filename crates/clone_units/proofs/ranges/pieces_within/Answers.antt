use Rattle.std.proofs.Common.{◌≡◌, ◌≤◌, ◌<◌, false, true, ltb, take, ap, subst, sym, ◌∙◌, List}
use Rattle.std.specs.List.{All, filter_map}
use Rattle.std.specs.List.Sorted.{IsPartitionPoint}
use Rattle.std.proofs.lemmas.List.{take_rest}
use Rattle.dwarf_types.specs.declared.analysis.CodeRange.{CodeRange}
use Rattle.clone_units.proofs.Pieces.{all_within, gathered_within}
use Rattle.clone_units.proofs.ranges.pieces_within.Goals as goal

pub returns-clause-only : goal.returns-clause-only
returns-clause-only c =
    let code = c.args.code.now in
    let rest = take_rest code c.count_below.result in
    subst (λ (xs : List CodeRange). All (λ piece. (c.args.first ≤ piece.entry) × (piece.entry < c.args.end)) (take c.count_below-2.result xs)) (sym rest)
    (all_within code c.args.first c.args.end c.count_below.result c.count_below-2.result c.count_below.ensures.within c.count_below.ensures.parted
    (subst (λ (xs : List CodeRange). IsPartitionPoint (λ piece. ltb piece.entry c.args.end ≡ true) (λ piece. ltb piece.entry c.args.end ≡ false) xs c.count_below-2.result) rest c.count_below-2.ensures.parted))

pub returns-clause-same : goal.returns-clause-same
returns-clause-same c f none =
    let code = c.args.code.now in
    let rest = take_rest code c.count_below.result in
    ap (λ (xs : List CodeRange). filter_map f (take c.count_below-2.result xs)) rest
    ∙ gathered_within f code c.args.first c.args.end c.count_below.result c.count_below-2.result none c.count_below.ensures.within c.count_below.ensures.parted
    (subst (λ (xs : List CodeRange). IsPartitionPoint (λ piece. ltb piece.entry c.args.end ≡ true) (λ piece. ltb piece.entry c.args.end ≡ false) xs c.count_below-2.result) rest c.count_below-2.ensures.parted)
