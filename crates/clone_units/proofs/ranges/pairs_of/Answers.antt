use Rattle.std.proofs.Common.{◌≤◌, ◌<◌, ◌+◌, inl, inr, List, sym, ap, subst, ◌∙◌, arith}
use Rattle.std.specs.List.{All, filter_map}
use Rattle.std.specs.List.Sorted.{IsNonDecreasingBy}
use Rattle.dwarf_types.specs.declared.analysis.CodeRange.{CodeRange}
use Rattle.dwarf_types.specs.LinkedUnits.{Object}
use Rattle.clone_units.specs.Pieces.{object_in, pair_in}
use Rattle.clone_units.proofs.Pieces.{all_written, code_rises, ends_within, none_outside}
use Rattle.clone_units.proofs.ranges.pairs_of.Goals as goal

pub pieces_within-pieces-requires : goal.pieces_within-pieces-requires
pieces_within-pieces-requires c = subst (λ (code : List CodeRange). IsNonDecreasingBy (λ piece. piece.entry) code) (sym c.as_slice.ensures) (code_rises c.args.seen.now c.requires.sound)

pub written_pairs-requires : goal.written_pairs-requires
written_pairs-requires c k d lt =
    let unit = c.unit_of-unit.result.now in
    omega (arith, (c.pieces_within-pieces.ensures.only k d lt).1, ends_within c.args.seen.now c.args.u unit c.requires.sound c.unit_of-unit.ensures, c.from-first.ensures, c.from.ensures, c.requires.plain)

pub returns : goal.returns
returns c =
    let o : Object = object_in c.args.seen.now c.args.plain.now in
    let f = pair_in o c.args.u in
    let unit = c.unit_of-unit.result.now in
    let pieces = c.pieces_within-pieces.result.now in
    let lie : All (λ piece. (unit.first ≤ piece.entry) × (piece.entry < unit.first + unit.count)) pieces =
    λ k d lt. (let lies = c.pieces_within-pieces.ensures.only k d lt in (omega (arith, lies.0, c.from-first.ensures), omega (arith, lies.1, c.from-first.ensures, c.from.ensures))) in
    c.in_ok-pairs.ensures ∙ all_written o c.args.u unit pieces c.requires.sound c.unit_of-unit.ensures lie
    ∙ c.pieces_within-pieces.ensures.same f (λ piece out. none_outside o c.args.u unit c.requires.sound c.unit_of-unit.ensures piece
    (elim out [ inl lt ↦ inl (omega (arith, lt, c.from-first.ensures)) | inr ge ↦ inr (omega (arith, ge, c.from-first.ensures, c.from.ensures)) ]))
    ∙ ap (filter_map f) c.as_slice.ensures
