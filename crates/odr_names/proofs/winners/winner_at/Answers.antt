use Rattle.std.proofs.Common.{◌≡◌, ◌-◌, Some, arith, slice_get, get_or, subst, sym, ap, ◌∙◌}
use Rattle.std.proofs.lemmas.Bool.{both_ways}
use Rattle.std.proofs.lemmas.Option.{same_Some, slice_get-get_or}
use Rattle.odr_names.specs.Numbered.{path_at}
use Rattle.odr_names.specs.Winners.{IsWinner}
use Rattle.odr_names.specs.declared.winners.Ranked.{Ranked}
use Rattle.odr_names.proofs.Winning.{winner_itself, winner_taken}
use Rattle.odr_names.proofs.winners.winner_at.Goals as goal

pub returns-then-i-eq0 : goal.returns-then-i-eq0
returns-then-i-eq0 c = λ r at_r. (
    let d : Ranked = record { hash = 0; bid = 0; name = 0 } in
    let ranks = c.args.ranks.now in
    let at : slice_get ranks c.args.i ≡ Some (get_or ranks c.args.i d) = slice_get-get_or ranks c.args.i d c.requires.within in
    subst (λ (r : Ranked). IsWinner c.args.names.now r.name (get_or ranks c.args.i d).name) (same_Some _ r (sym at ∙ at_r))
    (winner_itself c.args.names.now ranks (get_or ranks c.args.i d) c.args.i c.requires.ranked c.requires.order at (λ s positive at_s same. absurd (omega arith))))

pub path_equal-requires : goal.path_equal-requires
path_equal-requires c =
    let d : Ranked = record { hash = 0; bid = 0; name = 0 } in
    let ranks = c.args.ranks.now in
    let at : slice_get ranks c.args.i ≡ Some (get_or ranks c.args.i d) = slice_get-get_or ranks c.args.i d c.requires.within in
    let before : slice_get ranks (c.args.i - 1) ≡ Some (get_or ranks (c.args.i - 1) d) = slice_get-get_or ranks (c.args.i - 1) d (omega (arith, c.requires.within)) in
    ((c.requires.ranked.each _ _ before).within, (c.requires.ranked.each _ _ at).within)

pub bounds-winners-before : goal.bounds-winners-before
bounds-winners-before c =
    let d : Ranked = record { hash = 0; bid = 0; name = 0 } in
    let ranks = c.args.ranks.now in
    let before : slice_get ranks (c.args.i - 1) ≡ Some (get_or ranks (c.args.i - 1) d) = slice_get-get_or ranks (c.args.i - 1) d (omega (arith, c.requires.within)) in
    omega (arith, (c.requires.ranked.each _ _ before).within, c.requires.found.len)

pub returns-then-path_equal : goal.returns-then-path_equal
returns-then-path_equal c = λ r at_r. (
    let d : Ranked = record { hash = 0; bid = 0; name = 0 } in
    let ranks = c.args.ranks.now in
    let at : slice_get ranks c.args.i ≡ Some (get_or ranks c.args.i d) = slice_get-get_or ranks c.args.i d c.requires.within in
    let before : slice_get ranks (c.args.i - 1) ≡ Some (get_or ranks (c.args.i - 1) d) = slice_get-get_or ranks (c.args.i - 1) d (omega (arith, c.requires.within)) in
    subst (λ (r : Ranked). IsWinner c.args.names.now r.name (get_or c.args.winners.now (get_or ranks (c.args.i - 1) d).name 0)) (same_Some _ r (sym at ∙ at_r))
    (winner_taken c.args.names.now ranks c.args.winners.now (get_or ranks c.args.i d) _ _ c.args.i before (omega arith) (c.path_equal.ensures.0 c.if-path_equal.true) c.requires.found))

pub returns-else-path_equal : goal.returns-else-path_equal
returns-else-path_equal c = λ r at_r. (
    let d : Ranked = record { hash = 0; bid = 0; name = 0 } in
    let ranks = c.args.ranks.now in
    let at : slice_get ranks c.args.i ≡ Some (get_or ranks c.args.i d) = slice_get-get_or ranks c.args.i d c.requires.within in
    let before : slice_get ranks (c.args.i - 1) ≡ Some (get_or ranks (c.args.i - 1) d) = slice_get-get_or ranks (c.args.i - 1) d (omega (arith, c.requires.within)) in
    subst (λ (r : Ranked). IsWinner c.args.names.now r.name (get_or ranks c.args.i d).name) (same_Some _ r (sym at ∙ at_r))
    (winner_itself c.args.names.now ranks (get_or ranks c.args.i d) c.args.i c.requires.ranked c.requires.order at
    (λ s positive at_s same. both_ways _ c.if-path_equal.false (c.path_equal.ensures.1 (ap (λ (t : Ranked). path_at c.args.names.now t.name) (same_Some _ s (sym before ∙ at_s)) ∙ same)))))
