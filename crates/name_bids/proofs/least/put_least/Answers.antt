use Rattle.std.proofs.Common.{◌≡◌, ◌∙◌, ◌+◌, ℕ, ap, arith, get_or, sym}
use Rattle.std.proofs.lemmas.Option.{same_Some}
use Rattle.name_bids.proofs.Reading.{least_more, least_other, noted_inside}
use Rattle.name_bids.proofs.least.put_least.Goals as goal

pub returns-in_default-clause-each : goal.returns-in_default-clause-each
returns-in_default-clause-each c =
    least_other c.args.names.now c.args.closed.now.state.least c.args.cells.now c.args.x c.args.start c.args.part.now (omega (arith, c.requires.len, c.requires.name)) (λ k inside is bid. c.in_default.ensures.none k inside is)

pub least_word-requires : goal.least_word-requires
least_word-requires c =
    noted_inside c.args.cells.now c.args.closed.now.state.cells c.args.x (c.args.start + c.in-Some.k) c.requires.inside (omega (arith, c.requires.len, c.requires.name)) c.in-Some.ensures.some.1

pub returns-then-least_word-number-clause-each : goal.returns-then-least_word-number-clause-each
returns-then-least_word-number-clause-each c =
    least_more c.args.names.now c.args.closed.now.state.least c.args.cells.now c.args.x c.args.start c.in-Some.k c.args.part.now c.requires.len (omega (arith, c.requires.len, c.requires.name)) c.in-Some.ensures.some.0 c.in-Some.ensures.some.1
    (sym c.least_word.ensures ∙ c.if-least_word-number.true ∙ c.number.ensures)

pub returns-else-least_word-number-clause-each : goal.returns-else-least_word-number-clause-each
returns-else-least_word-number-clause-each c =
    least_other c.args.names.now c.args.closed.now.state.least c.args.cells.now c.args.x c.args.start c.args.part.now (omega (arith, c.requires.len, c.requires.name)) (λ k inside is bid.
    let both : c.args.start + k ≡ c.args.start + c.in-Some.k = same_Some (c.args.start + k) (c.args.start + c.in-Some.k) (sym is ∙ c.in-Some.ensures.some.1) in
    c.if-least_word-number.false (c.least_word.ensures ∙ ap (λ (i : ℕ). get_or c.args.closed.now.state.least i 0) (sym both) ∙ bid ∙ sym c.number.ensures))
