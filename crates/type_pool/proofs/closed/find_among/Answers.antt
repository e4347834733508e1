use Rattle.std.proofs.Common.{◌≡◌, ℕ, ◌-◌, ◌*◌, length, get_or, sym, ap, ◌∙◌, arith, subst, true≢false}
use Rattle.type_pool.specs.ClosedWords.{name_words}
use Rattle.type_pool.specs.Standing.{IsIn, OthersStand}
use Rattle.type_pool.proofs.closed.find_among.Goals as goal
use Rattle.type_pool.proofs.ClosedWords.{least_words_at, length-name_words, name_words_at}
use Rattle.type_pool.proofs.Places.{not_behind_empty, not_behind_others, others_more, probed_in, stands_in}

pub returns-then-word-eq0 : goal.returns-then-word-eq0
returns-then-word-eq0 g c cell =
    let book = c.args.names.now in
    let words = name_words c.args.words.now in
    let cells : ℕ = length words in
    let sized = length-name_words c.args.words.now c.args.cells c.requires.words.wide in
    let at = probed_in (g.N.NameBook.start_of book c.args.x) c.start-start.result c.args.cells cells c.loop-turn.turn c.probed-cell.result c.probed-cell.ensures.cell c.start-start.ensures sized in
    not_behind_empty (g.N.NameBook.same book) words (g.N.NameBook.start_of book c.args.x cells) cells c.args.x cell c.loop-turn.turn c.loop-turn.invariant
    (ap (λ (i : ℕ). get_or words i 0) (sym at) ∙ name_words_at c.args.words.now c.probed-cell.result ∙ c.if-word-eq0.true)

pub overflow_cast-word : goal.overflow_cast-word
overflow_cast-word g c =
    let most = c.requires.words.named c.probed-cell.result (omega arith) in
    omega (arith, most, c.requires.words.small)

pub returns-then-equal : goal.returns-then-equal
returns-then-equal g c =
    let book = c.args.names.now in
    let words = name_words c.args.words.now in
    let cells : ℕ = length words in
    let sized = length-name_words c.args.words.now c.args.cells c.requires.words.wide in
    let at = probed_in (g.N.NameBook.start_of book c.args.x) c.start-start.result c.args.cells cells c.loop-turn.turn c.probed-cell.result c.probed-cell.ensures.cell c.start-start.ensures sized in
    let word : ℕ = get_or c.args.words.now (2 * c.probed-cell.result) 0 in
    let read : get_or words c.probed-cell.result 0 ≡ word = name_words_at c.args.words.now c.probed-cell.result in
    let there : IsIn words c.probed-cell.result (word - 1) = (let off = c.if-word-eq0.false in omega arith) in (
      stands_in (g.N.NameBook.same book) words (g.N.NameBook.start_of book c.args.x cells) cells c.args.x c.loop-turn.turn c.probed-cell.result (word - 1) (omega arith) at there (c.equal.ensures.0 c.if-equal.true) c.loop-turn.invariant,
      sym (least_words_at c.args.words.now c.probed-cell.result),
    )

pub loop-turn-preserved : goal.loop-turn-preserved
loop-turn-preserved g c =
    let book = c.args.names.now in
    let words = name_words c.args.words.now in
    let cells : ℕ = length words in
    let start = g.N.NameBook.start_of book c.args.x cells in
    let sized = length-name_words c.args.words.now c.args.cells c.requires.words.wide in
    let at = probed_in (g.N.NameBook.start_of book c.args.x) c.start-start.result c.args.cells cells c.loop-turn.turn c.probed-cell.result c.probed-cell.ensures.cell c.start-start.ensures sized in
    let word : ℕ = get_or c.args.words.now (2 * c.probed-cell.result) 0 in
    let read : get_or words c.probed-cell.result 0 ≡ word = name_words_at c.args.words.now c.probed-cell.result in
    let there : IsIn words c.probed-cell.result (word - 1) = (let off = c.if-word-eq0.false in omega arith) in
    others_more (g.N.NameBook.same book) (IsIn words) start cells c.args.x c.loop-turn.turn (word - 1) c.loop-turn.invariant (subst (λ (i : ℕ). IsIn words i (word - 1)) at there)
    (λ same. true≢false (sym (c.equal.ensures.1 same) ∙ c.if-equal.false))

pub returns : goal.returns
returns g c cell =
    let book = c.args.names.now in
    let words = name_words c.args.words.now in
    let cells : ℕ = length words in
    let start = g.N.NameBook.start_of book c.args.x cells in
    let all : c.loop-turn.turn ≡ 64 = omega arith in
    not_behind_others (g.N.NameBook.same book) words start cells c.args.x cell (subst (OthersStand (g.N.NameBook.same book) (IsIn words) start cells c.args.x) all c.loop-turn.invariant)
