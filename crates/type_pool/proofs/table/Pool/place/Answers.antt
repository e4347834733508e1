use Rattle.std.proofs.Common.{ℕ, ap, ◌∙◌, arith, sym, subst, inr, true≢false}
use Rattle.type_pool.specs.declared.view.View.{View}
use Rattle.type_pool.specs.Pairs.{Has}
use Rattle.type_pool.specs.Standing.{probe}
use Rattle.type_pool.specs.Seats.{known}
use Rattle.type_pool.proofs.table.Pool.place.Goals as goal
use Rattle.type_pool.proofs.Places.{others_there, placed_not_crowded, stands_there}

pub returns-in_default-clause-placed : goal.returns-in_default-clause-placed
returns-in_default-clause-placed g c =
    let start = g.N.NameBook.start_of c.args.names.now c.args.x c.args.self.now.cells in
    stands_there (g.N.NameBook.same c.args.names.now) (known c.loop-turn.seat).notes (known c.occupy.new.seat).notes start c.args.self.now.cells c.args.x c.loop-turn.turn c.probed-cell.result c.args.x
    (ap (λ (v : View). v.notes) c.in_default.ensures.put) (omega arith)
    (c.probed-cell.ensures.cell ∙ ap (λ (s : ℕ). probe s c.args.self.now.cells c.loop-turn.turn) c.start-start.ensures)
    (g.met.N.NameBook.reflexive c.args.names.now c.args.x c.requires.book.1) c.loop-turn.invariant.others

pub returns-in_default-clause-crowded : goal.returns-in_default-clause-crowded
returns-in_default-clause-crowded g c crowded = absurd (placed_not_crowded (g.N.NameBook.same c.args.names.now) (known c.occupy.new.seat).notes (g.N.NameBook.start_of c.args.names.now c.args.x c.args.self.now.cells) c.args.self.now.cells c.args.x c.probed-cell.result
    c.occupy.ensures.one_each (returns-in_default-clause-placed g c) crowded)

pub returns-then-equal-clause-placed : goal.returns-then-equal-clause-placed
returns-then-equal-clause-placed g c =
    let start = g.N.NameBook.start_of c.args.names.now c.args.x c.args.self.now.cells in
    stands_there (g.N.NameBook.same c.args.names.now) (known c.loop-turn.seat).notes (known c.occupy.new.seat).notes start c.args.self.now.cells c.args.x c.loop-turn.turn c.probed-cell.result c.in-Some.name
    (ap (λ (v : View). v.notes) c.in-Some.ensures.found.1) (omega arith)
    (c.probed-cell.ensures.cell ∙ ap (λ (s : ℕ). probe s c.args.self.now.cells c.loop-turn.turn) c.start-start.ensures)
    (c.equal.ensures.0 c.if-equal.true) c.loop-turn.invariant.others

pub returns-then-equal-clause-crowded : goal.returns-then-equal-clause-crowded
returns-then-equal-clause-crowded g c crowded = absurd (placed_not_crowded (g.N.NameBook.same c.args.names.now) (known c.occupy.new.seat).notes (g.N.NameBook.start_of c.args.names.now c.args.x c.args.self.now.cells) c.args.self.now.cells c.args.x c.probed-cell.result
    c.occupy.ensures.one_each (returns-then-equal-clause-placed g c) crowded)

pub loop-turn-preserved : goal.loop-turn-preserved
loop-turn-preserved g c =
    let start = g.N.NameBook.start_of c.args.names.now c.args.x c.args.self.now.cells in
    let is = c.in-Some.ensures.found.1 in
    let old = c.loop-turn.invariant in
    record {
      belongs = c.occupy.ensures.belongs;
      learns = record {
        share = ap (λ (v : View). v.share) is ∙ old.learns.share;
        bids = ap (λ (v : View). v.bids) is ∙ old.learns.bids;
        notes = λ cell name has. subst (λ (v : View). Has v.notes cell name) (sym is) (inr (old.learns.notes cell name has));
      };
      others = others_there (g.N.NameBook.same c.args.names.now) (known c.loop-turn.seat).notes (known c.occupy.new.seat).notes start c.args.self.now.cells c.args.x c.loop-turn.turn c.probed-cell.result c.in-Some.name
          (ap (λ (v : View). v.notes) is)
          (c.probed-cell.ensures.cell ∙ ap (λ (s : ℕ). probe s c.args.self.now.cells c.loop-turn.turn) c.start-start.ensures)
          (λ same. true≢false (sym (c.equal.ensures.1 same) ∙ c.if-equal.false)) old.others;
      puts = ap (λ (v : View). v.puts) is ∙ old.puts;
    }
