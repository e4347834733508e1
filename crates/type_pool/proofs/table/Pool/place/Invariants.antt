use Rattle.std.proofs.Common.{◌≡◌}
use Rattle.type_pool.specs.Pairs.{Has}
use Rattle.type_pool.specs.Standing.{OthersStand}
use Rattle.type_pool.specs.Seats.{Belongs, known, Learns}
use Rattle.type_pool.proofs.table.Pool.place.Given as goal

-- other names stand in all cells that were probed, and nothing was put
abbrev pub invariant-loop-turn : goal.invariant-loop-turn
invariant-loop-turn g l = record {
  belongs : Belongs l.self l.seat;
  learns : Learns (known l.fn.seat) (known l.seat);
  others : OthersStand (g.N.NameBook.same l.names) (Has (known l.seat).notes) (g.N.NameBook.start_of l.names l.x l.self.cells) l.self.cells l.x l.turn;
  puts : (known l.seat).puts ≡ (known l.fn.seat).puts;
}
