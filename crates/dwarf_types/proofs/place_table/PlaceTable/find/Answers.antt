use Rattle.std.proofs.Common.{ap, arith, length, sym}
use Rattle.dwarf_types.specs.Raw.{places_of}
use Rattle.dwarf_types.proofs.Placing.{all_before}
use Rattle.dwarf_types.proofs.place_table.PlaceTable.find.Goals as goal

pub returns-then-step-len : goal.returns-then-step-len
returns-then-step-len c = sym (all_before (places_of c.args.entries.now) c.args.place (λ k lt. omega (arith, c.requires.low k lt, ap length c.self.view_is)))
