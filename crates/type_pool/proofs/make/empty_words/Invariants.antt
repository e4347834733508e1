use Rattle.std.proofs.Common.{◌*◌}
use Rattle.type_pool.specs.Keeping.{AreEmpty}
use Rattle.type_pool.proofs.make.empty_words.Given as goal

abbrev pub invariant-loop : goal.invariant-loop
invariant-loop l = AreEmpty 1024 l.block.items × AreEmpty (l.counter * 1024) l.words.items
