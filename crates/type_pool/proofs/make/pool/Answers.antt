use Rattle.std.proofs.Common.{sym, subst}
use Rattle.type_pool.specs.Keeping.{AreEmpty}
use Rattle.type_pool.proofs.make.pool.Goals as goal
use Rattle.type_pool.proofs.Bounds.{opens}

pub of_words-requires : goal.of_words-requires
of_words-requires c = opens record { cells = c.args.cells; names = c.args.names } c.as_slice.result.now (subst (AreEmpty c.args.cells) (sym c.as_slice.ensures.value) c.in_ok-words.ensures)
