-- What a list is once a lent slice of its items has been written.
use Rattle.std.specs.Prelude.{List as Listed}
use Rattle.std.specs.Borrow.{Lends, MutBor, Fml, Array, RattleType}
use Rattle.ds_base.specs.Items.{with_items}
use Rattle.ds_base.specs.contracts.list.List.{the_row}

abbrev pub LendsItems : (T : RattleType) → MutBor (Listed T.Denot) → MutBor (Listed T.Denot) → Fml
LendsItems T l r = Lends (the_row T) (Array T 0) l r (with_items l.now)
