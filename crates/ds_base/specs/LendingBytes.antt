-- What bytes are once a lent slice of them has been written.
use Rattle.std.specs.Prelude.{ℕ, List as Listed}
use Rattle.std.specs.Borrow.{Lends, MutBor, Fml, Array, u8}
use Rattle.ds_base.specs.Items.{with_items}
use Rattle.ds_base.specs.contracts.bytes.Bytes.{the_row}

abbrev pub LendsBytes : MutBor (Listed ℕ) → MutBor (Listed ℕ) → Fml
LendsBytes l r = Lends the_row (Array u8 0) l r (with_items l.now)
