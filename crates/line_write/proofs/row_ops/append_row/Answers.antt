use Rattle.std.proofs.Common.{append_assoc}
use Rattle.line_write.proofs.row_ops.append_row.Goals as goal

pub returns : goal.returns
returns c =
    rw (
      c.in_ok-append_moved.ensures,
      c.in_ok-append_when-3.ensures,
      c.in_ok-append_when-2.ensures,
      c.in_ok-append_when.ensures,
      c.in_ok-append_stmt.ensures,
      c.in_ok-append_number-3.ensures,
      c.in_ok-append_discriminator.ensures,
      c.in_ok-append_number-2.ensures,
      c.in_ok-append_number.ensures,
    ) (simp append_assoc)
