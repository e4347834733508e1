use Rattle.std.proofs.Common.{append_assoc}
use Rattle.line_write.proofs.names.append_file_format.Goals as goal

pub returns : goal.returns
returns c = λ f.
    rw (
      c.in_ok-append_digest_format.ensures f,
      c.in_ok-append_format-4.ensures f,
      c.in_ok-append_format-3.ensures f,
      c.in_ok-append_format-2.ensures f,
      c.in_ok-append_format.ensures f,
      c.in_ok-push.ensures.ok f,
      c.pairs_in.ensures,
    ) (simp append_assoc)
