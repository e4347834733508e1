use Rattle.std.proofs.Common.{append_assoc}
use Rattle.line_write.proofs.names.append_numbers.Goals as goal

pub returns : goal.returns
returns c = λ f. rw (c.in_ok-append_digest.ensures f, c.in_ok-extend_uleb-3.ensures.ok f, c.in_ok-extend_uleb-2.ensures.ok f, c.in_ok-extend_uleb.ensures.ok f) (simp append_assoc)
