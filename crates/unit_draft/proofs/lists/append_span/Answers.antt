use Rattle.std.proofs.Common.{append_assoc}
use Rattle.byteorder.specs.Endian.{little_bytes}
use Rattle.unit_draft.proofs.lists.append_span.Goals as goal

pub returns : goal.returns
returns c = rw (c.in_ok-append_u64-2.ensures.ok, c.in_ok-append_u64.ensures.ok) (append_assoc c.args.out.now (little_bytes 8 c.args.span.now.low) (little_bytes 8 c.args.span.now.high))
