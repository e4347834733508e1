use Rattle.std.proofs.Common.{◌-◌, ◌∙◌, ◌++◌, ap}
use Rattle.byteorder.specs.Endian.{little_bytes}
use Rattle.appending.proofs.Places.{append_more}
use Rattle.layout.proofs.address_sets.append_span.Goals as goal

pub returns : goal.returns
returns c =
    let span = c.args.span.now in
    append_more _ _ _ (little_bytes 8 span.low) (little_bytes 8 (span.high - span.low)) c.in_ok-append_u64.ensures.ok
    (c.in_ok-append_u64-2.ensures.ok ∙ ap (λ n. c.append_u64.new.out ++ little_bytes 8 n) c.saturating_sub.ensures)
