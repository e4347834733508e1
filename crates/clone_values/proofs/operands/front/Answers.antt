use Rattle.std.proofs.Common.{take, ap, ◌∙◌}
use Rattle.clone_values.proofs.Fronts.{front_is}
use Rattle.clone_values.proofs.operands.front.Goals as goal

pub returns : goal.returns
returns c = ap (λ n. take n c.args.bytes.now) c.front_len.ensures.len ∙ front_is c.args.bytes.now
