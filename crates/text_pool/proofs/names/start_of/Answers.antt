use Rattle.std.proofs.Common.{◌≡◌, ◌-◌, ◌<◌, suc, length, ap, ◌∙◌, arith}
use Rattle.text_pool.specs.Named.{start_of}
use Rattle.text_pool.proofs.Ends.{start_is}
use Rattle.text_pool.proofs.names.start_of.Goals as goal

pub returns-else-number-eq0 : goal.returns-else-number-eq0
returns-else-number-eq0 c =
    let n = c.args.number in
    let positive : 0 < n = omega (arith, c.if-number-eq0.false) in
    let is : suc (n - 1) ≡ n = omega (arith, positive) in
    let lt : n - 1 < length c.args.ends.now = omega (arith, positive, c.requires) in
    start_is 0 c.args.ends.now (n - 1) 0 lt ∙ ap (start_of 0 c.args.ends.now) is
