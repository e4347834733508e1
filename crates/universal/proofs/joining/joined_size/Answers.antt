use Rattle.std.proofs.Common.{◌≡◌, ◌+◌, [], ap, length, drop, arith}
use Rattle.std.proofs.lemmas.List.{drop_all}
use Rattle.universal.specs.Joined.{paged}
use Rattle.universal.proofs.Rooms.{length_joined}
use Rattle.universal.proofs.joining.joined_size.Goals as goal

pub returns : goal.returns
returns c =
    let none : drop c.loop-part.part-index c.args.parts.now ≡ [] = drop_all c.loop-part.part-index c.args.parts.now (omega (arith, c.loop-part-test.false)) in
    let end : c.loop-part.end + length (paged c.loop-part.end (drop c.loop-part.part-index c.args.parts.now)) ≡ c.loop-part.end + 0 = ap (λ ps. c.loop-part.end + length (paged c.loop-part.end ps)) none in
    omega (arith, end, c.loop-part.invariant.total, length_joined c.args.parts.now)
