-- No count falls.
use Rattle.std.proofs.Common.{arith}
use Rattle.ds_files.specs.Outside.{Counts, IsLater}

pub later_trans : (a b c : Counts) → IsLater a b → IsLater b c → IsLater a c
later_trans a b c first next =
    let f0 = first.0 in
    let t0 = next.0 in
    let f1 = first.1 in
    let t1 = next.1 in
    let f2 = first.2 in
    let t2 = next.2 in
    let f3 = first.3 in
    let t3 = next.3 in
    (omega (arith, f0, t0), omega (arith, f1, t1), omega (arith, f2, t2), omega (arith, f3, t3))
