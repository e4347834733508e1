use Rattle.std.proofs.Common.{ap, arith}
use Rattle.frame_table.specs.Naming.{refuse_any}
use Rattle.frame_table.proofs.Missing.{found_missed, none_missed, never_missed}
use Rattle.frame_table.proofs.frames.check_named.Goals as goal

pub returns-in-Some-clause-named : goal.returns-in-Some-clause-named
returns-in-Some-clause-named c =
    let least = rw c.in-Some.is at c.requires.missed in
    ap refuse_any (found_missed c.args.size c.args.entries.now c.args.i c.in-Some.missed c.requires.apart c.requires.within c.requires.i least c.if-missed-i.true)

pub returns-in_default-clause-named : goal.returns-in_default-clause-named
returns-in_default-clause-named c =
    let least = rw c.in-Some.is at c.requires.missed in
    let from = rw c.in-Some.is at c.requires.behind in
    let differs = c.if-missed-i.false in
    ap refuse_any (none_missed c.args.size c.args.entries.now c.args.i c.in-Some.missed c.requires.apart c.requires.within c.requires.i least (omega arith))

pub returns-in_default-2-clause-named : goal.returns-in_default-2-clause-named
returns-in_default-2-clause-named c =
    let never = rw c.in_default.is at c.requires.missed in
    ap refuse_any (never_missed c.args.size c.args.entries.now c.args.i c.requires.apart c.requires.within c.requires.i never)
