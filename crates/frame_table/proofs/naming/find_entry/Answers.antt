use Rattle.std.proofs.Common.{arith, sym}
use Rattle.frame_table.proofs.Standing.{begins_at, begins_not}
use Rattle.frame_table.proofs.naming.find_entry.Goals as goal

pub returns-then-i-entries-clause-is : goal.returns-then-i-entries-clause-is
returns-then-i-entries-clause-is c =
    sym (begins_not c.args.entries.now c.args.place c.holder-i.result (record { place = 0; end = 0; id = 0 }) c.requires c.holder-i.ensures.holder c.holder-i.ensures.within (λ lt is. let past = c.if-i-entries.true in omega arith))

pub returns-then-entries-i-clause-is : goal.returns-then-entries-i-clause-is
returns-then-entries-i-clause-is c =
    sym (begins_at c.args.entries.now c.args.place c.holder-i.result (record { place = 0; end = 0; id = 0 }) c.requires c.holder-i.ensures.holder (omega (arith, c.if-i-entries.false)) c.if-entries-i.true)

pub returns-else-entries-i-clause-is : goal.returns-else-entries-i-clause-is
returns-else-entries-i-clause-is c =
    sym (begins_not c.args.entries.now c.args.place c.holder-i.result (record { place = 0; end = 0; id = 0 }) c.requires c.holder-i.ensures.holder c.holder-i.ensures.within (λ lt is. c.if-entries-i.false is))
