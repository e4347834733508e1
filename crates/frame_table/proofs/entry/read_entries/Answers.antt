use Rattle.std.proofs.Common.{arith}
use Rattle.frame_table.proofs.Standing.{apart_push, ends_push}
use Rattle.frame_table.proofs.Trying.{read_more, read_fault, read_end}
use Rattle.frame_table.proofs.entry.read_entries.Goals as goal

pub returns-in-Err-clause-all : goal.returns-in-Err-clause-all
returns-in-Err-clause-all c =
    let goes = c.loop-place.invariant.goes in
    read_fault c.args.bytes.now goes.left c.loop-place.list.items c.loop-place.place c.in-Err.fault (λ end. omega (arith, end, c.loop-place-test.true)) c.in-Err.ensures.read goes.is

pub loop-place-preserved : goal.loop-place-preserved
loop-place-preserved c =
    let place = c.in-Ok.ensures.place in
    let filled = c.in-Ok.ensures.filled in
    let old = c.loop-place.invariant in
    rw c.in_ok-push-in-Ok.ensures.items (record {
      goes = read_more c.args.bytes.now c.loop-place.list.items c.loop-place.place c.in-Ok.entry (omega (arith, c.loop-place-test.true)) (omega arith) c.in-Ok.ensures.read old.goes;
      apart = apart_push c.loop-place.list.items c.in-Ok.entry old.apart (λ k d lt. let h = old.ends k d lt in omega arith) filled;
      ends = ends_push c.loop-place.list.items c.in-Ok.entry (λ k d lt. let h = old.ends k d lt in omega arith) (omega arith);
      within = c.in-Ok.ensures.within;
    })

pub returns-clause-all : goal.returns-clause-all
returns-clause-all c =
    let goes = c.loop-place.invariant.goes in
    read_end c.args.bytes.now goes.left c.loop-place.list.items c.loop-place.place (omega (arith, c.loop-place.invariant.within, c.loop-place-test.false)) goes.is
