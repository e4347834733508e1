use Rattle.std.proofs.Common.{◌≡◌, ◌∙◌, Ok, Err, drop, ap, sym}
use Rattle.ar_read.specs.Header.{member_at, seen}
use Rattle.ar_read.specs.Archive.{found_in}
use Rattle.ar_read.specs.Table.{or_else, content_in}
use Rattle.ar_read.proofs.Listing.{all_members, found_step, found_fault, found_end}
use Rattle.ar_read.proofs.archive.walk.Goals as goal

pub loop-place-init : goal.loop-place-init
loop-place-init c = λ name. ap (λ l. or_else (content_in c.args.contents.now name) (found_in name l)) (sym (all_members c.args.bytes.now))

pub loop-place-preserved : goal.loop-place-preserved
loop-place-preserved c = λ name.
    let m = seen c.in-Ok.member in
    let read : member_at c.loop-place.place (drop c.loop-place.place c.args.bytes.now) ≡ Ok m = sym (ap (member_at c.loop-place.place) c.bytes_from.ensures.is) ∙ c.in-Ok.ensures.read in
    c.in_ok-put_behind.ensures name _
    ∙ ap (or_else (content_in c.loop-place.contents name)) (rw c.behind-place.ensures (sym (found_step c.args.bytes.now name c.loop-place.place m c.loop-place-test.true read)))
    ∙ c.loop-place.invariant name

pub returns-in-Err : goal.returns-in-Err
returns-in-Err c = λ name.
    let read : member_at c.loop-place.place (drop c.loop-place.place c.args.bytes.now) ≡ Err c.in-Err.fault = sym (ap (member_at c.loop-place.place) c.bytes_from.ensures.is) ∙ c.in-Err.ensures.read in
    ap (or_else (content_in c.loop-place.contents name)) (sym (found_fault c.args.bytes.now name c.loop-place.place c.in-Err.fault c.loop-place-test.true read)) ∙ c.loop-place.invariant name

pub returns : goal.returns
returns c = λ name.
    ap (or_else (content_in c.loop-place.contents name)) (rw c.archive_fault.ensures (sym (found_end c.args.bytes.now name c.loop-place.place c.loop-place-test.false))) ∙ c.loop-place.invariant name
