use Rattle.std.proofs.Common.{[], ◌≡◌, ◌<◌, Some, ap, sym, subst, ◌∙◌}
use Rattle.std.specs.Prelude.{IfSome}
use Rattle.object_reads.specs.Opening.{opened_as}
use Rattle.object_reads.proofs.Slices.{opened_at}
use Rattle.object_reads.proofs.reading.file_of.Goals as goal

pub returns : goal.returns
returns c =
    let lent = c.args.lent.now in
    let lt = rw c.in_ok-n.was at c.requires in
    rw c.in_ok-n.was (ap opened_as c.index-opened-n.is ∙ opened_at lent.target.arch lent.files.now lent.opened.now c.in_ok-n.field-0 c.index-opened-n.result [] lent.are lt)
