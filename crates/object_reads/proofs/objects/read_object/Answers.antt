use Rattle.std.proofs.lemmas.Result.{err_from_is_err_and}
use Rattle.object_reads.proofs.objects.read_object.Goals as goal

pub returns-in_err-live-clause-read : goal.returns-in_err-live-clause-read
returns-in_err-live-clause-read c =
    let p = err_from_is_err_and c.from_residual-in_err-live.result c.from_residual-in_err-live.ensures.1 in
    λ bytes is. rw (p.1, p.2) tt

pub returns-in_err-made-clause-read : goal.returns-in_err-made-clause-read
returns-in_err-made-clause-read c =
    let p = err_from_is_err_and c.from_residual-in_err-made.result c.from_residual-in_err-made.ensures.1 in
    λ bytes is. rw (p.1, p.2) tt
