use Rattle.std.proofs.Common.{refl, ◌∙◌}
use Rattle.std.proofs.lemmas.Result.{err_from_is_err_and}
use Rattle.object_reads.specs.Sources.{listed}
use Rattle.link_core.specs.Linked.{clean, part_of}
use Rattle.link_core.proofs.Bundling.{check_refused, own_read}
use Rattle.link_core.proofs.link.check_objects.Goals as goal

pub returns-in_err-read_all-clause-checks : goal.returns-in_err-read_all-clause-checks
returns-in_err-read_all-clause-checks g c = λ all holds.
    let it = c.args.sources.now in
    let p = err_from_is_err_and c.from_residual.result c.from_residual.ensures.1 in
    let part = part_of c.args.program.now it all in
    let own = own_read part c.target_of.result it.first (listed it all) c.target_of.ensures refl refl in
    rw (p.1, p.2) (check_refused part c.target_of.result it.first (listed it all) own c.in_err-read_all.field-0.0 (c.in_err-read_all.ensures.read all holds).read)

pub returns-clause-checks : goal.returns-clause-checks
returns-clause-checks g c = λ all holds.
    let it = c.args.sources.now in
    let read = (c.in_ok-read_all.ensures.read all holds).read in
    let part = part_of c.args.program.now it all in
    let own = own_read part c.target_of.result it.first (listed it all) c.target_of.ensures refl refl in
    clean _ _ (own ∙ read.exact) read.live
