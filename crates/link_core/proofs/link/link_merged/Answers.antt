use Rattle.std.proofs.Common.{true, refl, sym, subst, ◌∙◌, arith}
use Rattle.std.proofs.lemmas.Result.{err_from_is_err_and}
use Rattle.object_reads.specs.Marks.{MarkLive}
use Rattle.object_reads.specs.Sources.{listed}
use Rattle.object_reads.proofs.Analysing.{listed_long}
use Rattle.link_core.specs.declared.bundle.Linked.{Linked}
use Rattle.link_core.specs.Linked.{part_of}
use Rattle.link_core.proofs.Bundling.{left_all, left_read, own_read, part_made, part_refused}
use Rattle.link_core.proofs.link.link_merged.Goals as goal

pub returns-in_err-read-clause-links : goal.returns-in_err-read-clause-links
returns-in_err-read-clause-links g c = λ all holds.
    let it = c.args.sources.now in
    let p = err_from_is_err_and c.from_residual.result c.from_residual.ensures.1 in
    let part = part_of c.args.program.now it all in
    let own = own_read part c.target_of.result it.first (listed it all) c.target_of.ensures refl refl in
    rw (p.1, p.2) (part_refused true part c.args.front c.target_of.result it.first (listed it all) own c.in_err-read.field-0.0 (c.in_err-read.ensures.read all holds).read)

pub returns-in_err-read-clause-left : goal.returns-in_err-read-clause-left
returns-in_err-read-clause-left g c = λ all holds.
    let it = c.args.sources.now in
    let p = err_from_is_err_and c.from_residual.result c.from_residual.ensures.1 in
    rw (p.1, p.2) (left_read Linked c.target_of.result it.first (listed it all) _ c.in_err-read.field-0.0 (c.in_err-read.ensures.read all holds).read)

pub link_marked-requires-clause-few : goal.link_marked-requires-clause-few
link_marked-requires-clause-few g c κs within =
    let it = c.args.sources.now in
    let all = c.requires.files.0 in
    let read = (c.in_ok-read.ensures.read all c.requires.files.1).read in
    omega (arith, read.size, listed_long it.objects.now all it.numbers.now it.end it.each it.within, it.few, it.order)

pub returns-clause-links : goal.returns-clause-links
returns-clause-links g c = λ all holds.
    let it = c.args.sources.now in
    let read = (c.in_ok-read.ensures.read all holds).read in
    let part = part_of c.args.program.now it all in
    part_made true part c.args.front _ c.as_slice.result.now c.link_marked.result (own_read part c.target_of.result it.first (listed it all) c.target_of.ensures refl refl ∙ read.exact)
    (subst (MarkLive _) (sym c.as_slice.ensures) read.live) c.link_marked.ensures

pub returns-clause-left : goal.returns-clause-left
returns-clause-left g c = λ all holds. left_all _ c.link_marked.result (c.in_ok-read.ensures.left all holds)
