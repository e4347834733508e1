use Rattle.std.proofs.Common.{ℕ, List, [], length, take, Ok, Err, refl, subst}
use Rattle.std.proofs.lemmas.Result.{err_from_is_err_and}
use Rattle.object_reads.specs.Sources.{sources_of}
use Rattle.link_core.specs.Linked.{LinksPart}
use Rattle.link_program.specs.Making.{thin_part}
use Rattle.link_program.proofs.Bundles.{bundle_made, bundle_refused, bundle_wants_memory, whole_part}
use Rattle.link_program.proofs.making.link_files.Goals as goal

pub returns-in_err-left : goal.returns-in_err-left
returns-in_err-left g c = bundle_wants_memory _ _ _ _ _ c.from_residual.ensures.1

pub returns-in_err-plist : goal.returns-in_err-plist
returns-in_err-plist g c = bundle_wants_memory _ _ _ _ _ c.from_residual-in_err-plist.ensures.1

pub returns-in_err-linked : goal.returns-in_err-linked
returns-in_err-linked g c =
    let p = err_from_is_err_and c.from_residual-in_err-linked.result c.from_residual-in_err-linked.ensures.1 in
    let program = c.args.program.now in
    let sources = sources_of c.args.objects.now c.args.files c.args.numbers.now in
    let part = thin_part program (take (length c.args.objects.now) sources) in
    let same = whole_part program c.args.objects.now c.args.files c.args.numbers.now _ c.requires.each refl in
    let links = subst (λ (front : List ℕ). LinksPart c.args.wanted.now.odr part front (Err c.in_err-linked.field-0.0)) c.new-front.ensures (c.in_err-linked.ensures.links c.args.files c.in_ok-left.ensures) in
    rw (p.1, p.2) (bundle_refused c.args.wanted.now.odr part program c.args.wanted.now.name.now sources same links)

pub returns : goal.returns
returns g c =
    let program = c.args.program.now in
    let sources = sources_of c.args.objects.now c.args.files c.args.numbers.now in
    let part = thin_part program (take (length c.args.objects.now) sources) in
    let same = whole_part program c.args.objects.now c.args.files c.args.numbers.now _ c.requires.each refl in
    let links = subst (λ (front : List ℕ). LinksPart c.args.wanted.now.odr part front (Ok c.in_ok-linked.linked)) c.new-front.ensures (c.in_ok-linked.ensures.links c.args.files c.in_ok-left.ensures) in
    bundle_made c.args.wanted.now.odr part program c.args.wanted.now.name.now sources same c.in_ok-plist.plist c.in_ok-linked.linked c.in_ok-plist.ensures links
