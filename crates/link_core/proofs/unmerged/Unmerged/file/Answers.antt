use Rattle.std.proofs.Common.{false, refl}
use Rattle.std.proofs.lemmas.Result.{err_from_is_err_and}
use Rattle.unit_drafts.specs.Graphs.{graph_of}
use Rattle.link_core.proofs.Unmerging.{drafted_all, few_units, given_all, links_many, refused_unit}
use Rattle.link_core.proofs.unmerged.Unmerged.file.Goals as goal

pub returns-then-many : goal.returns-then-many
returns-then-many g c = λ seen marks whole. rw c.too_many_units.ensures (links_many c.args.program.now.image.now c.args.front seen marks c.args.self whole c.if-many.true)

pub returns-in_err-drafts : goal.returns-in_err-drafts
returns-in_err-drafts g c =
    let p = err_from_is_err_and c.from_residual.result c.from_residual.ensures.1 in
    λ seen marks whole.
    let few = few_units c.args.program.now.image.now c.args.front seen marks c.args.self whole c.if-many.false in
    let given = given_all c.args.program.now.image.now c.args.front seen marks c.args.self whole c.if-many.false in
    rw (p.1, p.2) (refused_unit c.args.program.now.image.now c.args.front seen marks c.args.self whole c.if-many.false c.in_err-drafts.field-0.0 (c.in_err-drafts.ensures (graph_of false seen marks) few given))

pub file_of-requires-clause-drafted : goal.file_of-requires-clause-drafted
file_of-requires-clause-drafted g c κs within =
    let seen = c.requires.whole.0 in
    let marks = c.requires.whole.1 in
    let whole = c.requires.whole.2 in
    let few = few_units c.args.program.now.image.now c.args.front seen marks c.args.self whole c.if-many.false in
    let given = given_all c.args.program.now.image.now c.args.front seen marks c.args.self whole c.if-many.false in
    (false, seen, marks, drafted_all c.args.program.now.image.now c.args.front seen marks c.args.self whole c.if-many.false _ (c.in_ok-drafts.ensures (graph_of false seen marks) few given) refl c.len-objects.ensures refl refl refl refl c.requires.closed)

pub returns : goal.returns
returns g c =
    λ seen marks whole.
    let few = few_units c.args.program.now.image.now c.args.front seen marks c.args.self whole c.if-many.false in
    let given = given_all c.args.program.now.image.now c.args.front seen marks c.args.self whole c.if-many.false in
    c.file_of.ensures false seen marks
    (drafted_all c.args.program.now.image.now c.args.front seen marks c.args.self whole c.if-many.false _ (c.in_ok-drafts.ensures (graph_of false seen marks) few given) refl c.len-objects.ensures refl refl refl refl c.requires.closed)
