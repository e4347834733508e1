use Rattle.std.proofs.Common.{length, ap, ◌∙◌, arith, length-append}
use Rattle.std.specs.List.{sum_by}
use Rattle.std.proofs.lemmas.Result.{err_from_is_err_and}
use Rattle.unit_draft.specs.declared.unit.Draft.{Draft}
use Rattle.dsym_write.specs.Bundle.{image_file}
use Rattle.unit_drafts.specs.Graphs.{graph_of}
use Rattle.unit_drafts.proofs.Counting.{nodes_drafted, nodes_few}
use Rattle.link_core.proofs.Bundling.{image_refused, links_made}
use Rattle.link_core.proofs.image.file_of.Goals as goal

pub count_nodes-nodes-requires : goal.count_nodes-nodes-requires
count_nodes-nodes-requires g c =
    let it = c.requires.drafted.3 in
    rw c.as_slice.ensures (record { few = nodes_few _ c.args.drafted.drafts it.drafts_are (omega (arith, it.few)) })

pub image_of-requires-clause-few : goal.image_of-requires-clause-few
image_of-requires-clause-few g c κs within = let it = c.requires.drafted.3 in omega (arith, it.few, it.drafts_are.count)

pub image_of-requires-clause-drafted : goal.image_of-requires-clause-drafted
image_of-requires-clause-drafted g c κs within = let it = c.requires.drafted.3 in record { graph = graph_of c.requires.drafted.0 c.requires.drafted.1 c.requires.drafted.2; are = it.drafts_are; its_frames = it.frames_are }

pub returns-in_err-file : goal.returns-in_err-file
returns-in_err-file g c =
    let p = err_from_is_err_and c.from_residual.result c.from_residual.ensures.1 in
    λ odr seen marks it. rw (p.1, p.2) (image_refused odr c.args.program.now.image.now c.args.front seen marks c.args.drafted it c.in_err-file.field-0.0 (c.in_err-file.ensures (graph_of odr seen marks) it.drafts_are it.frames_are))

pub overflow_sub-counts : goal.overflow_sub-counts
overflow_sub-counts g c =
    let it = c.requires.drafted.3 in
    let graph = graph_of c.requires.drafted.0 c.requires.drafted.1 c.requires.drafted.2 in
    let file = (c.in_ok-file.ensures graph it.drafts_are it.frames_are).1 in
    omega (arith, c.len.ensures, c.len-start.ensures, ap length file, length-append c.args.front (image_file c.args.program.now.image.now graph))

pub returns : goal.returns
returns g c =
    λ odr seen marks it.
    let drafts = c.args.drafted.drafts in
    let nodes = c.count_nodes-nodes.ensures ∙ ap (sum_by (λ (draft : Draft). length draft.places)) c.as_slice.ensures ∙ nodes_drafted (graph_of odr seen marks) drafts it.drafts_are in
    links_made odr c.args.program.now.image.now c.args.front seen marks c.args.drafted it c.in_ok-file.file _ _ (c.in_ok-file.ensures (graph_of odr seen marks) it.drafts_are it.frames_are) nodes (omega (arith, c.len.ensures, c.len-start.ensures))
