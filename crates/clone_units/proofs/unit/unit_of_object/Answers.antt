use Rattle.std.proofs.Common.{◌<◌, ℕ, List, length, slice_get, Option, sym, ap, subst, ◌∙◌}
use Rattle.std.proofs.lemmas.Option.{slice_get_within}
use Rattle.dwarf_types.specs.declared.graph.Target.{Target}
use Rattle.clone_units.proofs.Rooted.{done_of, entries_of, images_of, inside_of, plain_of, reads, sound_of, the_root}
use Rattle.clone_units.proofs.unit.unit_of_object.Goals as goal

pub analysis_of-requires : goal.analysis_of-requires
analysis_of-requires c =
    let nodes = c.nodes_in-nodes.result.now in
    let r = reads c.args.shape.now c.args.unit nodes c.nodes_in-nodes.ensures in
    let root = the_root c.args.seen.now c.args.shape.now c.args.unit nodes c.requires.holds r c.args.object c.requires.object in
    slice_get_within c.args.seen.now c.args.object root.own root.its_own

pub row_of-requires : goal.row_of-requires
row_of-requires c =
    let nodes = c.nodes_in-nodes.result.now in
    let r = reads c.args.shape.now c.args.unit nodes c.nodes_in-nodes.ensures in
    let root = the_root c.args.seen.now c.args.shape.now c.args.unit nodes c.requires.holds r c.args.object c.requires.object in
    subst (λ (rows : List (List (Option Target))). c.args.object < length rows) (sym c.as_slice.ensures) (slice_get_within c.args.shape.now.images c.args.object root.images root.its_images)

pub row_of-requires-2 : goal.row_of-requires-2
row_of-requires-2 c =
    let nodes = c.nodes_in-nodes.result.now in
    let r = reads c.args.shape.now c.args.unit nodes c.nodes_in-nodes.ensures in
    let root = the_root c.args.seen.now c.args.shape.now c.args.unit nodes c.requires.holds r c.args.object c.requires.object in
    subst (λ (rows : List (List (Option ℕ))). c.args.object < length rows) (sym c.as_slice-2.ensures) (slice_get_within c.args.shape.now.plain c.args.object root.plain root.its_plain)

pub unit_of_entry-requires-clause-sound : goal.unit_of_entry-requires-clause-sound
unit_of_entry-requires-clause-sound c =
    let nodes = c.nodes_in-nodes.result.now in
    let r = reads c.args.shape.now c.args.unit nodes c.nodes_in-nodes.ensures in
    let root = the_root c.args.seen.now c.args.shape.now c.args.unit nodes c.requires.holds r c.args.object c.requires.object in
    sound_of c.args.seen.now c.args.shape.now c.args.unit nodes c.requires.holds r c.args.object c.requires.object _ root c.analysis_of.result.now c.analysis_of.ensures

pub unit_of_entry-requires-clause-inside : goal.unit_of_entry-requires-clause-inside
unit_of_entry-requires-clause-inside c =
    let nodes = c.nodes_in-nodes.result.now in
    let r = reads c.args.shape.now c.args.unit nodes c.nodes_in-nodes.ensures in
    let root = the_root c.args.seen.now c.args.shape.now c.args.unit nodes c.requires.holds r c.args.object c.requires.object in
    inside_of c.args.seen.now c.args.shape.now c.args.unit nodes c.requires.holds r c.args.object c.requires.object _ root c.analysis_of.result.now c.analysis_of.ensures

pub unit_of_entry-requires-clause-images : goal.unit_of_entry-requires-clause-images
unit_of_entry-requires-clause-images c =
    let nodes = c.nodes_in-nodes.result.now in
    let r = reads c.args.shape.now c.args.unit nodes c.nodes_in-nodes.ensures in
    let root = the_root c.args.seen.now c.args.shape.now c.args.unit nodes c.requires.holds r c.args.object c.requires.object in
    let images = ap (λ (rows : List (List (Option Target))). slice_get rows c.args.object) (sym c.as_slice.ensures) ∙ c.row_of.ensures in
    images_of c.args.seen.now c.args.shape.now c.args.unit nodes c.requires.holds r c.args.object c.requires.object _ root c.analysis_of.result.now c.analysis_of.ensures c.row_of.result.now images

pub unit_of_entry-requires-clause-plain : goal.unit_of_entry-requires-clause-plain
unit_of_entry-requires-clause-plain c =
    let nodes = c.nodes_in-nodes.result.now in
    let r = reads c.args.shape.now c.args.unit nodes c.nodes_in-nodes.ensures in
    let root = the_root c.args.seen.now c.args.shape.now c.args.unit nodes c.requires.holds r c.args.object c.requires.object in
    let plain = ap (λ (rows : List (List (Option ℕ))). slice_get rows c.args.object) (sym c.as_slice-2.ensures) ∙ c.row_of-2.ensures in
    plain_of c.args.seen.now c.args.shape.now c.args.unit nodes c.requires.holds r c.args.object c.requires.object _ root c.analysis_of.result.now c.analysis_of.ensures c.row_of-2.result.now plain

pub unit_of_entry-requires-clause-named : goal.unit_of_entry-requires-clause-named
unit_of_entry-requires-clause-named c =
    let nodes = c.nodes_in-nodes.result.now in
    let r = reads c.args.shape.now c.args.unit nodes c.nodes_in-nodes.ensures in
    let root = the_root c.args.seen.now c.args.shape.now c.args.unit nodes c.requires.holds r c.args.object c.requires.object in
    entries_of c.args.seen.now c.args.shape.now c.args.unit nodes c.requires.holds r c.args.object c.requires.object _ root c.analysis_of.result.now c.analysis_of.ensures

pub returns : goal.returns
returns c =
    let nodes = c.nodes_in-nodes.result.now in
    let r = reads c.args.shape.now c.args.unit nodes c.nodes_in-nodes.ensures in
    let root = the_root c.args.seen.now c.args.shape.now c.args.unit nodes c.requires.holds r c.args.object c.requires.object in
    let images = ap (λ (rows : List (List (Option Target))). slice_get rows c.args.object) (sym c.as_slice.ensures) ∙ c.row_of.ensures in
    let plain = ap (λ (rows : List (List (Option ℕ))). slice_get rows c.args.object) (sym c.as_slice-2.ensures) ∙ c.row_of-2.ensures in
    done_of c.args.seen.now c.args.shape.now c.args.unit nodes c.requires.holds r c.args.object c.requires.object _ root c.analysis_of.result.now c.analysis_of.ensures c.row_of.result.now c.row_of-2.result.now
    c.in_ok-made.made images plain c.in_ok-made.ensures
