use Rattle.std.proofs.Common.{◌≡◌, ◌+◌, ◌<◌, ◌∙◌, ℕ, List, Option, length, slice_set, ap, sym, arith}
use Rattle.std.proofs.lemmas.List.{length-set}
use Rattle.dwarf_types.specs.declared.graph.Target.{Target}
use Rattle.type_names.specs.Names.{Named}
use Rattle.type_names.specs.Paths.{Piece}
use Rattle.link_graph.specs.Passes.{names_between, path_target, put_each, target_in}
use Rattle.link_graph.specs.Pool.{node_of_path}
use Rattle.link_graph.proofs.Merging.{between_at, between_more, name_there, path_told}
use Rattle.link_graph.proofs.merged.lead_to_paths.Goals as goal

pub bounds-images-entry : goal.bounds-images-entry
bounds-images-entry c =
    let names = c.args.names.now in
    let w = name_there names c.loop-x.x (omega (arith, c.requires.within.1)) in
    let below = between_at (λ w. w.entry < length c.args.images.now) names c.args.from c.args.end c.loop-x.x w.0 c.requires.entries w.1 (omega arith) (omega arith) in
    omega (arith, below, (c.occurrence-entry.ensures w.0 w.1).1, c.loop-x.invariant.len)

pub loop-x-preserved : goal.loop-x-preserved
loop-x-preserved c =
    let names = c.args.names.now in
    let x = c.loop-x.x in
    let end = c.args.end in
    let images = c.loop-x.images in
    let within : x < length names = omega (arith, c.requires.within.1) in
    let w = name_there names x within in
    let target : c.target_in-target.result ≡ path_target names w.0 =
    c.target_in-target.ensures ∙ ap (target_in 0) (c.requires.nodes.each x within ∙ ap (λ (path : List Piece). node_of_path names path) (path_told names x w.0 w.1)) in
    let same : slice_set images c.occurrence-entry.result.entry c.target_in-target.result ≡ slice_set images w.0.entry (path_target names w.0) =
    ap (λ (k : ℕ). slice_set images k c.target_in-target.result) (c.occurrence-entry.ensures w.0 w.1).1 ∙ ap (λ (t : Option Target). slice_set images w.0.entry t) target in
    record {
      len = length-set images c.occurrence-entry.result.entry c.target_in-target.result ∙ c.loop-x.invariant.len;
      left = ap (put_each (path_target names) (names_between names (x + 1) end)) same
          ∙ sym (ap (λ (ws : List Named). put_each (path_target names) ws images) (between_more names x end w.0 w.1 (omega arith))) ∙ c.loop-x.invariant.left;
    }
