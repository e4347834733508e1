use Rattle.std.proofs.Common.{◌+◌, ◌<◌, ◌∙◌, List, true, length, slice_set, ap, sym, arith}
use Rattle.std.proofs.lemmas.List.{length-set}
use Rattle.type_names.specs.Names.{Named}
use Rattle.link_graph.specs.Passes.{names_between, put_each}
use Rattle.link_graph.proofs.Merging.{between_at, between_more, name_there}
use Rattle.link_graph.proofs.merged.merged_row.Goals as goal

pub set-requires : goal.set-requires
set-requires c =
    let names = c.args.names.now in
    let w = name_there names c.loop-x.x (omega (arith, c.requires.within.1)) in
    let below = between_at (λ w. w.entry < c.args.entries) names c.args.from c.args.end c.loop-x.x w.0 c.requires.entries w.1 (omega arith) (omega arith) in
    omega (arith, below, (c.occurrence.ensures w.0 w.1).1, c.loop-x.invariant.len)

pub loop-x-preserved : goal.loop-x-preserved
loop-x-preserved c =
    let names = c.args.names.now in
    let x = c.loop-x.x in
    let end = c.args.end in
    let row = c.loop-x.row in
    let w = name_there names x (omega (arith, c.requires.within.1)) in
    let same = c.set.ensures ∙ ap (λ k. slice_set row k true) (c.occurrence.ensures w.0 w.1).1 in
    record {
      len = ap length same ∙ length-set row w.0.entry true ∙ c.loop-x.invariant.len;
      left = ap (put_each (λ (w : Named). true) (names_between names (x + 1) end)) same
          ∙ sym (ap (λ (ws : List Named). put_each (λ (w : Named). true) ws row) (between_more names x end w.0 w.1 (omega arith))) ∙ c.loop-x.invariant.left;
    }
