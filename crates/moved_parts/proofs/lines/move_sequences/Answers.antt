use Rattle.std.proofs.Common.{List, map, ap, ◌∙◌}
use Rattle.std.proofs.lemmas.List.Sorted.{All-permutation}
use Rattle.std.proofs.lemmas.Result.{IfOk-weaker}
use Rattle.moved_parts.specs.declared.lines.SequencePart.{SequencePart}
use Rattle.moved_parts.specs.Parts.{IsPart, part_seen}
use Rattle.moved_parts.proofs.Linked.{sorted_parts}
use Rattle.moved_parts.proofs.lines.move_sequences.Goals as goal

pub put_parts-requires : goal.put_parts-requires
put_parts-requires c =
    rw c.as_slice.ensures.value (All-permutation (IsPart c.args.sequences.now) c.in_ok-parts.parts.items c.sort_parts.new.parts.items c.sort_parts.ensures.same c.in_ok-parts.ensures.sound)

pub returns : goal.returns
returns c =
    let whole = sorted_parts c.args.ranges.now c.args.sequences.now c.in_ok-parts.parts.items c.sort_parts.new.parts.items c.requires.sound c.requires.apart c.in_ok-parts.ensures.parts
    c.in_ok-sort_parts.ensures.sorted c.in_ok-sort_parts.ensures.stable in
    let all = ap (λ (ps : List SequencePart). map (λ p. (part_seen c.args.sequences.now p).sequence) ps) c.as_slice.ensures.value in
    IfOk-weaker c.put_parts.result _ _ (λ moved is. is ∙ all ∙ whole) c.put_parts.ensures
