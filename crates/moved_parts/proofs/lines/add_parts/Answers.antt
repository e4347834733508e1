use Rattle.std.proofs.Common.{◌<◌, arith, refl, subst, sym}
use Rattle.std.proofs.lemmas.List.{take_rest}
use Rattle.dwarf_types.specs.SeenLines.{raw_sequence_seen}
use Rattle.line_read.specs.Rising.{DoesNotFall}
use Rattle.moved_parts.proofs.PartPlaces.{put_of, run_put, run_sound}
use Rattle.moved_parts.proofs.Runs.{skip_row, run_goes_on, rows_end}
use Rattle.moved_parts.proofs.lines.add_parts.Goals as goal

pub loop-next-preserved-in_default : goal.loop-next-preserved-in_default
loop-next-preserved-in_default c =
    let rows = c.sequence-sequence.result.rows.now in
    record {
      parts = skip_row c.args.ranges.now (raw_sequence_seen c.sequence-sequence.result) rows c.loop-next.next _ _ refl _ c.loop-next-test.true c.in_default.ensures.found c.loop-next.invariant.parts;
      sound = c.loop-next.invariant.sound;
    }

pub loop-next-smaller : goal.loop-next-smaller
loop-next-smaller c =
    let rows = c.sequence-sequence.result.rows.now in
    let some : 0 < c.count_before_end-count.result =
    run_goes_on c.args.ranges.now rows _ c.loop-next.next c.count_before_end-count.result c.in-Some.range.now (take_rest rows c.loop-next.next) _ c.loop-next-test.true c.in-Some.ensures.found c.count_before_end-count.ensures.count in
    omega arith

pub loop-next-preserved : goal.loop-next-preserved
loop-next-preserved c =
    let rows = c.sequence-sequence.result.rows.now in
    let s = raw_sequence_seen c.sequence-sequence.result in
    let stands = c.sequence-sequence.ensures.stands in
    record {
      parts = run_put c.args.sequences.now c.args.index s _ c.loop-next.next c.count_before_end-count.result c.in-Some.range.now c.end_in.result c.loop-next.parts.items c.push.new.self.items
          c.args.ranges.now _ c.in-Some.ensures.sound c.requires.apart (subst DoesNotFall (sym c.sequence-sequence.ensures.item) (c.requires.rising c.args.index s c.requires.there)) stands (take_rest rows c.loop-next.next) _ c.loop-next-test.true c.in-Some.ensures.found
          c.count_before_end-count.ensures.count c.end_in.ensures c.in_ok-push.ensures.items c.loop-next.invariant.parts;
      sound = run_sound c.args.sequences.now c.args.index s _ c.loop-next.next c.count_before_end-count.result c.in-Some.range.now c.end_in.result c.loop-next.parts.items c.push.new.self.items
          c.in-Some.ensures.sound c.requires.there stands (take_rest rows c.loop-next.next) c.loop-next-test.true c.count_before_end-count.ensures.within c.in_ok-push.ensures.items c.loop-next.invariant.sound;
    }

pub returns-clause-parts : goal.returns-clause-parts
returns-clause-parts c = λ s is.
    let sequence = raw_sequence_seen c.sequence-sequence.result in
    put_of c.args.sequences.now c.args.index sequence s c.args.ranges.now _ _ c.sequence-sequence.ensures.stands is
    (rows_end c.args.ranges.now sequence c.sequence-sequence.result.rows.now c.loop-next.next _ _ refl c.loop-next-test.false c.loop-next.invariant.parts)
