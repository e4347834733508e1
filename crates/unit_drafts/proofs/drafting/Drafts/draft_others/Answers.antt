use Rattle.std.proofs.Common.{◌<◌, ◌+◌, ◌-◌, List, ◌++◌, length, take, drop, sym, ap, subst, arith, length-append}
use Rattle.work_share.specs.Results.{GivesAll}
use Rattle.dwarf_types.specs.declared.analysis.Analysis.{Analysis}
use Rattle.unit_drafts.specs.declared.drafting.Drafts.{Drafts}
use Rattle.unit_drafts.specs.Drafting.{AreLeft, DraftsBy}
use Rattle.unit_drafts.proofs.Batching.{drafting_next, may_from, went_before}
use Rattle.object_reads.proofs.Holding.{lent_all}
use Rattle.unit_drafts.proofs.drafting.Drafts.draft_others.Goals as goal

pub drop_analyses-requires : goal.drop_analyses-requires
drop_analyses-requires g c =
    let seen = c.requires.drafting.0 in
    let may = c.requires.drafting.1 in
    let are = c.loop-first.invariant.1 seen may c.requires.drafting.2 in
    let le = went_before seen c.args.shape.now may c.loop-first.self are c.loop-first.first c.loop-first.invariant.0 (omega (arith, c.loop-first-test.true, c.len.ensures)) in
    omega (arith, le, c.first_needed-needed.ensures)

pub draft_batch-requires-clause-may : goal.draft_batch-requires-clause-may
draft_batch-requires-clause-may g c κs within =
    let seen = c.requires.drafting.0 in
    let shape = c.args.shape.now in
    let may = c.requires.drafting.1 in
    let was = c.loop-first.self.left in
    let are = c.loop-first.invariant.1 seen may c.requires.drafting.2 in
    let lt : c.loop-first.first < length shape.units = omega (arith, c.loop-first-test.true, c.len.ensures) in
    let gone : AreLeft c.first_needed-needed.result seen c.drop_analyses.new.left = c.drop_analyses.ensures seen (subst (AreLeft c.loop-first.self.dropped seen) (sym c.as_mut_slice.ensures.value) are.left) in
    let still = subst (AreLeft c.first_needed-needed.result seen) (sym (lent_all c.drop_analyses.new.left was (omega (arith, c.drop_analyses.auto.left, ap length c.as_mut_slice.ensures.value)))) gone in
    let lent = subst (AreLeft c.first_needed-needed.result seen) (sym c.as_slice.ensures) still in
    let from = subst (λ n. AreLeft n seen c.as_slice.result.now) c.first_needed-needed.ensures lent in
    λ u le lt'. may_from seen shape may c.loop-first.self are c.loop-first.first c.loop-first.invariant.0 lt c.as_slice.result.now from u le (omega (arith, lt', c.batch_end-end.ensures.1))

pub loop-first-preserved : goal.loop-first-preserved
loop-first-preserved g c =
    let shape = c.args.shape.now in
    let first = c.loop-first.first in
    let end = c.batch_end-end.result in
    let was = c.loop-first.self.left in
    let more = c.in_ok-more.more.items in
    let left : List Analysis = take (length was) (c.drop_analyses.new.left ++ drop (length c.drop_analyses.new.left) was) in
    let it : Drafts = record { left = left; dropped = c.first_needed-needed.result; outs = c.put_behind.new.results; texts = c.draft_batch.new.texts } in
    let same = lent_all c.drop_analyses.new.left was (omega (arith, c.drop_analyses.auto.left, ap length c.as_mut_slice.ensures.value)) in
    let lt : first < length shape.units = omega (arith, c.loop-first-test.true, c.len.ensures) in (
      omega (arith, ap length c.in_ok-put_behind.ensures, length-append c.loop-first.self.outs.items more, c.in_ok-more.ensures.0, c.loop-first.invariant.0, c.batch_end-end.ensures.0),
      λ seen may before.
          let are = c.loop-first.invariant.1 seen may before in
          let gone : AreLeft c.first_needed-needed.result seen c.drop_analyses.new.left = c.drop_analyses.ensures seen (subst (AreLeft c.loop-first.self.dropped seen) (sym c.as_mut_slice.ensures.value) are.left) in
          let still = subst (AreLeft c.first_needed-needed.result seen) (sym same) gone in
          let from = subst (λ n. AreLeft n seen left) c.first_needed-needed.ensures still in
          let given = subst (λ (l : List Analysis). GivesAll (λ k out. DraftsBy l shape (first + k) out) (end - first) more) c.as_slice.ensures c.in_ok-more.ensures in
          (drafting_next seen shape may c.loop-first.self are first c.loop-first.invariant.0 lt it end more c.batch_end-end.ensures.0 c.batch_end-end.ensures.1 c.first_needed-needed.ensures from
          (omega (arith, ap length same, c.drop_analyses.auto.left, ap length c.as_mut_slice.ensures.value)) given c.in_ok-put_behind.ensures).1,
    )
