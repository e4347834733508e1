use Rattle.std.proofs.Common.{arith}
use Rattle.ds_base.proofs.Walking.{drop_one}
use Rattle.layout.specs.Pass.{behind_draft}
use Rattle.layout.proofs.Behind.{below_next}
use Rattle.layout.proofs.Folds.{fold_more}
use Rattle.layout.proofs.starts.ends_of.Goals as goal

pub loop-draft-preserved : goal.loop-draft-preserved
loop-draft-preserved c =
    let drafts = c.args.drafts.now in
    let i = c.loop-draft.draft-index in
    let d = c.draft-item.result in
    record {
      below = below_next c.loop-draft.ends c.behind-ends.result i d c.behind-ends.ensures.wide c.behind-ends.ensures.is c.loop-draft.invariant.below;
      rest = fold_more behind_draft drafts i d c.loop-draft.ends c.behind-ends.result _ (drop_one drafts i d c.loop-draft-test.true c.draft-item.is) c.behind-ends.ensures.is c.loop-draft.invariant.rest;
      within = omega (arith, c.loop-draft-test.true);
    }
