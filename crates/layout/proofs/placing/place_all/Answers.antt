use Rattle.std.proofs.Common.{◌^◌, ap, drop}
use Rattle.ds_base.proofs.Walking.{drop_one}
use Rattle.layout.specs.declared.placing.Placing.{Placing}
use Rattle.layout.specs.Pass.{behind_draft, with_draft}
use Rattle.layout.proofs.Behind.{below_first, same_below}
use Rattle.layout.proofs.Folds.{fold_more}
use Rattle.layout.proofs.placing.place_all.Goals as goal

pub place_draft-requires : goal.place_draft-requires
place_draft-requires c = record {
  small = below_first (drop c.loop-draft.draft-index c.args.drafts.now) c.loop-draft.placing.at (2 ^ 32) (same_below _ _ (2 ^ 32) c.loop-draft.invariant.ends c.requires.small);
}

pub loop-draft-preserved : goal.loop-draft-preserved
loop-draft-preserved c =
    let drafts = c.args.drafts.now in
    let i = c.loop-draft.draft-index in
    let d = c.draft-item.result in
    let cut = drop_one drafts i d c.loop-draft-test.true c.draft-item.is in
    record {
      ends = fold_more behind_draft drafts i d c.loop-draft.placing.at c.place_draft.new.placing.at _ cut (ap (λ (p : Placing). p.at) c.in_ok-place_draft.ensures) c.loop-draft.invariant.ends;
      rest = fold_more with_draft drafts i d c.loop-draft.placing c.place_draft.new.placing _ cut c.in_ok-place_draft.ensures c.loop-draft.invariant.rest;
    }
