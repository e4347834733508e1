use Rattle.std.proofs.Common.{◌∙◌, List, ℕ, ap, refl}
use Rattle.patches.specs.Filling.{filled}
use Rattle.patches.specs.Numbers.{settled}
use Rattle.unit_draft.proofs.unit.settled_draft.Goals as goal

pub returns-clause-settled : goal.returns-clause-settled
returns-clause-settled c =
    let whole = c.args.whole in
    let lists = c.settled_bytes-locations.ensures in
    record {
      info = λ f. c.settle.ensures.is f ∙ ap (λ (ps : List ℕ). filled whole.drafting.info (settled f whole.len ps)) c.as_slice.ensures;
      own = c.settle.ensures.none;
      locations = (lists.0, lists.1 ∙ ap (λ (ps : List ℕ). filled whole.drafting.locations (settled lists.0 whole.len ps)) c.as_slice-2.ensures);
      ranges = refl;
      names = c.into_names-names.ensures;
      places = refl;
      len = refl;
    }
