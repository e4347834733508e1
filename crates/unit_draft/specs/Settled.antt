-- From a whole unit to its draft: the unit's own places are filled in.
use Rattle.std.specs.Prelude.{◌≡◌, []}
use Rattle.patches.specs.Filling.{Filling, filled}
use Rattle.patches.specs.Numbers.{settled}
use Rattle.unit_draft.specs.declared.unit.Draft.{Draft}
use Rattle.unit_draft.specs.declared.whole.Whole.{Whole}

pub record Settles (whole : Whole) (draft : Draft) : Type 0 where
  pub info : (f : Filling) → filled draft.info f ≡ filled whole.drafting.info (settled f whole.len whole.places)
  pub own : draft.info.own ≡ []
  pub locations : (f : Filling) × (draft.locations ≡ filled whole.drafting.locations (settled f whole.len whole.places))
  pub ranges : draft.ranges ≡ whole.drafting.ranges
  pub names : draft.names ≡ whole.drafting.names
  pub places : draft.places ≡ whole.places
  pub len : draft.len ≡ whole.len
