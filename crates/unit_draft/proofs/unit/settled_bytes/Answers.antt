use Rattle.std.proofs.Common.{◌∙◌}
use Rattle.patches.specs.Filling.{Filling}
use Rattle.patches.specs.Numbers.{patched}
use Rattle.unit_draft.specs.Outside.{outer_number}
use Rattle.unit_draft.proofs.unit.settled_bytes.Goals as goal

abbrev zeros : Filling
zeros = record { own = λ _. 0; outer = λ _. 0 }

pub returns : goal.returns
returns c = (patched zeros (outer_number c.nowhere.result), c.into_bytes.ensures ∙ c.patch.ensures zeros ∙ c.settle.ensures.is (patched zeros (outer_number c.nowhere.result)))
