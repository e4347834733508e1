use Rattle.std.proofs.Common.{subst}
use Rattle.std.proofs.lemmas.Option.{get_or_from_slice_get, slice_get_within}
use Rattle.linked_laws.specs.Kept.{IsWhole}
use Rattle.linked_laws.proofs.Whole.{behind_well}
use Rattle.linked_laws.proofs.laws.linked_behind_is_well.Goals as goal

pub returns : goal.returns
returns c = λ units image objects all leads. behind_well units image objects (λ i o at. subst IsWhole (get_or_from_slice_get objects i o o at) (all i o (slice_get_within objects i o at))) leads
