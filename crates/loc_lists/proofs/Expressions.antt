-- What is read behind a span, by its expression.
use Rattle.std.proofs.Common.{◌≡◌, ℕ, Bool, true, false, List, Ok, arith}
use Rattle.ds_base.specs.Spot.{Spot}
use Rattle.ds_base.proofs.Onward.{Further, uleb_further}
use Rattle.dwarf_types.specs.declared.lists.RawLocation.{RawLocation}
use Rattle.dwarf_types.specs.declared.lists.RawSpan.{RawSpan}
use Rattle.list_items.proofs.Items.{number_further}
use Rattle.loc_lists.specs.Reading.{len_at}

abbrev pub location : ℕ → RawSpan → ℕ × List ℕ → RawLocation
location place span expression = record { span = span; place = place; first = expression.0; bytes = expression.1 }

-- ---- lengths

pub len_further : (five : Bool) (s : Spot) (y : ℕ × Spot) → len_at five s ≡ Ok y → Further s y.1
len_further true s y e = uleb_further s y e
len_further false s y e = number_further 2 s y (omega arith) e
