use Rattle.std.proofs.Common.{List, ℕ, ◌^◌, ◌-◌, ◌<◌, length, subst}
use Rattle.type_names.specs.Names.{Named}
use Rattle.odr_names.specs.Numbered.{bid_at}
use Rattle.odr_names.proofs.Stretches.{bids_small}
use Rattle.odr_names.proofs.path_book.bids_are_some.Goals as goal

pub returns : goal.returns
returns c =
    subst (λ (names : List Named). (x : ℕ) → x < length names → bid_at names x < 2 ^ 64 - 1) c.names.view_is
    (bids_small c.names.inside.objects c.names.inside.rows.items c.names.invariant)
