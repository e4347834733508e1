use Rattle.std.proofs.Common.{◌≡◌, ◌+◌, drop}
use Rattle.std.specs.Option.{option_map}
use Rattle.ds_base.specs.Reading.{index_below}
use Rattle.ds_base.proofs.cursor.first_below.Given as goal

-- what is found from here on is what is found in all
abbrev pub invariant-loop-i : goal.invariant-loop-i
invariant-loop-i l = option_map (λ n. l.i + n) (index_below l.limit (drop l.i l.bytes)) ≡ index_below l.limit l.bytes
