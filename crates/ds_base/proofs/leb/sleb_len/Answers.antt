use Rattle.std.proofs.Common.{◌∙◌, ◌-ℤ◌, negsuc, arith, rules}
use Rattle.std.proofs.lemmas.Int.{ints, to_z-of_z}
use mir.Syntax.{w64}
use mir.Val.{SFits}
use Rattle.ds_base.proofs.LebLengths.{sleb_len_below}
use Rattle.ds_base.proofs.leb.sleb_len.Goals as goal

pub returns-then-n-lt0-clause-is : goal.returns-then-n-lt0-clause-is
returns-then-n-lt0-clause-is c =
    let whole : SFits w64 c.args.n = c.ranges.n in
    let complement : SFits w64 (negsuc 0 -ℤ c.args.n) = search rules in
    (simp to_z-of_z at c.uleb_len.ensures.is) ∙ sleb_len_below c.args.n (omega (arith, ints))
