use Rattle.std.proofs.Common.{◌++◌}
use Rattle.ds_base.specs.Leb.{sleb}
use Rattle.ds_base.specs.Spot.{start}
use Rattle.ds_base.proofs.LebReading.{sleb_found, rest-start}
use Rattle.ds_base.proofs.leb.sleb_reads_back.Goals as goal

pub returns : goal.returns
returns c z part more fits = sleb_found z (start part (sleb z ++ more)) more fits (rest-start part (sleb z ++ more))
