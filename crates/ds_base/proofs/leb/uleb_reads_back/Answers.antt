use Rattle.std.proofs.Common.{◌++◌}
use Rattle.ds_base.specs.Leb.{uleb}
use Rattle.ds_base.specs.Spot.{start}
use Rattle.ds_base.proofs.LebReading.{uleb_found, rest-start}
use Rattle.ds_base.proofs.leb.uleb_reads_back.Goals as goal

pub returns : goal.returns
returns c n part more small = uleb_found n (start part (uleb n ++ more)) more small (rest-start part (uleb n ++ more))
