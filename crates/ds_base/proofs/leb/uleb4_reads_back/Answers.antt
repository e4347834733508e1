use Rattle.std.proofs.Common.{◌++◌, false}
use Rattle.ds_base.specs.Leb.{leb_digits}
use Rattle.ds_base.specs.Spot.{start}
use Rattle.ds_base.proofs.LebReading.{uleb4_found, rest-start}
use Rattle.ds_base.proofs.LebValues.{value-four_digits}
use Rattle.ds_base.proofs.leb.uleb4_reads_back.Goals as goal

pub returns-clause-value : goal.returns-clause-value
returns-clause-value c = value-four_digits

pub returns-clause-read : goal.returns-clause-read
returns-clause-read c n part more small = uleb4_found n (start part (leb_digits false 4 n ++ more)) more small (rest-start part (leb_digits false 4 n ++ more))
