use Rattle.std.proofs.Common.{[]}
use Rattle.written_laws.proofs.Attributes.{attrs_spelled}
use Rattle.written_laws.proofs.laws.attributes_are_spelled_as_written.Goals as goal

pub returns : goal.returns
returns c places sections o root next attrs place origin there = attrs_spelled places sections o origin root [] next place attrs there
