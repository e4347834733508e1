use Rattle.dwarf_types.specs.Encode.{encode}
use Rattle.image_laws.proofs.Spelled.{image_spelled}
use Rattle.image_laws.proofs.laws.image_files_are_spelled.Goals as goal

pub returns : goal.returns
returns c program graph fits small = image_spelled program (encode graph) fits small
