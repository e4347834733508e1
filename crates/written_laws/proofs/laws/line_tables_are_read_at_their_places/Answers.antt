use Rattle.written_laws.proofs.OwnLines.{lines_again}
use Rattle.written_laws.proofs.laws.line_tables_are_read_at_their_places.Goals as goal

pub returns : goal.returns
returns c graph u unit lines image relocs well readable at lines_are none = lines_again graph well readable u unit at lines lines_are image relocs none
