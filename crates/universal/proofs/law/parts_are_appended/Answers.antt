use Rattle.universal.proofs.Pages.{unheaded_more}
use Rattle.universal.proofs.Rooms.{length_unheaded}
use Rattle.universal.proofs.law.parts_are_appended.Goals as goal

pub returns-clause-appended : goal.returns-clause-appended
returns-clause-appended c = unheaded_more

pub returns-clause-size : goal.returns-clause-size
returns-clause-size c = length_unheaded
