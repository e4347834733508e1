use Rattle.std.proofs.Common.{not, ap, ◌∙◌}
use Rattle.dwarf_types.specs.Seen.{attr_seen}
use Rattle.liveness.proofs.Fields.{no_location}
use Rattle.liveness.proofs.moves.location_of.Goals as goal

pub returns-then-is_none : goal.returns-then-is_none
returns-then-is_none c = no_location attr_seen c.find.result c.args.entry.now.attrs (c.is_none.ensures ∙ ap not c.if-is_none.true) c.find.ensures
