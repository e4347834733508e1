use Rattle.std.proofs.Common.{◌∙◌, sym}
use Rattle.macho_read.specs.Seen.{symbol_seen}
use Rattle.addr_map.proofs.Sections.{defined_within}
use Rattle.addr_map.proofs.entry.given_by.Goals as goal

pub find_range-requires-clause-from_one : goal.find_range-requires-clause-from_one
find_range-requires-clause-from_one c = (defined_within c.args.image.now (symbol_seen c.in_ok-index.symbol) c.in-Defined.section (sym c.standing_of.ensures ∙ c.in-Defined.is)).0

pub find_range-requires-clause-there : goal.find_range-requires-clause-there
find_range-requires-clause-there c = (defined_within c.args.image.now (symbol_seen c.in_ok-index.symbol) c.in-Defined.section (sym c.standing_of.ensures ∙ c.in-Defined.is)).1
