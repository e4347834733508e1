use Rattle.dwarf_types.specs.Raw.{places_of}
use Rattle.object_view.proofs.analysis.understand_info.Given as goal

abbrev pub ghost-understand_entries : goal.ghost-understand_entries
ghost-understand_entries a = places_of a.entries.now
