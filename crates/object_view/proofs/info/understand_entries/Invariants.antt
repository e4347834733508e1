use Rattle.object_view.proofs.info.understand_entries.Given as goal

abbrev pub ghost-understand_each : goal.ghost-understand_each
ghost-understand_each g a = g.places
