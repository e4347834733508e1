use Rattle.object_view.proofs.info.understood_at.Given as goal

abbrev pub ghost-understand_value : goal.ghost-understand_value
ghost-understand_value g a = g.places
