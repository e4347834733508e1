use Rattle.object_view.proofs.info.understand_attr.Given as goal

abbrev pub ghost-understood_at : goal.ghost-understood_at
ghost-understood_at g a = g.places
