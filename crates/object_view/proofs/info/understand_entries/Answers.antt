use Rattle.object_view.proofs.info.understand_entries.Goals as goal

pub understand_each-understood-requires : goal.understand_each-understood-requires
understand_each-understood-requires g c = c.requires
