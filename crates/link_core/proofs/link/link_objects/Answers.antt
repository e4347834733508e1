use Rattle.link_core.proofs.link.link_objects.Goals as goal

pub returns-then-odr-clause-links : goal.returns-then-odr-clause-links
returns-then-odr-clause-links g c = rw c.if-odr.true c.link_merged.ensures.links

pub returns-else-odr-clause-links : goal.returns-else-odr-clause-links
returns-else-odr-clause-links g c = rw c.if-odr.false c.link_unmerged.ensures.links
