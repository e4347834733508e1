use Rattle.object_read.proofs.Opening.{opened_as}
use Rattle.object_read.proofs.open.open_object.Goals as goal

pub returns-clause-exact : goal.returns-clause-exact
returns-clause-exact c =
    opened_as _ _ c.in_ok-image.image _ c.in_ok-relocs.relocs c.in_ok-image.ensures.read c.in_ok-check_kind.ensures
    (rw (← c.as_slice.ensures) c.in_ok-check_sections.ensures.exact) c.in_ok-relocs.ensures.exact (rw (← c.as_slice-2.ensures) c.sections_in-sections.ensures.are)

pub sections_in-sections-requires : goal.sections_in-sections-requires
sections_in-sections-requires c = rw (c.as_slice-2.ensures, ← c.as_slice.ensures) c.in_ok-check_sections.ensures.inside
