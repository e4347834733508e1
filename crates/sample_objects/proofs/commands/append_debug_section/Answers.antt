use Rattle.sample_objects.proofs.commands.append_debug_section.Goals as goal

pub returns : goal.returns
returns c = rw (c.reloff_in-reloff.ensures, c.nreloc_in-nreloc.ensures) at c.in_ok-append_part.ensures
