use Rattle.link_status.proofs.LastPart.{no_slash_found, slash_found}
use Rattle.link_status.proofs.names.last_part.Goals as goal

pub returns-in-Some : goal.returns-in-Some
returns-in-Some c =
    let found = c.in-Some.ensures.cases in
    slash_found c.args.path.now c.in-Some.part.now found.0 found.1 found.2.0 found.2.1 found.4

pub returns-in-None : goal.returns-in-None
returns-in-None c = no_slash_found c.args.path.now c.in-None.ensures.cases
