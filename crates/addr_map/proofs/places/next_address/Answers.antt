use Rattle.addr_map.proofs.Next.{next_found, next_nowhere}
use Rattle.addr_map.proofs.places.next_address.Goals as goal

pub returns-in-Some : goal.returns-in-Some
returns-in-Some c = next_found c.args.places.now c.args.section c.args.start c.count_passed.result c.in-Some.place.now c.requires c.count_passed.ensures.passed c.in-Some.ensures.lookup.3.0 c.in-Some.ensures.lookup.1 c.if-place-section.true

pub returns-in_default : goal.returns-in_default
returns-in_default c = next_nowhere c.args.places.now c.args.section c.args.start c.count_passed.result c.in-Some.place.now c.requires c.count_passed.ensures.passed c.in-Some.ensures.lookup.3.0 c.in-Some.ensures.lookup.1 c.if-place-section.false
