use Rattle.std.proofs.Common.{false, true, refl}
use Rattle.std.proofs.lemmas.List.{take_rest}
use Rattle.stab_map.specs.Origin.{origin_of}
use Rattle.stab_map.proofs.Origins.{closes_is, inside_whole, inside_member}
use Rattle.stab_map.proofs.origin.find_origin.Goals as goal

pub returns-in_default : goal.returns-in_default
unfolding origin_of
returns-in_default c = rw (closes_is c.args.path.now false c.in_default.ensures.cases) refl

pub returns-then-start-lt2 : goal.returns-then-start-lt2
unfolding origin_of
returns-then-start-lt2 c =
    rw (closes_is c.args.path.now true c.in-Some.ensures.cases.0, ← c.in-Some.ensures.cases.1, inside_whole c.args.path.now c.in-Some.inner.now c.after_open-start.result c.after_open-start.ensures.is c.after_open-start.ensures.within c.if-start-lt2.true) refl

pub returns : goal.returns
unfolding origin_of
returns c =
    rw (closes_is c.args.path.now true c.in-Some.ensures.cases.0, ← c.in-Some.ensures.cases.1, inside_member c.args.path.now c.in-Some.inner.now c.after_open-start.result c.after_open-start.ensures.is c.after_open-start.ensures.within c.if-start-lt2.false, take_rest) refl
