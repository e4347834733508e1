use Rattle.type_names.specs.Heads.{Object}
use Rattle.type_names.specs.Objects.{object_of}
use Rattle.odr_names.proofs.Siblings.{counted_all}
use Rattle.odr_names.proofs.ordinals.twins_of.Goals as goal

pub returns-clause-exact : goal.returns-clause-exact
returns-clause-exact c = λ k within wants. (
    let o : Object = object_of c.args.seen.now c.args.live.now in
    counted_all c.args.object o c.in_ok-ranks.ranks.items c.in_ok-counts.counts.items k c.in_ok-ranks.ensures (rw c.deref.ensures.value at c.in_ok-counts.ensures) within wants)
