use Rattle.std.proofs.Common.{Vec, Global, Some, ap, subst}
use Rattle.odr_names.specs.declared.ordinals.Sibling.{Sibling}
use Rattle.odr_names.specs.Twins.{IsRankOf}
use Rattle.type_names.specs.Heads.{Object}
use Rattle.type_names.specs.Objects.{object_of}
use Rattle.odr_names.proofs.Siblings.{siblings_more, siblings_same}
use Rattle.odr_names.proofs.ordinals.siblings_of.Goals.{in-Some+in_ok-push, in_default}
use Rattle.odr_names.proofs.ordinals.siblings_of.Goals as goal

pub loop-i-preserved : goal.loop-i-preserved
loop-i-preserved c =
    let o : Object = object_of c.args.seen.now c.args.live.now in
    let n = c.args.object in
    let k = c.loop-i.i in
    elim c.match-rank_of.branch [
      | in-Some+in_ok-push w ↦ (
          let is : IsRankOf n o k (Some w.in-Some.rank) = subst (IsRankOf n o k) w.in-Some.is c.rank_of.ensures in
          rw (ap (λ (v : Vec Sibling Global). v.items) w.ranks-is, w.in_ok-push.ensures.items) (siblings_more n o c.loop-i.ranks.items k w.in-Some.rank is.0 is.1 c.loop-i.invariant))
      | in_default w ↦ rw (ap (λ (v : Vec Sibling Global). v.items) w.ranks-is) (siblings_same n o c.loop-i.ranks.items k (subst (IsRankOf n o k) w.in_default.is c.rank_of.ensures) c.loop-i.invariant)
    ]
