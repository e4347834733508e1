use Rattle.std.proofs.Common.{◌≡◌, ℕ, Some, IfSome, arith, slice_get, get_or, subst}
use Rattle.std.proofs.lemmas.Option.{slice_get-get_or, slice_get_within}
use Rattle.odr_names.specs.declared.ordinals.Sibling.{Sibling}
use Rattle.odr_names.specs.Twins.{twins_before}
use Rattle.type_names.specs.Heads.{Object, entries_of}
use Rattle.type_names.specs.Objects.{object_of}
use Rattle.odr_names.proofs.Siblings.{counted_more}
use Rattle.odr_names.proofs.ordinals.counts_by_chains.Goals as goal

pub index_mut-requires : goal.index_mut-requires
index_mut-requires c =
    let o : Object = object_of c.args.seen.now c.args.live.now in
    let n = c.args.object in
    let ranks = c.args.ranks.now in
    let d : Sibling = record { hash = 0; number = 0 } in
    let at : slice_get ranks c.loop-i.i ≡ Some (get_or ranks c.loop-i.i d) = slice_get-get_or ranks c.loop-i.i d (omega arith) in
    let it = c.requires.siblings.each c.loop-i.i (get_or ranks c.loop-i.i d) at in
    omega (arith, slice_get_within (entries_of o) (get_or ranks c.loop-i.i d).number it.entry it.stands, c.loop-i.invariant.counted.len)

pub loop-i-preserved : goal.loop-i-preserved
loop-i-preserved c =
    let o : Object = object_of c.args.seen.now c.args.live.now in
    let n = c.args.object in
    let ranks = c.args.ranks.now in
    let d : Sibling = record { hash = 0; number = 0 } in
    let at : slice_get ranks c.loop-i.i ≡ Some (get_or ranks c.loop-i.i d) = slice_get-get_or ranks c.loop-i.i d (omega arith) in
    record {
      counted = counted_more n o ranks c.loop-i.counts.items c.loop-i.i (get_or ranks c.loop-i.i d) c.in-Some.count c.requires.siblings at (subst (λ found. IfSome found (λ (count : ℕ). count ≡ twins_before n o (get_or ranks c.loop-i.i d).number)) c.in-Some.is (c.count_at.ensures (get_or ranks c.loop-i.i d) at)) c.loop-i.invariant.counted;
      chained = c.in_ok-hang.ensures;
    }
