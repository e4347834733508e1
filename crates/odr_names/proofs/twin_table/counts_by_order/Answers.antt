use Rattle.std.proofs.Common.{◌≡◌, ◌∙◌, arith}
use Rattle.std.proofs.lemmas.Option.{slice_get_within}
use Rattle.odr_names.specs.Twins.{twins_before}
use Rattle.type_names.specs.Heads.{Object, entries_of}
use Rattle.type_names.specs.Objects.{object_of}
use Rattle.odr_names.proofs.Counting.{twins_few}
use Rattle.odr_names.proofs.Siblings.{counted_more}
use Rattle.odr_names.proofs.TwinTable.{told_here, told_more}
use Rattle.odr_names.proofs.twin_table.counts_by_order.Goals as goal

pub overflow_add-count : goal.overflow_add-count
overflow_add-count c =
    let o : Object = object_of c.args.seen.now c.args.live.now in
    let n = c.args.object in
    let ranks = c.args.ranks.now in
    let here = c.rank_at-here.result in
    let it = c.requires.siblings.each c.loop-i.i here c.rank_at-here.ensures in
    let is : c.count_told-count.result ≡ twins_before n o here.number =
    c.count_told-count.ensures ∙ told_here n o ranks c.loop-i.counts.items c.loop-i.table here c.key_of-key.result c.loop-i.i c.requires.siblings c.rank_at-here.ensures c.key_of-key.ensures c.loop-i.invariant.counted c.loop-i.invariant.told in
    let few = twins_few n o here.number in
    omega (arith, is, few, c.requires.few, slice_get_within (entries_of o) here.number it.entry it.stands)

pub loop-i-preserved : goal.loop-i-preserved
loop-i-preserved c =
    let o : Object = object_of c.args.seen.now c.args.live.now in
    let n = c.args.object in
    let ranks = c.args.ranks.now in
    let here = c.rank_at-here.result in
    let count = c.count_told-count.result in
    let is : count ≡ twins_before n o here.number =
    c.count_told-count.ensures ∙ told_here n o ranks c.loop-i.counts.items c.loop-i.table here c.key_of-key.result c.loop-i.i c.requires.siblings c.rank_at-here.ensures c.key_of-key.ensures c.loop-i.invariant.counted c.loop-i.invariant.told in
    record {
      counted = counted_more n o ranks c.loop-i.counts.items c.loop-i.i here count c.requires.siblings c.rank_at-here.ensures is c.loop-i.invariant.counted;
      told = told_more n o ranks c.loop-i.table c.tell.new.table here c.key_of-key.result c.loop-i.i count c.requires.siblings c.rank_at-here.ensures c.key_of-key.ensures is c.in_ok-tell.ensures c.loop-i.invariant.told;
    }
