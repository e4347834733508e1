use Rattle.std.proofs.Common.{◌≡◌, Some, arith, refl, slice_get}
use Rattle.std.proofs.lemmas.Option.{slice_get_read}
use Rattle.odr_names.specs.Numbered.{objects_of}
use Rattle.type_names.specs.Objects.{object_of}
use Rattle.odr_names.proofs.JoinedRows.{names_done, names_more}
use Rattle.odr_names.proofs.MakingBooks.{length_objects, object_made}
use Rattle.odr_names.proofs.path_book.all_names.Goals as goal

pub loop-i-preserved : goal.loop-i-preserved
loop-i-preserved c =
    let seen = c.args.seen.now in
    let live = c.args.live.now in
    let i = c.loop-i.i in
    let at_seen : slice_get seen i ≡ Some c.index-seen-i.result = slice_get_read seen _ i _ refl (omega arith) c.index-seen-i.is in
    let at_live : slice_get live i ≡ Some c.index-live-i.result = slice_get_read live _ i _ refl (omega (arith, c.requires.live.len)) c.index-live-i.is in
    let at = object_made seen live i c.index-seen-i.result c.index-live-i.result at_seen at_live in
    rw c.in_ok-push.ensures.items (names_more (objects_of seen live) c.loop-i.own.items i (object_of c.index-seen-i.result c.index-live-i.result) c.in_ok-object_names.field-0 at c.in_ok-object_names.ensures c.loop-i.invariant)

pub returns : goal.returns
returns c =
    let long = length_objects c.args.seen.now c.args.live.now c.requires.live.len in
    names_done (objects_of c.args.seen.now c.args.live.now) c.loop-i.own.items c.loop-i.i (omega (arith, long, c.loop-i-test.false, c.loop-i.invariant.len)) c.loop-i.invariant
