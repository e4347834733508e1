use Rattle.std.proofs.Common.{◌≡◌, ◌∙◌, Some, slice_get, refl, arith}
use Rattle.std.proofs.lemmas.Option.{slice_get_read}
use Rattle.odr_names.specs.Numbered.{objects_of}
use Rattle.odr_names.proofs.MakingBooks.{object_made}
use Rattle.type_names.specs.Heads.{Object}
use Rattle.type_names.specs.Objects.{object_of}
use Rattle.link_graph.specs.Passes.{names_between}
use Rattle.link_graph.proofs.Joined.{given, own_at}
use Rattle.link_graph.proofs.Merging.{names_begin, own_entries, own_names}
use Rattle.link_graph.proofs.Shapes.{marks_whole}
use Rattle.link_graph.proofs.shape.object_shape.Goals as goal

pub merged_shape-requires-clause-live : goal.merged_shape-requires-clause-live
merged_shape-requires-clause-live c = marks_whole c.args.seen.now c.args.live.now c.args.object _ _ c.requires.marked c.requires.there c.index-seen-i.is c.index-live-i.is

pub merged_shape-requires-clause-within : goal.merged_shape-requires-clause-within
merged_shape-requires-clause-within c =
    let seen = c.args.seen.now in
    let live = c.args.live.now in
    let i = c.args.object in
    let at_seen : slice_get seen i ≡ Some c.index-seen-i.result = slice_get_read seen _ i _ refl c.requires.there c.index-seen-i.is in
    let at_live : slice_get live i ≡ Some c.index-live-i.result = slice_get_read live _ i _ refl (omega (arith, c.requires.there, c.requires.marked.each)) c.index-live-i.is in
    let o : Object = object_of c.index-seen-i.result c.index-live-i.result in
    let are = own_names c.requires.book.0 (objects_of seen live) c.args.names.now i c.first_of-from.result c.first_of-end.result o (object_made seen live i c.index-seen-i.result c.index-live-i.result at_seen at_live)
    (c.requires.book.1 ∙ names_begin c.requires.book.0 seen live) c.first_of-from.ensures c.first_of-end.ensures in
    (are.order, are.within)

pub merged_shape-requires-clause-entries : goal.merged_shape-requires-clause-entries
merged_shape-requires-clause-entries c =
    let seen = c.args.seen.now in
    let live = c.args.live.now in
    let i = c.args.object in
    let at_seen : slice_get seen i ≡ Some c.index-seen-i.result = slice_get_read seen _ i _ refl c.requires.there c.index-seen-i.is in
    let at_live : slice_get live i ≡ Some c.index-live-i.result = slice_get_read live _ i _ refl (omega (arith, c.requires.there, c.requires.marked.each)) c.index-live-i.is in
    let o : Object = object_of c.index-seen-i.result c.index-live-i.result in
    own_entries c.requires.book.0 c.args.names.now i c.first_of-from.result c.first_of-end.result o
    (own_names c.requires.book.0 (objects_of seen live) c.args.names.now i c.first_of-from.result c.first_of-end.result o (object_made seen live i c.index-seen-i.result c.index-live-i.result at_seen at_live)
    (c.requires.book.1 ∙ names_begin c.requires.book.0 seen live) c.first_of-from.ensures c.first_of-end.ensures)

pub returns : goal.returns
returns c =
    let seen = c.args.seen.now in
    let live = c.args.live.now in
    let i = c.args.object in
    let at_seen : slice_get seen i ≡ Some c.index-seen-i.result = slice_get_read seen _ i _ refl c.requires.there c.index-seen-i.is in
    let at_live : slice_get live i ≡ Some c.index-live-i.result = slice_get_read live _ i _ refl (omega (arith, c.requires.there, c.requires.marked.each)) c.index-live-i.is in
    let o : Object = object_of c.index-seen-i.result c.index-live-i.result in
    let at = object_made seen live i c.index-seen-i.result c.index-live-i.result at_seen at_live in
    let ws = names_between c.args.names.now c.first_of-from.result c.first_of-end.result in
    given c.merged_shape.result c.merged_shape.ensures (λ one is odr named.
    own_at odr seen live i o ws one at (own_names odr (objects_of seen live) c.args.names.now i c.first_of-from.result c.first_of-end.result o at (named ∙ names_begin odr seen live) c.first_of-from.ensures c.first_of-end.ensures).own is)
