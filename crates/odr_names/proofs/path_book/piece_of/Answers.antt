use Rattle.std.proofs.Common.{◌≡◌, ◌∙◌, ◌-◌, ◌<◌, ℕ, Some, ap, arith, sym, subst, slice_get, length}
use Rattle.std.specs.Option.{option_and_then, option_map}
use Rattle.std.proofs.lemmas.Option.{slice_get_within}
use Rattle.dwarf_types.specs.declared.entry.Entry.{Entry}
use Rattle.type_names.specs.Heads.{Object, entries_of}
use Rattle.type_names.specs.Objects.{object_of}
use Rattle.type_names.specs.Paths.{ordinal_of, parts_of, piece_of}
use Rattle.odr_names.specs.Pieces.{IsSpelled, parts_seen}
use Rattle.odr_names.proofs.ObjectLists.{is_object, seen_within}
use Rattle.odr_names.proofs.path_book.piece_of.Goals as goal

pub seen_at-requires : goal.seen_at-requires
seen_at-requires c = seen_within c.args.objects.now (c.args.row.object - 1) c.requires.row.object c.requires.told c.requires.row.its_object

pub live_at-requires : goal.live_at-requires
live_at-requires c = omega (arith, seen_within c.args.objects.now (c.args.row.object - 1) c.requires.row.object c.requires.told c.requires.row.its_object, c.requires.told.live_len)

pub names_at-requires : goal.names_at-requires
names_at-requires c = omega (arith, seen_within c.args.objects.now (c.args.row.object - 1) c.requires.row.object c.requires.told c.requires.row.its_object, c.requires.told.names_len)

pub parts_at-parts-requires-clause-place : goal.parts_at-parts-requires-clause-place
parts_at-parts-requires-clause-place c =
    let is = is_object c.args.objects.now (c.args.row.object - 1) c.requires.row.object c.seen_at.result.now c.live_at.result.now c.requires.row.its_object c.seen_at.ensures c.live_at.ensures in
    subst (λ (o : Object). c.args.row.entry < length (entries_of o)) is (slice_get_within (entries_of c.requires.row.object) c.args.row.entry c.requires.row.entry c.requires.row.stands)

pub parts_at-parts-requires-clause-names : goal.parts_at-parts-requires-clause-names
parts_at-parts-requires-clause-names c = c.requires.told.each (c.args.row.object - 1) c.seen_at.result.now c.live_at.result.now c.names_at.result.now c.seen_at.ensures c.live_at.ensures c.names_at.ensures

pub parts_at-parts-requires-clause-spelled : goal.parts_at-parts-requires-clause-spelled
parts_at-parts-requires-clause-spelled c =
    let is = is_object c.args.objects.now (c.args.row.object - 1) c.requires.row.object c.seen_at.result.now c.live_at.result.now c.requires.row.its_object c.seen_at.ensures c.live_at.ensures in
    subst (λ (o : Object). IsSpelled o c.args.row.entry) is c.requires.row.spelled

pub returns : goal.returns
returns c =
    let n = c.args.row.object in
    let k = c.args.row.entry in
    let o = c.requires.row.object in
    let e = c.requires.row.entry in
    let is = is_object c.args.objects.now (n - 1) o c.seen_at.result.now c.live_at.result.now c.requires.row.its_object c.seen_at.ensures c.live_at.ensures in
    let parts : parts_seen c.parts_at-parts.result ≡ parts_of n o k e =
    c.parts_at-parts.ensures e (subst (λ (o : Object). slice_get (entries_of o) k ≡ Some e) is c.requires.row.stands)
    ∙ ap (λ (m : ℕ). parts_of m (object_of c.seen_at.result.now c.live_at.result.now) k e) c.from.ensures ∙ ap (λ (o : Object). parts_of n o k e) (sym is) in
    let ordinal = c.requires.row.ordinal in
    ap (option_and_then (λ (o : Object). piece_of n o k)) c.requires.row.its_object
    ∙ ap (option_map (λ (e : Entry). record { parts = parts_of n o k e; ordinal = ordinal_of n o k e })) c.requires.row.stands
    ∙ (λ i. Some (record { parts = sym parts i; ordinal = sym ordinal i }))
