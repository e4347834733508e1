use Rattle.std.proofs.Common.{◌≡◌, ◌∙◌, refl, sym, ap}
use Rattle.odr_names.specs.Pieces.{own_seen, parts_seen}
use Rattle.odr_names.specs.Twins.{parts_hash, tell_alone}
use Rattle.type_names.specs.Heads.{Object, entries_of}
use Rattle.type_names.specs.Objects.{object_of}
use Rattle.type_names.specs.Paths.{Parts, parts_of}
use Rattle.odr_names.proofs.Counting.{entry_at}
use Rattle.odr_names.proofs.Siblings.{found_inside, inside_below, none_seen, none_told, parent_at, spelled_in_head}
use Rattle.odr_names.proofs.ordinals.rank_of.Goals as goal

pub parts_at-parts-requires-clause-spelled : goal.parts_at-parts-requires-clause-spelled
parts_at-parts-requires-clause-spelled c =
    let o : Object = object_of c.args.seen.now c.args.live.now in
    let found = found_inside o c.args.names.now.in_heads c.args.k c.in_ok-parent.parent c.requires.parents c.requires.place c.requires.names.in_heads (sym c.in_ok-parent.ensures) in
    spelled_in_head o c.args.k (inside_below o c.args.k c.in_ok-parent.parent c.requires.parents found.0 found.1)

pub returns-then-tell_alone : goal.returns-then-tell_alone
returns-then-tell_alone c =
    let n = c.args.object in
    let o : Object = object_of c.args.seen.now c.args.live.now in
    let k = c.args.k in
    let e = entry_at (entries_of o) k c.requires.place in
    none_told n o k e.0 e.1 (sym (ap tell_alone (c.parts_at-parts.ensures e.0 e.1)) ∙ sym c.tell_alone.ensures ∙ c.if-tell_alone.true)

pub returns : goal.returns
returns c =
    let n = c.args.object in
    let o : Object = object_of c.args.seen.now c.args.live.now in
    let k = c.args.k in
    let e = entry_at (entries_of o) k c.requires.place in
    let found = found_inside o c.args.names.now.in_heads k c.in_ok-parent.parent c.requires.parents c.requires.place c.requires.names.in_heads (sym c.in_ok-parent.ensures) in
    let parts : parts_seen c.parts_at-parts.result ≡ parts_of n o k e.0 = c.parts_at-parts.ensures e.0 e.1 in (
      refl,
      record {
        entry = e.0;
        parent = c.in_ok-parent.parent;
        stands = e.1;
        child = sym (parent_at o k e.0 e.1) ∙ found.0;
        inside = found.1;
        untold = sym (ap tell_alone parts) ∙ sym c.tell_alone.ensures ∙ c.if-tell_alone.false;
        common = sym (ap (λ (p : Parts). p.private) parts) ∙ none_seen own_seen c.parts_at-parts.result.private (sym c.is_some.ensures ∙ c.if-is_some.false);
        hash = c.hash_parts.ensures ∙ ap (parts_hash c.in_ok-parent.parent) parts;
      },
    )
