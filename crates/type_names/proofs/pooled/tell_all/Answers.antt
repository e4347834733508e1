use Rattle.std.proofs.Common.{◌∙◌, ◌&&◌, ◌||◌, List, Option, ℕ, false, ap, sym, arith}
use Rattle.std.specs.Prelude.{if◌then◌else◌}
use Rattle.std.specs.Option.{option_map_or}
use Rattle.dwarf_types.specs.declared.entry.Entry.{Entry}
use Rattle.type_names.specs.Heads.{Object}
use Rattle.type_names.specs.Objects.{object_of}
use Rattle.type_names.specs.Paths.{is_overloaded}
use Rattle.type_names.specs.Pooled.{text_if}
use Rattle.type_names.specs.Spell.{spelled_parameters}
use Rattle.type_names.specs.Tree.{is_marked}
use Rattle.type_names.proofs.Telling.{told_more, told_none}
use Rattle.type_names.proofs.pooled.tell_all.Goals as goal

pub loop-i-init : goal.loop-i-init
loop-i-init c =
    told_none (object_of c.args.seen.now c.args.live.now) c.len.result c.len-2.result c.in_ok-heads.heads c.in_ok-in_heads.in_heads c.in_ok-spelled.spelled (omega (arith, c.len.ensures)) (omega (arith, c.len-2.ensures)) c.in_ok-heads.ensures c.in_ok-in_heads.ensures c.in_ok-spelled.ensures

pub is_within-inside-requires : goal.is_within-inside-requires
is_within-inside-requires c x is =
    let above = c.requires.parents c.loop-i.i x c.entry-entry.result c.entry-entry.ensures.stands (sym c.parent.ensures ∙ is) in
    omega (arith, above, c.loop-i.invariant.inside.len)

pub loop-i-preserved : goal.loop-i-preserved
loop-i-preserved c =
    let o : Object = object_of c.args.seen.now c.args.live.now in
    let i = c.loop-i.i in
    let e = c.entry-entry.result in
    let derived = c.in_ok-derived.derived in
    let head = c.is_head-head.result in
    let inside = c.is_within-inside.result in
    let out = c.spell_derived.new.out.items in
    let inside_is = c.is_within-inside.ensures ∙ ap (λ (p : Option ℕ). head || option_map_or (is_marked c.loop-i.in_heads) p false) c.parent.ensures in
    let text_is = c.in_ok-there.ensures ∙ ap (λ (entries : List Entry). if inside && is_overloaded e then spelled_parameters entries i else text_if derived out) c.requires.all_entries in
    rw (c.set_if.ensures, c.set_if-in-loop-i.ensures, c.in_ok-push.ensures, c.deref.ensures.value)
    (told_more o c.args.named.now c.loop-i.heads c.loop-i.in_heads c.loop-i.spelled i e derived head inside out (text_if c.in_ok-there.there c.spell_piece.new.out.items)
    c.requires.parents c.entry-entry.ensures.stands c.requires.named c.in_ok-derived.ensures c.is_head-head.ensures inside_is text_is c.loop-i.invariant)
