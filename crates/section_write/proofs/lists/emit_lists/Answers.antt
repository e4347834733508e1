use Rattle.std.proofs.Common.{◌≡◌, ◌-◌, ◌++◌, ◌∙◌, ap, length, sym, arith}
use Rattle.std.specs.List.{flat_map}
use Rattle.ds_base.proofs.Adding.{adds_more, adds_none, adds_same}
use Rattle.dwarf_types.specs.Lists.{behind_header, lists_header}
use Rattle.section_write.specs.Copied.{part_in}
use Rattle.section_write.proofs.Headers.{some_lists}
use Rattle.section_write.proofs.InTurn.{none_of_none}
use Rattle.section_write.proofs.lists.emit_lists.Goals as goal

pub returns-then-size-eq0 : goal.returns-then-size-eq0
returns-then-size-eq0 c =
    let lists = flat_map (part_in c.args.part) c.args.drafts.now in
    adds_same _ _ _ _ _ _ (sym (none_of_none (behind_header lists) (sym c.requires.size ∙ c.if-size-eq0.true))) (adds_none c.args.room.now c.args.at)

pub overflow_sub-lists : goal.overflow_sub-lists
overflow_sub-lists c =
    let some = some_lists (flat_map (part_in c.args.part) c.args.drafts.now) (λ e. omega (arith, e, c.requires.size, c.if-size-eq0.false)) in
    omega (arith, some.1, c.requires.size)

pub emit_header-at-requires-clause-fits : goal.emit_header-at-requires-clause-fits
emit_header-at-requires-clause-fits c =
    let some = some_lists (flat_map (part_in c.args.part) c.args.drafts.now) (λ e. omega (arith, e, c.requires.size, c.if-size-eq0.false)) in
    omega (arith, some.1, c.requires.fits)

pub emit_parts-requires : goal.emit_parts-requires
emit_parts-requires c =
    let some = some_lists (flat_map (part_in c.args.part) c.args.drafts.now) (λ e. omega (arith, e, c.requires.size, c.if-size-eq0.false)) in
    record { fits = omega (arith, some.1, c.requires.fits, c.emit_header-at.ensures.size, c.emit_header-at.ensures.behind) }

pub returns : goal.returns
returns c =
    let lists = flat_map (part_in c.args.part) c.args.drafts.now in
    let some = some_lists lists (λ e. omega (arith, e, c.requires.size, c.if-size-eq0.false)) in
    let count : c.args.size - 12 ≡ length lists = omega (arith, some.1, c.requires.size) in
    adds_same _ _ _ _ _ _ (ap (λ n. lists_header n ++ lists) count ∙ sym some.0) (adds_more _ _ _ _ _ _ _ _ c.emit_header-at.ensures c.emit_parts.ensures)
