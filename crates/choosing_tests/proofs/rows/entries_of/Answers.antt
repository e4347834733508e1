use Rattle.std.proofs.Common.{◌≡◌, ℕ, ◌+◌, true, List, [], Result, IfOk, OnOk, length, map, sym, ap, subst, ◌∙◌, arith}
use Rattle.std.proofs.lemmas.List.{length-map}
use Rattle.ds_base.specs.DwarfNumbers.{DW_TAG_compile_unit}
use Rattle.ds_base.specs.declared.fault.NoMemory.{NoMemory}
use Rattle.dwarf_types.specs.Built.{Built}
use Rattle.dwarf_types.specs.declared.entry.Entry.{Entry}
use Rattle.dwarf_types.specs.Live.{Stands}
use Rattle.dwarf_types.specs.Raw.{entry_of}
use Rattle.choosing_tests.specs.SoundTests.{is_sound}
use Rattle.choosing_tests.proofs.SoundTests.{all_sound, one_longer, one_more, root_alone, with_root}
use Rattle.choosing_tests.proofs.rows.entries_of.Goals as goal

pub loop-row-init : goal.loop-row-init
loop-row-init g c =
    let was = subst (λ (r : Result Built NoMemory). IfOk r (λ (b : Built). b ≡ record { entries = []; attrs = [] })) c.expect-built.ensures c.new.ensures in
    let is = subst (λ (r : Result (Unit {0}) NoMemory). OnOk r (c.close.new.self ≡ with_root DW_TAG_compile_unit c.expect-built.result)) c.expect.ensures c.close.ensures.ok in
    root_alone (length c.args.rows.now + 1) DW_TAG_compile_unit c.expect-built.result c.close.new.self was is

pub loop-row-preserved : goal.loop-row-preserved
loop-row-preserved g c =
    let made = c.push_row.ensures.made in
    let longer = one_longer _ _ _ (ap (λ b. b.entries) made) in (
      ap (λ b. b.attrs) made,
      omega (arith, longer, c.loop-row.invariant.1),
      one_more _ c.loop-row.built.entries _ _ (ap (λ b. b.entries) made) c.loop-row.invariant.2 c.push_row.ensures.sound,
    )

pub returns-clause-len : goal.returns-clause-len
returns-clause-len g c =
    let made = c.into_entries.ensures ∙ ap (map entry_of) c.finish.ensures in
    omega (arith, ap length made, length-map c.loop-row.built.entries entry_of, c.loop-row.invariant.1, c.loop-row-test.false, c.loop-row.auto.row-index-end)

pub returns-clause-each : goal.returns-clause-each
returns-clause-each g c k e at =
    let made = c.into_entries.ensures ∙ ap (map entry_of) c.finish.ensures in
    subst (λ (n : ℕ). is_sound n k e ≡ true) (sym (returns-clause-len g c)) (all_sound (length c.args.rows.now + 1) c.loop-row.built.entries c.loop-row.invariant.2 k e (subst (λ (es : List Entry). Stands es k e) made at))
