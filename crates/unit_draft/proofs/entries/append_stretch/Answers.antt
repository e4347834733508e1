use Rattle.std.proofs.Common.{◌++◌, [], ◌+◌, ◌<◌, List, drop, length, sym, ap, subst, ◌∙◌, arith}
use Rattle.dwarf_types.specs.Entries.{OutEntry}
use Rattle.unit_source.specs.declared.source.NodeHead.{NodeHead}
use Rattle.unit_draft.specs.declared.stretch.Prepared.{Prepared}
use Rattle.unit_draft.specs.Appends.{AppendsEntry, attrs_of, nowhere}
use Rattle.unit_draft.specs.Stretches.{GoesOn}
use Rattle.unit_draft.proofs.Stretching.{attrs_within, entries_left, entry_at, entry_is, goes_by_one, known_at, others_behind}
use Rattle.unit_draft.proofs.entries.append_stretch.Goals as goal

abbrev none : Prepared
none = record { code = 0; ended = 0; attrs = 0 }

pub attrs_at-attrs-requires : goal.attrs_at-attrs-requires
attrs_at-attrs-requires c =
    let es = c.requires.0 in
    let is = c.requires.1 in
    let nodes = c.as_slice-node-items.result.now in
    let j = c.loop-node.node-index in
    let lt : j < length nodes = omega (arith, c.loop-node-test.true) in
    let same = c.as_slice-node-items.ensures.value in
    let h = c.loop-node.invariant es [] is in
    attrs_within (entry_at es c.args.stretch.now is nodes same j lt) _ (known_at es c.args.stretch.now is nodes same j lt none) (drop (j + 1) es) c.as_slice-all.result.now c.loop-node.at
    (h.2 ∙ ap attrs_of (entries_left es c.args.stretch.now is nodes same j lt)) h.1

pub overflow_add-at : goal.overflow_add-at
overflow_add-at c =
    let es = c.requires.0 in
    let is = c.requires.1 in
    let nodes = c.as_slice-node-items.result.now in
    let j = c.loop-node.node-index in
    let lt : j < length nodes = omega (arith, c.loop-node-test.true) in
    let same = c.as_slice-node-items.ensures.value in
    let h = c.loop-node.invariant es [] is in
    let le = attrs_within (entry_at es c.args.stretch.now is nodes same j lt) _ (known_at es c.args.stretch.now is nodes same j lt none) (drop (j + 1) es) c.as_slice-all.result.now c.loop-node.at
    (h.2 ∙ ap attrs_of (entries_left es c.args.stretch.now is nodes same j lt)) h.1 in
    record { fits = omega (arith, le, c.as_slice-all.type_inv) }

pub loop-node-preserved : goal.loop-node-preserved
loop-node-preserved c = λ es rest is.
    let number = c.args.number in
    let version = c.args.version in
    let nodes = c.as_slice-node-items.result.now in
    let all = c.as_slice-all.result.now in
    let at = c.loop-node.at in
    let j = c.loop-node.node-index in
    let lt : j < length nodes = omega (arith, c.loop-node-test.true) in
    let same = c.as_slice-node-items.ensures.value in
    let h = c.loop-node.invariant es rest is in
    let e = entry_at es c.args.stretch.now is nodes same j lt in
    let others = drop (j + 1) es in
    let known = known_at es c.args.stretch.now is nodes same j lt none in
    let cut = entries_left es c.args.stretch.now is nodes same j lt in
    let left = h.2 ∙ ap attrs_of cut in
    let old = c.loop-node.drafting in
    let new = c.append_entry.new.drafting in
    let head : NodeHead = record { parent = e.node.parent; tag = e.node.tag } in
    let one : AppendsEntry number version old new e = subst (AppendsEntry number version old new) (entry_is e _ known others all at left c.attrs_at-attrs.result.now c.attrs_at-attrs.ensures) (c.in_ok-append_entry.ensures head) in
    let going = subst (λ (these : List OutEntry). GoesOn number version c.args.drafting.now old c.args.places.now c.loop-node.places (es ++ rest) (these ++ rest)) cut h.0 in (
      goes_by_one number version c.args.drafting.now old new c.args.places.now c.loop-node.places c.push.new.self (es ++ rest) (others ++ rest) e c.in_ok-end_of.field-0 going one (sym (c.in_ok-end_of.ensures.end nowhere)) c.in_ok-push.ensures.ok,
      attrs_within e _ known others all at left h.1,
      others_behind e _ known others all at left,
    )
