use Rattle.std.proofs.Common.{◌≡◌, ℕ, ◌+◌, ◌++◌, ◌<◌, length, length-append, arith, sym, ap, subst, ◌∙◌, Option}
use Rattle.std.specs.Option.{IfSome}
use Rattle.std.proofs.lemmas.List.{length-map}
use Rattle.dwarf_types.specs.declared.entry.Entry.{Entry}
use Rattle.dwarf_types.specs.declared.entry.InUnit.{InUnit}
use Rattle.dwarf_types.specs.Live.{Stands}
use Rattle.dwarf_types.specs.LinkedUnits.{Object, is_kept, node_number}
use Rattle.link_graph.specs.Passes.{marked, nodes_in, plain_in_unit, stretch}
use Rattle.link_graph.proofs.Nodes.{plain_step, kept_read, nodes_few, nodes_step}
use Rattle.link_graph.proofs.Stretches.{entries_are, stretch_length}
use Rattle.link_graph.proofs.Units.{unit_read, unit_spans}
use Rattle.type_names.proofs.Pooling.{sound_parents}
use Rattle.link_graph.proofs.unit.nodes_in.Goals as goal

pub overflow_add-k : goal.overflow_add-k
overflow_add-k c =
    let seen = c.args.seen.now in
    let is = unit_read seen.units c.as_slice.result.now c.args.u c.index-as_slice-u.result c.as_slice.ensures c.requires.unit c.index-as_slice-u.is in
    let span = unit_spans 0 seen.units (length seen.entries) c.args.u c.index-as_slice-u.result c.requires.sound.units is in
    omega (arith, span.ends, c.requires.sound.few)

pub entry-requires : goal.entry-requires
entry-requires c =
    let seen = c.args.seen.now in
    let is = unit_read seen.units c.as_slice.result.now c.args.u c.index-as_slice-u.result c.as_slice.ensures c.requires.unit c.index-as_slice-u.is in
    let span = unit_spans 0 seen.units (length seen.entries) c.args.u c.index-as_slice-u.result c.requires.sound.units is in
    omega (arith, span.ends)

pub get-requires : goal.get-requires
get-requires c =
    let seen = c.args.seen.now in
    let is = unit_read seen.units c.as_slice.result.now c.args.u c.index-as_slice-u.result c.as_slice.ensures c.requires.unit c.index-as_slice-u.is in
    let span = unit_spans 0 seen.units (length seen.entries) c.args.u c.index-as_slice-u.result c.requires.sound.units is in
    omega (arith, span.ends, c.requires.marked)

pub add_entry-requires-clause-few : goal.add_entry-requires-clause-few
add_entry-requires-clause-few c =
    let o : Object = marked c.args.seen.now c.args.live.now in
    let unit = c.index-as_slice-u.result in
    let is = unit_read o.seen.units c.as_slice.result.now c.args.u unit c.as_slice.ensures c.requires.unit c.index-as_slice-u.is in
    let span = unit_spans 0 o.seen.units (length o.seen.entries) c.args.u unit c.requires.sound.units is in
    let so_far = stretch o unit.first c.loop-n.n in
    omega (arith, ap length c.loop-n.invariant.nodes, nodes_few c.args.object o c.args.u so_far, stretch_length o unit.first c.loop-n.n (omega (arith, span.ends)), span.ends, c.requires.sound.few)

pub add_entry-requires-clause-parent : goal.add_entry-requires-clause-parent
add_entry-requires-clause-parent c = λ p is_parent. (
    let o : Object = marked c.args.seen.now c.args.live.now in
    let unit = c.index-as_slice-u.result in
    let is = unit_read o.seen.units c.as_slice.result.now c.args.u unit c.as_slice.ensures c.requires.unit c.index-as_slice-u.is in
    let span = unit_spans 0 o.seen.units (length o.seen.entries) c.args.u unit c.requires.sound.units is in
    let begun : length c.args.plain.now ≡ unit.first = subst (λ (found : Option InUnit). IfSome found (λ unit. length c.args.plain.now ≡ unit.first)) is c.requires.begun in
    let so_far = stretch o unit.first c.loop-n.n in
    let lower = sound_parents o.seen c.requires.sound (unit.first + c.loop-n.n) p c.entry.result c.entry.ensures.stands is_parent in
    let numbers = length-append c.args.plain.now (plain_in_unit o c.args.u so_far) in
    let each = length-map so_far (λ (e : ℕ × Entry). node_number o c.args.u e.0) in
    omega (arith, lower, ap length c.loop-n.invariant.plain, numbers, each, stretch_length o unit.first c.loop-n.n (omega (arith, span.ends)), begun))

pub loop-n-preserved : goal.loop-n-preserved
loop-n-preserved c =
    let o : Object = marked c.args.seen.now c.args.live.now in
    let unit = c.index-as_slice-u.result in
    let is = unit_read o.seen.units c.as_slice.result.now c.args.u unit c.as_slice.ensures c.requires.unit c.index-as_slice-u.is in
    let span = unit_spans 0 o.seen.units (length o.seen.entries) c.args.u unit c.requires.sound.units is in
    let begun : length c.args.plain.now ≡ unit.first = subst (λ (found : Option InUnit). IfSome found (λ unit. length c.args.plain.now ≡ unit.first)) is c.requires.begun in
    let k = unit.first + c.loop-n.n in
    let within : k < length o.seen.entries = omega (arith, span.ends) in
    let at : Stands o.seen.entries k c.entry.result = c.entry.ensures.stands in
    let kept : c.get.result ≡ is_kept o k = c.get.ensures ∙ sym (kept_read o k (omega (arith, within, c.requires.marked))) in
    record {
      nodes = c.in_ok-add_entry.ensures.nodes
          ∙ nodes_step o c.args.object c.args.u unit c.loop-n.n c.entry.result c.args.plain.now _ _ c.get.result c.requires.sound is c.loop-n-test.true at begun kept c.loop-n.invariant.nodes c.loop-n.invariant.plain;
      plain = c.in_ok-add_entry.ensures.plain
          ∙ plain_step o c.args.object c.args.u unit c.loop-n.n c.entry.result c.args.plain.now _ _ c.get.result c.requires.sound is c.loop-n-test.true at kept c.loop-n.invariant.nodes c.loop-n.invariant.plain;
    }

pub returns-clause-nodes : goal.returns-clause-nodes
returns-clause-nodes c =
    let o : Object = marked c.args.seen.now c.args.live.now in
    let unit = c.index-as_slice-u.result in
    let is = unit_read o.seen.units c.as_slice.result.now c.args.u unit c.as_slice.ensures c.requires.unit c.index-as_slice-u.is in
    let all : c.loop-n.n ≡ unit.count = omega arith in
    c.loop-n.invariant.nodes ∙ ap (λ n. nodes_in c.args.object o c.args.u (stretch o unit.first n)) all ∙ ap (nodes_in c.args.object o c.args.u) (sym (entries_are o c.args.u unit is))

pub returns-clause-plain : goal.returns-clause-plain
returns-clause-plain c =
    let o : Object = marked c.args.seen.now c.args.live.now in
    let unit = c.index-as_slice-u.result in
    let is = unit_read o.seen.units c.as_slice.result.now c.args.u unit c.as_slice.ensures c.requires.unit c.index-as_slice-u.is in
    let all : c.loop-n.n ≡ unit.count = omega arith in
    c.loop-n.invariant.plain ∙ ap (λ n. c.args.plain.now ++ plain_in_unit o c.args.u (stretch o unit.first n)) all ∙ ap (λ es. c.args.plain.now ++ plain_in_unit o c.args.u es) (sym (entries_are o c.args.u unit is))
