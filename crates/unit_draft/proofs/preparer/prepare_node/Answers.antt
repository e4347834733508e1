use Rattle.std.proofs.Common.{◌≡◌, ◌+◌, ◌-◌, ◌++◌, ◌∷◌, [], List, ℕ, drop, length, map, slice_index, refl, sym, ap, ◌∙◌, arith, append_assoc}
use Rattle.std.proofs.lemmas.List.{length-map}
use Rattle.std.proofs.lemmas.Option.{get_or_from_slice_get, slice_get_within}
use Rattle.dwarf_types.specs.declared.graph.Node.{Node}
use Rattle.dwarf_types.specs.Abbreviations.{table_of}
use Rattle.dwarf_types.specs.Entries.{OutEntry, entries_of, entry_of}
use Rattle.abbrev_write.specs.Table.{declaring}
use Rattle.abbrev_write.proofs.Tables.{node_step, one_more}
use Rattle.unit_source.specs.Given.{attr_given, node_given}
use Rattle.unit_draft.specs.declared.stretch.Prepared.{Prepared}
use Rattle.unit_draft.specs.Stretches.{prepared}
use Rattle.unit_draft.proofs.Entering.{entry_here, made_left}
use Rattle.unit_draft.proofs.Stretching.{stretch_more}
use Rattle.unit_draft.proofs.preparer.prepare_node.Goals as goal

abbrev prepared_by : ℕ → ℕ → ℕ → Prepared
prepared_by code ended attrs = record { code = code; ended = ended; attrs = attrs }

pub get-children-requires : goal.get-children-requires
get-children-requires g c = omega (arith, c.requires.inside, c.requires.ready.marks)

pub returns-clause-ready : goal.returns-clause-ready
returns-clause-ready g c =
    let ready = c.requires.ready in
    let number = c.args.it.now.number in
    let nodes = (g.S.UnitSource.unit c.args.it.now.unit.now).nodes in
    let k = c.args.it.now.next in
    let node = node_given c.in_ok-node.node c.node.new.attrs.items in
    let attrs = map attr_given c.deref.result.now in
    let children = c.get-children.ensures ∙ ready.parents k c.requires.inside in
    let step = node_step number nodes k c.in_ok-code.code node c.get-children.result attrs c.args.it.now.declared c.code_of.new.self (table_of number nodes) c.in_ok-node.ensures children
    (ap (map attr_given) c.deref.ensures.value) c.in_ok-code.ensures.grown c.in_ok-code.ensures.code ready.declared in
    record {
      source = refl;
      numbered = refl;
      few = ready.few;
      some = ready.some;
      within = omega (arith, c.requires.inside);
      marks = ready.marks;
      parents = ready.parents;
      depths = ready.depths;
      declared = step.0;
      few_declared = rw c.in_ok-code.ensures.grown (omega (arith, one_more c.args.it.now.declared (declaring number c.in_ok-node.node.tag c.get-children.result attrs), ready.few_declared));
    }

pub returns-clause-added : goal.returns-clause-added
returns-clause-added g c = λ from has.
    let ready = c.requires.ready in
    let number = c.args.it.now.number in
    let unit = g.S.UnitSource.unit c.args.it.now.unit.now in
    let nodes = unit.nodes in
    let k = c.args.it.now.next in
    let node = node_given c.in_ok-node.node c.node.new.attrs.items in
    let at = c.in_ok-node.ensures in
    let attrs = map attr_given c.deref.result.now in
    let children = c.get-children.ensures ∙ ready.parents k c.requires.inside in
    let step = node_step number nodes k c.in_ok-code.code node c.get-children.result attrs c.args.it.now.declared c.code_of.new.self (table_of number nodes) at children
    (ap (map attr_given) c.deref.ensures.value) c.in_ok-code.ensures.grown c.in_ok-code.ensures.code ready.declared in
    let e : OutEntry = entry_of number nodes k node in
    let all = entries_of number unit in
    let cut = made_left nodes (λ (n : ℕ × Node). entry_of number nodes n.0 n.1) k node (slice_get_within nodes k node at) (sym (get_or_from_slice_get nodes k node node at)) in
    let ends = c.ended_behind-ended.ensures ∙ ap (λ (ds : List ℕ). slice_index ds k - slice_index ds (k + 1)) c.as_slice.ensures in
    let here = entry_here number nodes c.args.it.now.depths k c.in_ok-code.code node c.ended_behind-ended.result step.1 ready.depths ends in
    let count : c.len-attrs.result ≡ length node.attrs = omega (arith, c.len-attrs.ensures, length-map c.node.new.attrs.items attr_given, c.node.new.attrs.ok) in
    let known = ap (λ (n : ℕ). prepared_by c.in_ok-code.code c.ended_behind-ended.result n) count ∙ ap prepared here in
    record {
      entries = has.entries ++ e ∷ [];
      stretch = stretch_more has.entries e c.args.it.now.stretch (record { attrs = c.append.new.self; nodes = c.push.new.self }) c.node.new.attrs.items _ has.stretch refl known c.in_ok-append.ensures.items c.in_ok-push.ensures.items;
      cut = has.cut ∙ ap (λ (es : List OutEntry). has.entries ++ es) cut ∙ sym (append_assoc has.entries (e ∷ []) (drop (k + 1) all));
    }
