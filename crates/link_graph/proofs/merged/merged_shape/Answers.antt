use Rattle.std.proofs.Common.{◌≡◌, ◌∙◌, ℕ, List, Bool, length, subst, sym, ap, arith}
use Rattle.std.specs.Prelude.{IfOk}
use Rattle.dwarf_types.specs.Kept.{kept_of}
use Rattle.dwarf_types.specs.LinkedUnits.{Object}
use Rattle.type_names.proofs.Pooling.{sound_parents}
use Rattle.link_graph.specs.OwnShapes.{IsOwnShape}
use Rattle.link_graph.specs.Passes.{kept_with, marked, merged_by, names_between}
use Rattle.link_graph.proofs.KeptRows.{kept_length, kept_live, merged_length}
use Rattle.link_graph.proofs.Merging.{between_none}
use Rattle.link_graph.proofs.merged.merged_shape.Goals as goal

pub returns-then-from-end : goal.returns-then-from-end
returns-then-from-end c =
    let none = between_none c.args.names.now c.args.from c.args.end (omega arith) in
    let kept : kept_with c.args.seen.now c.args.live.now (names_between c.args.names.now c.args.from c.args.end) ≡ marked c.args.seen.now c.args.live.now =
    ap (kept_with c.args.seen.now c.args.live.now) none ∙ kept_live c.args.seen.now c.args.live.now c.requires.live in
    subst (λ (o : Object). IfOk c.kept_shape.result (IsOwnShape c.args.object o)) (sym kept) c.kept_shape.ensures

pub kept_row-requires-clause-parents : goal.kept_row-requires-clause-parents
kept_row-requires-clause-parents c = sound_parents c.args.seen.now c.requires.sound

pub kept_row-requires-clause-merged : goal.kept_row-requires-clause-merged
kept_row-requires-clause-merged c = ap length c.in_ok-merged.ensures ∙ merged_length _ (names_between c.args.names.now c.args.from c.args.end) ∙ c.len.ensures

pub kept_shape-requires-2-clause-marked : goal.kept_shape-requires-2-clause-marked
kept_shape-requires-2-clause-marked c = ap length c.in_ok-kept.ensures ∙ kept_length c.args.seen.now.entries c.args.live.now c.in_ok-merged.merged

pub returns : goal.returns
returns c =
    let seen = c.args.seen.now in
    let live = c.args.live.now in
    let ws = names_between c.args.names.now c.args.from c.args.end in
    let kept : c.in_ok-kept.kept ≡ kept_of seen.entries live (merged_by (length seen.entries) ws) = c.in_ok-kept.ensures ∙ ap (kept_of seen.entries live) (c.in_ok-merged.ensures ∙ ap (λ (n : ℕ). merged_by n ws) c.len.ensures) in
    subst (λ (row : List Bool). IfOk c.kept_shape-2.result (IsOwnShape c.args.object (marked seen row))) kept c.kept_shape-2.ensures
