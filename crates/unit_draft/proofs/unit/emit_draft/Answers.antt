use Rattle.std.proofs.Common.{ℕ, sym, ap, ◌∙◌}
use Rattle.patches.specs.declared.hole.Outer.{Outer}
use Rattle.patches.specs.Filling.{Filling, filled}
use Rattle.unit_draft.proofs.Standing.{stands, world_of}
use Rattle.unit_draft.proofs.unit.emit_draft.Goals as goal

abbrev with_outer : Filling → (Outer → ℕ) → Filling
with_outer f outer = record { own = f.own; outer = outer }

pub returns-clause-world : goal.returns-clause-world
returns-clause-world c = λ number clone w is stands same. c.emit.ensures w.filling ∙ ap (λ (outer : Outer → ℕ). filled c.args.draft.now.info (with_outer w.filling outer)) (sym same) ∙ is.info w stands

pub returns-clause-graph : goal.returns-clause-graph
returns-clause-graph c = λ graph u clone at is outside.
    let draft = c.args.draft.now in
    let w = world_of graph u clone c.args.outside.now in
    c.emit.ensures w.filling ∙ is.info w (stands graph u clone draft.names draft.line_names c.args.outside.now at outside)
