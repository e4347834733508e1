use Rattle.std.proofs.Common.{◌++◌, List, ℕ, ap, ◌∙◌}
use Rattle.dwarf_types.specs.Expressions.{inner_bytes}
use Rattle.unit_draft.proofs.Exprs.{nested_bytes}
use Rattle.unit_draft.proofs.expression.append_nested.Goals as goal

pub returns : goal.returns
returns c = λ f place tells.
    let inner = c.in_ok-append_inner.ensures f place tells ∙ ap (λ (front : List ℕ). front ++ inner_bytes place c.args.parts.now) (c.clear.ensures f) in
    nested_bytes place _ c.args.parts.now _ _ _ _ (c.in_ok-push.ensures.ok f) inner (c.in_ok-append_prefixed.ensures.ok f)
