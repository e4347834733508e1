use Rattle.std.proofs.Common.{◌++◌, List, ℕ, ap, ◌∙◌}
use Rattle.dwarf_types.specs.Expressions.{expression_bytes}
use Rattle.unit_draft.proofs.expression.write_expression.Goals as goal

pub returns : goal.returns
returns c = λ f place tells. c.in_ok-append_expression.ensures f place tells ∙ ap (λ (front : List ℕ). front ++ expression_bytes place c.args.parts.now) (c.clear.ensures f)
