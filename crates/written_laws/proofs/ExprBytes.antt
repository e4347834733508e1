-- Whole expressions are bytes.
use Rattle.std.proofs.Common.{ℕ, List}
use Rattle.dwarf_types.specs.declared.graph.Node.{Node}
use Rattle.dwarf_types.specs.declared.parts.ExprPart.{ExprPart}
use Rattle.dwarf_types.specs.Expressions.{expression_bytes}
use Rattle.dwarf_types.specs.Spelled.{AreBytes}
use Rattle.dwarf_types.specs.WholeParts.{IsWhole}
use Rattle.written_laws.proofs.ExpressionBytes.{expression_is}

pub whole_bytes : (nodes : List Node) (place : ℕ → ℕ) (expression : List ExprPart) → IsWhole nodes expression → AreBytes (expression_bytes place expression)
whole_bytes nodes place expression is = (expression_is nodes place expression is).are
