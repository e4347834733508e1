-- Operations that are put one behind the other, and those that will stand inside the next one.
use Rattle.std.specs.Prelude.{ℕ, ◌≤◌, List, All, length, map, drop}
use Rattle.dwarf_types.specs.declared.expr.Op.{Op}
use Rattle.dwarf_types.specs.declared.expr.PlainOp.{PlainOp}
use Rattle.dwarf_types.specs.declared.sides.OpRow.{OpRow}
use Rattle.dwarf_types.specs.declared.sides.Sides.{Sides}
use Rattle.dwarf_types.specs.Cells.{InnerWithin, OpWithin, inner_of, op_of}

pub record Gathered : Type 0 where
  pub ops : List Op
  pub inner : List PlainOp

-- the operations of rows, and those of the column from a place on
abbrev pub gathered_of : Sides → List OpRow → ℕ → Gathered
gathered_of s rows open_from = record { ops = map (op_of s) rows; inner = map (inner_of s) (drop open_from s.inner.items) }

-- each row lies in its columns
pub record AreRows (s : Sides) (rows : List OpRow) (open_from : ℕ) : Type 0 where
  pub within : All (OpWithin s) rows
  pub few : open_from ≤ length s.inner.items
  pub inside : All (InnerWithin s) (drop open_from s.inner.items)
