use Rattle.std.proofs.Common.{◌≡◌, ◌++◌, ℕ, drop}
use Rattle.std.specs.List.{flat_map}
use Rattle.dwarf_types.specs.Expressions.{plain_part_bytes}
use Rattle.patches.specs.declared.hole.Own.TheVariants as own
use Rattle.patches.specs.Filling.{Filling, filled}
use Rattle.unit_draft.proofs.expression.append_inner.Given as goal

abbrev pub invariant-loop-part : goal.invariant-loop-part
invariant-loop-part l = (f : Filling) (place : ℕ → ℕ) → ((k : ℕ) → f.own (own.Base k) ≡ place k)
    → filled l.out f ++ flat_map (plain_part_bytes place) (drop l.part-index l.parts) ≡ filled l.fn.out f ++ flat_map (plain_part_bytes place) l.parts
