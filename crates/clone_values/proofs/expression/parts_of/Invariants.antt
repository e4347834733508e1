use Rattle.std.proofs.Common.{◌≡◌, drop}
use Rattle.dwarf_types.specs.LinkedExpressions.{as_part, joined, parts_of}
use Rattle.clone_values.specs.Images.{image_at}
use Rattle.clone_values.proofs.Stretches.{whole}
use Rattle.clone_values.proofs.expression.parts_of.Given as goal

-- the parts so far and those of what is left make the whole
abbrev pub invariant-loop-k : goal.invariant-loop-k
invariant-loop-k l = whole as_part joined l.cutting (parts_of (image_at l.images) (drop l.k l.ops)) ≡ parts_of (image_at l.images) l.ops
