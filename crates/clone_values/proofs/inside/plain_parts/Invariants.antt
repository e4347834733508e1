use Rattle.std.proofs.Common.{◌≡◌, drop}
use Rattle.dwarf_types.specs.LinkedExpressions.{joined_plain, plain_parts}
use Rattle.clone_values.specs.Images.{image_at}
use Rattle.clone_values.proofs.Stretches.{whole}
use Rattle.clone_values.proofs.inside.plain_parts.Given as goal

-- the parts so far and those of what is left make the whole
abbrev pub invariant-loop-k : goal.invariant-loop-k
invariant-loop-k l = whole (λ part. part) joined_plain l.cutting (plain_parts (image_at l.images) (drop l.k l.ops)) ≡ plain_parts (image_at l.images) l.ops
