-- Bounds that a cursor in the section and a header keep to.
use Rattle.std.specs.Prelude.{◌≡◌, ℕ, ◌+◌, ◌≤◌, List, length}
use Rattle.ds_base.specs.declared.fault.Part.TheVariants as parts
use Rattle.ds_base.specs.Spot.{Spot}
use Rattle.line_read.specs.declared.header.LineHeader.{LineHeader}

-- it stands in these bytes of `__debug_line`
pub record IsInside (bytes : List ℕ) (s : Spot) : Type 0 where
  pub whole : s.bytes ≡ bytes
  pub part : s.part ≡ parts.Line
  pub before_end : s.place ≤ s.end
  pub in_bytes : s.end ≤ length bytes

-- it tells how many operands the operation of each code below opcode_base has, from 1 on
abbrev pub HasLengths : LineHeader → Type 0
HasLengths header = length header.standard_opcode_lengths + 1 ≡ header.opcode_base
