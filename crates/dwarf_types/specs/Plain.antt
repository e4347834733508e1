-- Values by what giving them a meaning has to look at.
use Rattle.std.specs.Prelude.{Bool, false, true}
use Rattle.dwarf_types.specs.declared.sides.Kind.{Kind}
use Rattle.dwarf_types.specs.declared.sides.Kind.TheVariants as kinds
use Rattle.dwarf_types.specs.declared.value.Value.{Value}
use Rattle.dwarf_types.specs.declared.value.Value.TheVariants as values

-- a text or a number, which mean the same wherever they stand
abbrev pub is_plain : Value → Bool
is_plain (values.Text text) = true
is_plain (values.Number form bits) = true
is_plain (values.Wide bytes) = true
is_plain value = false

-- an offset as it was read
abbrev pub is_offset : Value → Bool
is_offset (values.Offset n) = true
is_offset value = false

-- ---- the same of cells, by their kinds

abbrev pub holds_plain : Kind → Bool
holds_plain kinds.Small = true
holds_plain kinds.Large = true
holds_plain kinds.Text = true
holds_plain kinds.OwnText = true
holds_plain kinds.Wide = true
holds_plain kind = false

abbrev pub holds_offset : Kind → Bool
holds_offset kinds.Offset = true
holds_offset kinds.LargeOffset = true
holds_offset kind = false

abbrev pub holds_address : Kind → Bool
holds_address kinds.Stored = true
holds_address kinds.Address = true
holds_address kind = false
