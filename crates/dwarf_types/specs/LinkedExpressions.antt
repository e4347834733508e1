-- An expression of an object as it is written: its operations cut into parts, with moved addresses.
use Rattle.std.specs.Prelude.{ℕ, List, [], ◌∷◌, ◌++◌, length, take, drop, Option, Some, None, nat_lt, if◌then◌else◌}
use Rattle.std.specs.Option.{option_map, option_map_or, unwrap_or}
use Rattle.byteorder.specs.Endian.{little_bytes}
use Rattle.dwarf_types.specs.declared.expr.Base.{Base}
use Rattle.dwarf_types.specs.declared.expr.Base.TheVariants as bases
use Rattle.dwarf_types.specs.declared.expr.Op.{Op}
use Rattle.dwarf_types.specs.declared.expr.PlainOp.{PlainOp}
use Rattle.dwarf_types.specs.declared.graph.Target.{Target}
use Rattle.dwarf_types.specs.declared.operands.Operands.{Operands}
use Rattle.dwarf_types.specs.declared.operands.Operands.TheVariants as operands
use Rattle.dwarf_types.specs.declared.parts.ExprPart.{ExprPart}
use Rattle.dwarf_types.specs.declared.parts.ExprPart.TheVariants as parts
use Rattle.dwarf_types.specs.declared.parts.PlainPart.{PlainPart}
use Rattle.dwarf_types.specs.declared.parts.PlainPart.TheVariants as plain
use Rattle.dwarf_types.specs.Operations.{operands_of}

-- the LEB number at the front of some bytes
abbrev pub front_leb : List ℕ → List ℕ
front_leb [] = []
front_leb (b ∷ bytes) = if nat_lt b 128 then b ∷ [] else b ∷ front_leb bytes

-- of the bytes behind an operation's code, those before the base type that it names, and those behind it
abbrev pub before_base : Option Operands → List ℕ → List ℕ
before_base (Some operands.UlebBase) bytes = front_leb bytes
before_base (Some operands.ByteBase) bytes = take 1 bytes
before_base row bytes = []

abbrev pub behind_base : Option Operands → List ℕ → List ℕ
behind_base (Some operands.BaseBlock) bytes = drop (length (front_leb bytes)) bytes
behind_base row bytes = []

-- an operation byte for byte, but for an address, which is the moved one
abbrev pub moved_bytes : PlainOp → List ℕ
moved_bytes op = option_map_or (λ place. op.code ∷ little_bytes 8 (unwrap_or place.linked 0)) op.address op.bytes

-- ---- by the image of each entry of the object

-- the node of a base type, which is one of the unit; none for the generic type, and none of an entry without a node
abbrev pub base_node : (ℕ → Option Target) → Base → Option ℕ
base_node image bases.Generic = None
base_node image (bases.Entry k) = option_map (λ target. target.node) (image k)

abbrev pub plain_part : (ℕ → Option Target) → PlainOp → PlainPart
plain_part image op =
    option_map_or (λ base. plain.Typed op.code (before_base (operands_of op.code) (drop 1 op.bytes)) (base_node image base) (behind_base (operands_of op.code) (drop 1 op.bytes))) op.base
    (plain.Plain (moved_bytes op))

-- two stretches of bytes are one
abbrev pub joined_plain : PlainPart → List PlainPart → List PlainPart
joined_plain (plain.Plain front) (plain.Plain back ∷ more) = plain.Plain (front ++ back) ∷ more
joined_plain part more = part ∷ more

abbrev pub plain_parts : (ℕ → Option Target) → List PlainOp → List PlainPart
plain_parts image [] = []
plain_parts image (op ∷ ops) = joined_plain (plain_part image op) (plain_parts image ops)

abbrev pub as_part : PlainPart → ExprPart
as_part (plain.Plain bytes) = parts.Plain bytes
as_part (plain.Typed code before base after) = parts.Typed code before base after

-- an operation without those inside
abbrev pub outside : Op → PlainOp
outside op = record { code = op.code; bytes = op.bytes; address = op.address; base = op.base }

-- an entry value is its code and the expression inside
abbrev pub op_part : (ℕ → Option Target) → Option Operands → Op → ExprPart
op_part image (Some operands.Expression) op = parts.Nested op.code (plain_parts image op.inner)
op_part image row op = as_part (plain_part image (outside op))

abbrev pub joined : ExprPart → List ExprPart → List ExprPart
joined (parts.Plain front) (parts.Plain back ∷ more) = parts.Plain (front ++ back) ∷ more
joined part more = part ∷ more

-- the expression, with stretches of bytes as long as can be
abbrev pub parts_of : (ℕ → Option Target) → List Op → List ExprPart
parts_of image [] = []
parts_of image (op ∷ ops) = joined (op_part image (operands_of op.code) op) (parts_of image ops)
