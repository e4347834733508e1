-- An expression cut from its front: the parts so far, and a stretch of bytes that may go on.
use Rattle.std.specs.Prelude.{ℕ, Bool, true, false, List, [], ◌∷◌, ◌++◌, Option, Some, None, if◌then◌else◌, IsSome}
use Rattle.std.specs.Option.{ForSome, option_map_or, unwrap_or}
use Rattle.byteorder.specs.Endian.{little_bytes}
use Rattle.clone_values.specs.declared.cutting.Cutting.{Cutting}
use Rattle.dwarf_types.specs.declared.address.Place.{Place}
use Rattle.dwarf_types.specs.declared.expr.Op.{Op}
use Rattle.dwarf_types.specs.declared.graph.Target.{Target}
use Rattle.dwarf_types.specs.declared.operands.Operands.{Operands}
use Rattle.dwarf_types.specs.declared.operands.Operands.TheVariants as operands
use Rattle.dwarf_types.specs.declared.parts.ExprPart.{ExprPart}
use Rattle.dwarf_types.specs.declared.parts.ExprPart.TheVariants as parts
use Rattle.dwarf_types.specs.declared.parts.PlainPart.{PlainPart}
use Rattle.dwarf_types.specs.declared.parts.PlainPart.TheVariants as plain
use Rattle.dwarf_types.specs.LinkedExpressions.{as_part, outside, plain_part, plain_parts}

-- an entry value
abbrev pub is_nested : Option Operands → Bool
is_nested (Some operands.Expression) = true
is_nested row = false

-- an address field moved, where it is one
abbrev pub HasMoved : Option Place → Type 0
HasMoved address = ForSome address (λ place. IsSome place.linked)

-- an operation byte for byte, but for an address
abbrev pub bytes_moved : ℕ → List ℕ → Option Place → List ℕ
bytes_moved code bytes address = option_map_or (λ place. code ∷ little_bytes 8 (unwrap_or place.linked 0)) address bytes

-- by what a plain part is among the parts
module _ {P : Type 0} (of_plain : PlainPart → P) where
  -- the stretch so far, as a part
  abbrev pub ended : Option (List ℕ) → List P
  ended None = []
  ended (Some bytes) = of_plain (plain.Plain bytes) ∷ []

  -- with a part more that is no stretch
  abbrev pub with_part : P → Cutting P → Cutting P
  with_part part cutting = record { parts = cutting.parts ++ (ended cutting.stretch ++ part ∷ []); stretch = None }

  -- with a plain part more: a stretch goes on
  abbrev pub with_plain : PlainPart → Cutting P → Cutting P
  with_plain (plain.Plain bytes) cutting = record { parts = cutting.parts; stretch = Some (unwrap_or cutting.stretch [] ++ bytes) }
  with_plain part cutting = with_part (of_plain part) cutting

-- with an operation more
abbrev pub with_op : (ℕ → Option Target) → Option Operands → Op → Cutting ExprPart → Cutting ExprPart
with_op image row op cutting =
    if is_nested row then with_part as_part (parts.Nested op.code (plain_parts image op.inner)) cutting
    else with_plain as_part (plain_part image (outside op)) cutting
