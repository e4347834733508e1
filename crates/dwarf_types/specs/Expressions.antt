-- Expressions as bytes (DWARF 4, section 7.7.1). No length depends on where an entry is placed.
use Rattle.std.specs.Prelude.{ℕ, ◌+◌, false, List, ◌∷◌, ◌++◌, length, Option}
use Rattle.std.specs.Option.{option_map_or}
use Rattle.std.specs.List.{sum_by, flat_map}
use Rattle.ds_base.specs.Leb.{leb_digits, uleb, uleb_len_of}
use Rattle.dwarf_types.specs.declared.parts.ExprPart.{ExprPart}
use Rattle.dwarf_types.specs.declared.parts.ExprPart.TheVariants as parts
use Rattle.dwarf_types.specs.declared.parts.PlainPart.{PlainPart}
use Rattle.dwarf_types.specs.declared.parts.PlainPart.TheVariants as plain

-- ---- lengths

-- an operation that names a base type: its code, the operands before, four bytes, the operands behind
abbrev pub typed_len : List ℕ → List ℕ → ℕ
typed_len before after = 1 + (length before + (4 + length after))

abbrev pub plain_part_len : PlainPart → ℕ
plain_part_len (plain.Plain bytes) = length bytes
plain_part_len (plain.Typed code before base after) = typed_len before after

-- the expression inside an entry value
abbrev pub inner_len : List PlainPart → ℕ
inner_len inner = sum_by plain_part_len inner

-- an entry value: its code, the length of the expression inside, that expression
abbrev pub part_len : ExprPart → ℕ
part_len (parts.Plain bytes) = length bytes
part_len (parts.Typed code before base after) = typed_len before after
part_len (parts.Nested code inner) = 1 + (uleb_len_of (inner_len inner) + inner_len inner)

abbrev pub expression_len : List ExprPart → ℕ
expression_len expression = sum_by part_len expression

-- ---- bytes, by the place of each node in its unit

-- a base type: its place in exactly four bytes, 0 for the generic type
abbrev pub base_bytes : (ℕ → ℕ) → Option ℕ → List ℕ
base_bytes place base = leb_digits false 4 (option_map_or place base 0)

abbrev pub typed_bytes : (ℕ → ℕ) → ℕ → List ℕ → Option ℕ → List ℕ → List ℕ
typed_bytes place code before base after = code ∷ (before ++ (base_bytes place base ++ after))

abbrev pub plain_part_bytes : (ℕ → ℕ) → PlainPart → List ℕ
plain_part_bytes place (plain.Plain bytes) = bytes
plain_part_bytes place (plain.Typed code before base after) = typed_bytes place code before base after

abbrev pub inner_bytes : (ℕ → ℕ) → List PlainPart → List ℕ
inner_bytes place inner = flat_map (plain_part_bytes place) inner

abbrev pub part_bytes : (ℕ → ℕ) → ExprPart → List ℕ
part_bytes place (parts.Plain bytes) = bytes
part_bytes place (parts.Typed code before base after) = typed_bytes place code before base after
part_bytes place (parts.Nested code inner) = code ∷ (uleb (inner_len inner) ++ inner_bytes place inner)

abbrev pub expression_bytes : (ℕ → ℕ) → List ExprPart → List ℕ
expression_bytes place expression = flat_map (part_bytes place) expression
