-- What an analysis keeps to beside being sound: its entries say what the bytes of an object can say.
use Rattle.std.specs.Prelude.{◌≡◌, ◌⊎◌, ◌<◌, ◌+◌, ◌^◌, ◌==◌, ◌&&◌, not, ℕ, zero, suc, Bool, true, false, IsTrue, List, [], ◌∷◌, length, drop, slice_get, Option, Some, None, is_none, is_some, IfSome, if◌then◌else◌}
use Rattle.std.specs.List.{All, list_any}
use Rattle.std.specs.Option.{option_map_or}
use Rattle.ds_base.specs.DwarfNumbers.{DW_AT_ranges, DW_AT_stmt_list, DW_TAG_compile_unit}
use Rattle.dwarf_types.specs.declared.address.Place.{Place}
use Rattle.dwarf_types.specs.declared.analysis.Analysis.{Analysis}
use Rattle.dwarf_types.specs.declared.entry.Attr.{Attr}
use Rattle.dwarf_types.specs.declared.entry.Entry.{Entry}
use Rattle.dwarf_types.specs.declared.entry.InUnit.{InUnit}
use Rattle.dwarf_types.specs.declared.expr.Base.{Base}
use Rattle.dwarf_types.specs.declared.expr.Base.TheVariants as bases
use Rattle.dwarf_types.specs.declared.expr.Op.{Op}
use Rattle.dwarf_types.specs.declared.expr.PlainOp.{PlainOp}
use Rattle.dwarf_types.specs.declared.lists.Location.{Location}
use Rattle.dwarf_types.specs.declared.operands.Operands.{Operands}
use Rattle.dwarf_types.specs.declared.operands.Operands.TheVariants as operands
use Rattle.dwarf_types.specs.declared.value.Value.{Value}
use Rattle.dwarf_types.specs.declared.value.Value.TheVariants as values
use Rattle.dwarf_types.specs.Expressions.{expression_len}
use Rattle.dwarf_types.specs.LinkedExpressions.{before_base, behind_base, moved_bytes, outside, parts_of}
use Rattle.dwarf_types.specs.Live.{Stands}
use Rattle.dwarf_types.specs.Operations.{operands_of}
use Rattle.dwarf_types.specs.Spelled.{AreBytes, AreTextBytes}
use Rattle.dwarf_types.specs.WellLines.{IsFrame, IsLineTable}
use Rattle.dwarf_types.specs.WellRoots.{is_split}
use Rattle.dwarf_types.specs.WellValues.{FitsBlock, FitsForm, IsSpan, has_locations}
use Rattle.dwarf_types.specs.WholeParts.{IsOperation, SpellsAround}

-- ---- expressions

-- the generic type is named in a conversion alone, whose one operand is a base type
abbrev pub MayName : Operands → Base → Type 0
MayName row bases.Generic = row ≡ operands.Base
MayName row (bases.Entry k) = Unit {0}

-- an operation that names a base type: what stands around the name is as its row of the table says
pub record NamesBase (op : PlainOp) (base : Base) : Type 0 where
  pub row : Operands
  pub known : operands_of op.code ≡ Some row
  pub around : SpellsAround row (before_base (Some row) (drop 1 op.bytes)) (behind_base (Some row) (drop 1 op.bytes))
  pub may : MayName row base

-- one operation, once its address is the moved one
abbrev pub IsSpellableBy : PlainOp → Option Base → Type 0
IsSpellableBy op None = IsOperation (moved_bytes op)
IsSpellableBy op (Some base) = NamesBase op base

abbrev pub IsSpellablePlain : PlainOp → Type 0
IsSpellablePlain op = IsSpellableBy op op.base

-- an entry value with operations inside, or another operation
pub data IsSpellableOp (op : Op) : Type 0 where
  is_entry_value : operands_of op.code ≡ Some operands.Expression → All IsSpellablePlain op.inner → IsSpellableOp op
  is_other : (operands_of op.code ≡ Some operands.Expression → ⊥) → IsSpellablePlain (outside op) → IsSpellableOp op

-- ---- values

-- an item of a location list of a unit of a version; in version 4 its expression is short enough for a length of two bytes, wherever its base types go
pub record IsSpellableLocation (version : ℕ) (item : Location) : Type 0 where
  pub span : IsSpan item.span
  pub ops : All IsSpellableOp item.ops
  pub short : version ≡ 4 → expression_len (parts_of (λ k. None) item.ops) < 2 ^ 16

pub record IsSpellablePlace (place : Place) : Type 0 where
  pub linked : IfSome place.linked (λ n. n < 2 ^ 64)
  pub linked_end : IfSome place.linked_end (λ n. n < 2 ^ 64)

-- the value of an attribute of a name, in a unit of a version; a list stands under an attribute of its kind alone, and constants of 16 bytes stand in units of version 5 alone
abbrev pub IsSpellableValue : ℕ → ℕ → Value → Type 0
IsSpellableValue version name (values.Address place) = IsSpellablePlace place
IsSpellableValue version name (values.Text text) = AreTextBytes text
IsSpellableValue version name (values.Number form bits) = FitsForm form bits
IsSpellableValue version name (values.Wide bytes) = (version ≡ 5) × (length bytes ≡ 16) × AreBytes bytes
IsSpellableValue version name (values.Block form bytes) = FitsBlock form (length bytes) × AreBytes bytes
IsSpellableValue version name (values.Expr ops) = All IsSpellableOp ops
IsSpellableValue version name (values.Ref k) = Unit {0}
IsSpellableValue version name (values.Ranges spans) = (name ≡ DW_AT_ranges) × All IsSpan spans
IsSpellableValue version name (values.Locations items) = IsTrue (has_locations name) × All (IsSpellableLocation version) items
IsSpellableValue version name values.Lines = Unit {0}
IsSpellableValue version name (values.Offset n) = Unit {0}

-- ---- entries

pub record IsSpellableAttr (version : ℕ) (a : Attr) : Type 0 where
  pub some : 0 < a.name
  pub fits : a.name < 2 ^ 16
  pub value : IsSpellableValue version a.name a.value

-- an entry of a unit of a version
pub record IsSpellableEntry (version : ℕ) (e : Entry) : Type 0 where
  pub some : 0 < e.tag
  pub fits : e.tag < 2 ^ 16
  pub attrs : All (IsSpellableAttr version) e.attrs

-- ---- line tables are named by roots

abbrev pub is_lines : Value → Bool
is_lines values.Lines = true
is_lines _ = false

abbrev pub has_lines : List Attr → Bool
has_lines attrs = list_any (λ a. is_lines a.value) attrs

-- by the first stmt_list alone: by nothing before it, and by nothing behind it
abbrev pub names_lines_first : List Attr → Bool
names_lines_first [] = true
names_lines_first (a ∷ attrs) = if a.name == DW_AT_stmt_list then not (has_lines attrs) else (not (is_lines a.value) && names_lines_first attrs)

-- the root of a unit, which stands in no other file
pub record IsSpellableRoot (unit : InUnit) (root : Entry) : Type 0 where
  pub tag : root.tag ≡ DW_TAG_compile_unit
  pub whole : list_any (λ a. is_split a.name) root.attrs ≡ false
  pub stmt_list : names_lines_first root.attrs ≡ true
  pub lines : is_some unit.lines ≡ has_lines root.attrs

pub record IsSpellableUnit (entries : List Entry) (unit : InUnit) : Type 0 where
  pub version : (unit.version ≡ 4) ⊎ (unit.version ≡ 5)
  pub root : (e : Entry) → Stands entries unit.first e → IsSpellableRoot unit e
  pub lines : IfSome unit.lines (IsLineTable unit.version)

-- ---- preorder

-- n parents up from entry k stands entry a
abbrev pub IsUp : List Entry → ℕ → ℕ → ℕ → Type 0
IsUp entries zero k a = a ≡ k
IsUp entries (suc n) k a = (e : Entry) × (p : ℕ) × Stands entries k e × (e.parent ≡ Some p) × IsUp entries n p a

-- the parent of an entry is the entry right before it, or one above that
abbrev pub ArePreorder : List Entry → Type 0
ArePreorder entries = (k p : ℕ) (e : Entry) → Stands entries (k + 1) e → e.parent ≡ Some p → (n : ℕ) × IsUp entries n k p

-- ---- analyses

-- the version of the unit of a number
abbrev pub version_of : List InUnit → ℕ → ℕ
version_of units u = option_map_or (λ unit. unit.version) (slice_get units u) 0

pub record IsSpellable (a : Analysis) : Type 0 where
  pub units : All (IsSpellableUnit a.entries) a.units
  pub entries : All (λ e. IsSpellableEntry (version_of a.units e.unit) e) a.entries
  -- only roots name line tables
  pub no_lines : All (λ e. is_none e.parent ≡ false → has_lines e.attrs ≡ false) a.entries
  pub preorder : ArePreorder a.entries
  pub code : All (λ piece. IsSpan piece.span) a.code
  pub frames : All IsFrame a.frames
