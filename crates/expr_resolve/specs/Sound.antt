-- What the operations of every expression keep to that was understood.
use Rattle.std.specs.Prelude.{◌≡◌, ℕ, List}
use Rattle.std.specs.List.{Contains, flat_map}
use Rattle.dwarf_types.specs.declared.expr.Op.{Op}
use Rattle.dwarf_types.specs.Live.{op_bases}
use Rattle.expr_resolve.specs.declared.context.BaseType.{BaseType}
use Rattle.expr_resolve.specs.Context.{Names}

-- a base type of the expression's unit has this entry
pub record IsKnown (c : Names) (entry : ℕ) : Type 0 where
  pub base : BaseType
  pub known : Contains c.bases base
  pub its_entry : base.entry ≡ entry
  pub its_unit : base.unit ≡ c.unit

-- each base type that the operations name is one of the unit
abbrev pub NameKnown : Names → List Op → Type 0
NameKnown c ops = (entry : ℕ) → Contains (flat_map op_bases ops) entry → IsKnown c entry
