-- Where the entries of an object went, by their numbers, and what names no entries but those of which that is told.
use Rattle.std.specs.Prelude.{ℕ, ◌<◌, List, slice_get, Option, Some}
use Rattle.std.specs.List.{All}
use Rattle.std.specs.Option.{option_and_then}
use Rattle.dwarf_types.specs.declared.entry.Entry.{Entry}
use Rattle.dwarf_types.specs.declared.expr.Base.{Base}
use Rattle.dwarf_types.specs.declared.expr.Base.TheVariants as bases
use Rattle.dwarf_types.specs.declared.expr.Op.{Op}
use Rattle.dwarf_types.specs.declared.graph.Target.{Target}
use Rattle.dwarf_types.specs.declared.value.Value.{Value}
use Rattle.dwarf_types.specs.declared.value.Value.TheVariants as values

abbrev pub image_at : List (Option Target) → ℕ → Option Target
image_at images k = option_and_then (λ image. image) (slice_get images k)

-- ---- among so many entries

-- a base type is one of them
abbrev pub BaseAmong : ℕ → Option Base → Type 0
BaseAmong count (Some (bases.Entry k)) = k < count
BaseAmong count base = Unit {0}

-- each base type that an operation or one inside it names
abbrev pub OpAmong : ℕ → Op → Type 0
OpAmong count op = BaseAmong count op.base × All (λ inner. BaseAmong count inner.base) op.inner

-- each entry that a value names: that to which it refers, and the base types in its expressions
abbrev pub ValueAmong : ℕ → Value → Type 0
ValueAmong count (values.Ref k) = k < count
ValueAmong count (values.Expr ops) = All (OpAmong count) ops
ValueAmong count (values.Locations items) = All (λ item. All (OpAmong count) item.ops) items
ValueAmong count value = Unit {0}

-- each entry that an entry's attributes name
abbrev pub NamesAmong : ℕ → Entry → Type 0
NamesAmong count e = All (λ a. ValueAmong count a.value) e.attrs
