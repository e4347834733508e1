-- Texts written one behind the other, up to the length that a spelling may have.
use Rattle.std.specs.Prelude.{◌≡◌, ℕ, ◌≤◌, ◌^◌, Bool, true, List, ◌++◌, length, Option, Some, None, Result, Ok, Err, nat_le, if◌then◌else◌}
use Rattle.std.specs.Option.{ForSome, option_map_or}
use Rattle.dwarf_types.specs.Tree.{ParentsStandBefore}
use Rattle.type_names.specs.declared.spell.SpellError.{SpellError}
use Rattle.type_names.specs.declared.spell.SpellError.TheVariants as errors
use Rattle.type_names.specs.declared.spell.Types.{Types}
use Rattle.type_names.specs.Children.{IsTableFrom}
use Rattle.type_names.specs.Entries.{Text}
use Rattle.type_names.specs.Objects.{ReferToEntries}
use Rattle.type_names.specs.Spell.{spelled_within}
use Rattle.type_names.specs.Tree.{is_marked}

-- a text behind what is written, where it is there and fits
unfoldable pub onto : List ℕ → Option Text → Option (List ℕ)
onto out None = None
onto out (Some text) = if nat_le (length (out ++ text)) 4096 then Some (out ++ text) else None

-- a call wrote what the definition gives, or it can't be written, or memory ran out
abbrev pub Writes : {A : Type 0} → Result A SpellError → List ℕ → Option (List ℕ) → Type 0
Writes (Ok x) new told = told ≡ Some new
Writes (Err errors.Cannot) new told = told ≡ None
Writes (Err errors.NoMemory) new told = Unit {0}

-- what spelling reads is of one object
pub record AreTypes (types : Types) : Type 0 where
  pub few : length types.entries.now ≤ 2 ^ 24
  pub parents : ParentsStandBefore types.entries.now
  pub refer : ReferToEntries types.entries.now
  pub table : IsTableFrom types.entries.now types.children.now.first.items types.children.now.next.items 0
  pub open_len : ForSome types.may_open (λ row. length row.now ≡ length types.entries.now)

-- a spelling may open the types that are marked; all, where there is no row
abbrev pub may_open : Types → ℕ → Bool
may_open types k = option_map_or (λ row. is_marked row.now k) types.may_open true

-- the spelling of a type with at most so many types open
abbrev pub spelled_in : Types → ℕ → ℕ → Option Text
spelled_in types levels = spelled_within levels (may_open types) types.entries.now
