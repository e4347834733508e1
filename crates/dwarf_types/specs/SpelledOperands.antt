-- How the operands of an operation are spelled (DWARF 4, section 7.7.1), whoever reads them.
use Rattle.std.specs.Prelude.{◌≡◌, ℕ, List, []}
use Rattle.dwarf_types.specs.Spelled.{Followed, Made, IsUleb, IsSleb, IsNumber, IsCopy}
use Rattle.dwarf_types.specs.declared.operands.Named.{Named}
use Rattle.dwarf_types.specs.declared.operands.Named.TheVariants.{Nothing, Address, BaseType, Index}
use Rattle.dwarf_types.specs.declared.operands.Operands.{Operands}
use Rattle.dwarf_types.specs.declared.operands.Operands.TheVariants as operands

-- a length and so many bytes
abbrev pub SpellsBlock : List ℕ → List ℕ → Type 0
SpellsBlock bytes block = Followed IsUleb (λ n. IsCopy n) bytes block

-- the operands of a row of the table, and what they name
abbrev pub SpellsOperands : Operands → List ℕ → Named → Type 0
SpellsOperands operands.Empty bytes named = (bytes ≡ []) × (named ≡ Nothing)
SpellsOperands operands.Address bytes named = Made (λ n. Address n) (IsNumber 8) bytes named
SpellsOperands (operands.Fixed width) bytes named = Made (λ number. Nothing) (IsCopy width) bytes named
SpellsOperands operands.Uleb bytes named = Made (λ n. Nothing) IsUleb bytes named
SpellsOperands operands.Sleb bytes named = Made (λ z. Nothing) IsSleb bytes named
SpellsOperands operands.UlebSleb bytes named = Followed IsUleb (λ n. Made (λ z. Nothing) IsSleb) bytes named
SpellsOperands operands.UlebUleb bytes named = Followed IsUleb (λ n. Made (λ m. Nothing) IsUleb) bytes named
SpellsOperands operands.Block bytes named = Made (λ block. Nothing) SpellsBlock bytes named
SpellsOperands operands.BaseBlock bytes named = Followed IsUleb (λ base. Followed (IsNumber 1) (λ n. Made (λ constant. BaseType base) (IsCopy n))) bytes named
SpellsOperands operands.UlebBase bytes named = Followed IsUleb (λ n. Made (λ base. BaseType base) IsUleb) bytes named
SpellsOperands operands.ByteBase bytes named = Followed (IsNumber 1) (λ n. Made (λ base. BaseType base) IsUleb) bytes named
SpellsOperands operands.Base bytes named = Made (λ base. BaseType base) IsUleb bytes named
SpellsOperands operands.Index bytes named = Made (λ index. Index index) IsUleb bytes named
SpellsOperands operands.Expression bytes named = ⊥
SpellsOperands operands.Outside bytes named = ⊥
