-- An operation with the address and the base type that its operands mean: what it is once it is written, and how long.
use Rattle.std.proofs.Common.{◌≡◌, ℕ, zero, suc, ◌^◌, ◌<◌, ◌%◌, ◌/◌, List, [], ◌∷◌, ◌++◌, drop, Option, Some, None, refl, sym, ap, subst, ◌∙◌, arith, inl, inr}
use Rattle.std.specs.Prelude.{◌⊎◌}
use Rattle.std.specs.Option.{option_map_or, unwrap_or}
use Rattle.std.specs.Int.{byte_at, bytes_low_first}
use Rattle.byteorder.specs.Endian.{little_bytes}
use Rattle.dwarf_types.specs.declared.address.Place.{Place}
use Rattle.dwarf_types.specs.declared.expr.Base.{Base}
use Rattle.dwarf_types.specs.declared.expr.PlainOp.{PlainOp}
use Rattle.dwarf_types.specs.declared.operands.Named.{Named}
use Rattle.dwarf_types.specs.declared.operands.Named.TheVariants.{Nothing, Address, BaseType, Index}
use Rattle.dwarf_types.specs.declared.operands.Operands.{Operands}
use Rattle.dwarf_types.specs.declared.operands.Operands.TheVariants as operands
use Rattle.dwarf_types.specs.Spelled.{AreBytes, InTurn, IsNumber}
use Rattle.dwarf_types.specs.SpelledOperands.{SpellsOperands}
use Rattle.dwarf_types.specs.LinkedExpressions.{before_base, behind_base}
use Rattle.dwarf_types.specs.Operations.{operands_of}
use Rattle.dwarf_types.specs.WholeParts.{IsOperation, StandsAlone, SpellsAround}
use Rattle.linked_laws.specs.Spellable.{IsSpellableBy, IsSpellablePlain, MayName, NamesBase}
use Rattle.object_laws.proofs.ExpressionBases.{around}

-- an operand in eight bytes
abbrev pub IsEight : Operands → Type 0
IsEight row = (row ≡ operands.Address) ⊎ (row ≡ operands.Fixed 8)

-- the linked address that is written
abbrev pub linked_number : Place → ℕ
linked_number place = unwrap_or place.linked 0

abbrev pub AddressFits : Operands → Option Place → Type 0
AddressFits row None = Unit {0}
AddressFits row (Some place) = IsEight row × (linked_number place < 2 ^ 64)

-- a base type is told where one is named, and there alone; and no entry of a table of addresses is named
abbrev pub BaseFits : Operands → Named → Option Base → Type 0
BaseFits row (BaseType n) (Some base) = MayName row base
BaseFits row (BaseType n) None = ⊥
BaseFits row (Index n) base = ⊥
BaseFits row _ (Some base) = ⊥
BaseFits row _ None = Unit {0}

pub record IsMeant (op : PlainOp) : Type 0 where
  pub row : Operands
  pub known : operands_of op.code ≡ Some row
  pub named : Named
  pub spells : InTurn (λ bytes. IsNumber 1 bytes op.code) (λ bytes. SpellsOperands row bytes named) op.bytes
  pub address : AddressFits row op.address
  pub base : BaseFits row named op.base

-- ---- the code

one_byte : (code : ℕ) → code < 256 ^ 1 → little_bytes 1 code ≡ code ∷ []
one_byte code lt = ap (λ (n : ℕ). n ∷ []) (omega (arith, lt))

-- ---- eight bytes

small : (m : ℕ) → m % 256 < 256
small m = omega arith

byte_small : (i n : ℕ) → byte_at i n < 256
byte_small zero n = small n
byte_small (suc i) n = small (n / 256 ^ suc i)

bytes_sound : (i k n : ℕ) → AreBytes (bytes_low_first i k n)
bytes_sound i zero n = tt
bytes_sound i (suc k) n = (byte_small i n, bytes_sound (suc i) k n)

eight_spells : (row : Operands) (n : ℕ) → IsEight row → n < 2 ^ 64 → (named : Named) × SpellsOperands row (little_bytes 8 n) named × StandsAlone named
eight_spells row n (inl is) lt = subst (λ (r : Operands). (named : Named) × SpellsOperands r (little_bytes 8 n) named × StandsAlone named) (sym is)
    (Address n, record { of = n; spells = record { is = refl; fits = omega (arith, lt) }; is = refl }, tt)
eight_spells row n (inr is) lt = subst (λ (r : Operands). (named : Named) × SpellsOperands r (little_bytes 8 n) named × StandsAlone named) (sym is)
    (Nothing, record { of = little_bytes 8 n; spells = record { is = refl; sound = bytes_sound 0 8 n; len = refl }; is = refl }, tt)

operation_with : (code : ℕ) (row : Operands) (n : ℕ) → operands_of code ≡ Some row → code < 256 ^ 1 → IsEight row → n < 2 ^ 64 → IsOperation (code ∷ little_bytes 8 n)
operation_with code row n known fits eight lt =
    let e = eight_spells row n eight lt in
    record {
      code = code;
      row = row;
      known = known;
      named = e.0;
      spells = record { front = code ∷ []; back = little_bytes 8 n; is = refl; first = record { is = sym (one_byte code fits); fits = fits }; second = e.1 };
      alone = e.2;
    }

-- ---- operations that name no base type

moved_operation : (op : PlainOp) (address : Option Place) (m : IsMeant op) → AddressFits m.row address → StandsAlone m.named
    → IsOperation (option_map_or (λ place. op.code ∷ little_bytes 8 (linked_number place)) address op.bytes)
moved_operation op None m fits none = record { code = op.code; row = m.row; known = m.known; named = m.named; spells = m.spells; alone = none }
moved_operation op (Some place) m fits none = operation_with op.code m.row (linked_number place) m.known m.spells.first.fits fits.0 fits.1

-- ---- operations that name one

-- the bytes behind the code
pub behind_code : (bytes front back : List ℕ) (code : ℕ) → bytes ≡ front ++ back → IsNumber 1 front code → bytes ≡ code ∷ back
behind_code bytes front back code is number = is ∙ ap (λ (xs : List ℕ). xs ++ back) (number.is ∙ one_byte code number.fits)

names_base : (op : PlainOp) (base : Base) (n : ℕ) (row : Operands) → operands_of op.code ≡ Some row → InTurn (λ bytes. IsNumber 1 bytes op.code) (λ bytes. SpellsOperands row bytes (BaseType n)) op.bytes → MayName row base → NamesBase op base
names_base op base n row known spells may =
    let is : drop 1 op.bytes ≡ spells.back = ap (drop 1) (behind_code op.bytes spells.front spells.back op.code spells.is spells.first) in
    record {
      row = row;
      known = known;
      around = subst (λ (xs : List ℕ). SpellsAround row (before_base (Some row) xs) (behind_base (Some row) xs)) (sym is) (around row spells.back n spells.second);
      may = may;
    }

given_by : (op : PlainOp) (m : IsMeant op) (named : Named) (base : Option Base) → m.named ≡ named → BaseFits m.row named base → IsSpellableBy op base
given_by op m Nothing None is fits = moved_operation op op.address m m.address (subst StandsAlone (sym is) tt)
given_by op m (Address a) None is fits = moved_operation op op.address m m.address (subst StandsAlone (sym is) tt)
given_by op m (BaseType n) None is fits = absurd fits
given_by op m (Index n) None is fits = absurd fits
given_by op m Nothing (Some base) is fits = absurd fits
given_by op m (Address a) (Some base) is fits = absurd fits
given_by op m (Index n) (Some base) is fits = absurd fits
given_by op m (BaseType n) (Some base) is fits =
    names_base op base n m.row m.known (subst (λ (named : Named). InTurn (λ bytes. IsNumber 1 bytes op.code) (λ bytes. SpellsOperands m.row bytes named) op.bytes) is m.spells) fits

pub plain_given : (op : PlainOp) → IsMeant op → IsSpellablePlain op
plain_given op m = given_by op m m.named op.base refl m.base
