-- Of which kinds the faults of an expression are.
use Rattle.std.proofs.Common.{◌+◌, ℕ, zero, suc, ◌-◌, ◌==◌, List, [], ◌∷◌, ◌++◌, length, Result, Ok, Err, refl, arith}
use Rattle.std.specs.List.{Contains}
use Rattle.ds_base.specs.declared.fault.Fault.{Fault}
use Rattle.ds_base.specs.declared.fault.Kind.{Kind}
use Rattle.ds_base.specs.declared.fault.Kind.TheVariants as kinds
use Rattle.ds_base.specs.declared.fault.Part.{Part}
use Rattle.ds_base.specs.Spot.{Spot, fault_at, start}
use Rattle.ds_base.specs.Reading.{◌>>=◌, or_fault, refuse_if, bytes_at, number_at, uleb_at, sleb_at}
use Rattle.dwarf_types.specs.declared.expr.Op.{Op}
use Rattle.dwarf_types.specs.declared.expr.PlainOp.{PlainOp}
use Rattle.dwarf_types.specs.declared.operands.Operands.{Operands}
use Rattle.dwarf_types.specs.declared.operands.Operands.TheVariants as operands
use Rattle.dwarf_types.specs.declared.operands.Named.{Named}
use Rattle.dwarf_types.specs.declared.operands.Named.TheVariants.{Nothing, Address, BaseType, Index}
use Rattle.dwarf_types.specs.Operations.{operands_of}
use Rattle.ds_base.proofs.FaultKinds.{FaultsAre, ok_kinds, err_kinds, bind_kinds, either_kinds, found_kinds, refuse_kinds, bytes_kinds, number_kinds, uleb_kinds, sleb_kinds}
use Rattle.expr_walk.specs.Reading.{all_at, alone, base_block_at, block_at, code_at, entry_value_from, expression_of, inner_of, is_outside, naming, op_at, op_from, operands_at, placed_from, plain_at, plain_from, walk_of}

abbrev pub IsOne : Kind → Type 0
IsOne = Contains (kinds.Truncated ∷ kinds.LebTooWide ∷ kinds.UnknownOp ∷ kinds.OpOutsideProfile ∷ [])

cut : IsOne kinds.Truncated
cut = (0, omega arith, refl)

wide : IsOne kinds.LebTooWide
wide = (1, omega arith, refl)

unknown : IsOne kinds.UnknownOp
unknown = (2, omega arith, refl)

outside : IsOne kinds.OpOutsideProfile
outside = (3, omega arith, refl)

naming_kinds : {A : Type 0} (name : A → Named) (read : Result (A × Spot) Fault) → FaultsAre IsOne read → FaultsAre IsOne (naming name read)
naming_kinds name read h = bind_kinds IsOne read _ h (λ x. ok_kinds IsOne _)

number : (n : ℕ) (s : Spot) → FaultsAre IsOne (number_at n s)
number n s = number_kinds IsOne n s cut

bytes : (n : ℕ) (s : Spot) → FaultsAre IsOne (bytes_at n s)
bytes n s = bytes_kinds IsOne n s cut

uleb : (s : Spot) → FaultsAre IsOne (uleb_at s)
uleb s = uleb_kinds IsOne s cut wide

block_kinds : (s : Spot) → FaultsAre IsOne (block_at s)
unfolding block_at
block_kinds s = bind_kinds IsOne (uleb_at s) _ (uleb s) (λ n. bytes n.0 n.1)

base_block_kinds : (s : Spot) → FaultsAre IsOne (base_block_at s)
unfolding base_block_at
base_block_kinds s =
    bind_kinds IsOne (uleb_at s) _ (uleb s) (λ base. bind_kinds IsOne (number_at 1 base.1) _ (number 1 base.1) (λ n. bind_kinds IsOne (bytes_at n.0 n.1) _ (bytes n.0 n.1) (λ constant. ok_kinds IsOne _)))

operands_kinds : (row : Operands) (first s : Spot) → FaultsAre IsOne (operands_at row first s)
unfolding operands_at
operands_kinds operands.Empty first s = ok_kinds IsOne _
operands_kinds operands.Address first s = naming_kinds (λ n. Address n) (number_at 8 s) (number 8 s)
operands_kinds (operands.Fixed width) first s = naming_kinds (λ n. Nothing) (bytes_at width s) (bytes width s)
operands_kinds operands.Uleb first s = naming_kinds (λ n. Nothing) (uleb_at s) (uleb s)
operands_kinds operands.Sleb first s = naming_kinds (λ n. Nothing) (sleb_at s) (sleb_kinds IsOne s cut wide)
operands_kinds operands.UlebSleb first s = bind_kinds IsOne (uleb_at s) _ (uleb s) (λ n. naming_kinds (λ z. Nothing) (sleb_at n.1) (sleb_kinds IsOne n.1 cut wide))
operands_kinds operands.UlebUleb first s = bind_kinds IsOne (uleb_at s) _ (uleb s) (λ n. naming_kinds (λ m. Nothing) (uleb_at n.1) (uleb n.1))
operands_kinds operands.Block first s = naming_kinds (λ bytes. Nothing) (block_at s) (block_kinds s)
operands_kinds operands.BaseBlock first s = base_block_kinds s
operands_kinds operands.UlebBase first s = bind_kinds IsOne (uleb_at s) _ (uleb s) (λ n. naming_kinds (λ base. BaseType base) (uleb_at n.1) (uleb n.1))
operands_kinds operands.ByteBase first s = bind_kinds IsOne (number_at 1 s) _ (number 1 s) (λ n. naming_kinds (λ base. BaseType base) (uleb_at n.1) (uleb n.1))
operands_kinds operands.Base first s = naming_kinds (λ base. BaseType base) (uleb_at s) (uleb s)
operands_kinds operands.Index first s = naming_kinds (λ index. Index index) (uleb_at s) (uleb s)
operands_kinds operands.Expression first s = err_kinds IsOne (fault_at first kinds.OpOutsideProfile) outside
operands_kinds operands.Outside first s = err_kinds IsOne (fault_at first kinds.OpOutsideProfile) outside

plain_from_kinds : (first : Spot) (code : ℕ) (row : Operands) (s : Spot) → FaultsAre IsOne (plain_from first code row s)
unfolding plain_from
plain_from_kinds first code row s =
    bind_kinds IsOne (operands_at row first s) _ (operands_kinds row first s) (λ named. ok_kinds IsOne _)

all_kinds : {A : Type 0} (read : Spot → Result (A × Spot) Fault) → ((s : Spot) → FaultsAre IsOne (read s)) → (left : ℕ) (before : List A) (s : Spot) → FaultsAre IsOne (all_at read left before s)
all_kinds read h zero before s = err_kinds IsOne (fault_at s kinds.Truncated) cut
all_kinds read h (suc left) before s =
    either_kinds IsOne (s.end - s.place == 0) (Ok before) _ (ok_kinds IsOne _) (bind_kinds IsOne (read s) _ (h s) (λ op. all_kinds read h left (before ++ op.0 ∷ []) op.1))

placed_kinds : {A : Type 0} (first : ℕ) (r : Result A Fault) → FaultsAre IsOne r → FaultsAre IsOne (placed_from first r)
placed_kinds first (Ok x) h = ok_kinds IsOne _
placed_kinds {A} first (Err f) h = err_kinds {A = A} IsOne (record f { place = first + f.place }) (h f refl)

alone_kinds : (r : Result (PlainOp × Spot) Fault) → FaultsAre IsOne r → FaultsAre {A = Op × Spot} IsOne (r >>= λ op. Ok (alone op.0, op.1))
alone_kinds r h = let f : PlainOp × Spot → Result (Op × Spot) Fault = λ op. Ok (alone op.0, op.1) in bind_kinds IsOne r f h (λ op. ok_kinds IsOne _)

-- ---- operations of a unit of a version

module _ (version : ℕ) where
  code_kinds : (s : Spot) → FaultsAre IsOne (code_at version s)
  unfolding code_at
  code_kinds s =
      bind_kinds IsOne (number_at 1 s) _ (number 1 s) (λ code.
      bind_kinds IsOne (or_fault (operands_of code.0) (fault_at s kinds.UnknownOp)) _ (found_kinds IsOne (operands_of code.0) (fault_at s kinds.UnknownOp) unknown) (λ row.
      bind_kinds IsOne (refuse_if (is_outside version row) (fault_at s kinds.OpOutsideProfile)) _ (refuse_kinds IsOne (is_outside version row) (fault_at s kinds.OpOutsideProfile) outside) (λ u. ok_kinds IsOne _)))

  plain_kinds : (s : Spot) → FaultsAre IsOne (plain_at version s)
  unfolding plain_at
  plain_kinds s = bind_kinds IsOne (code_at version s) _ (code_kinds s) (λ code. plain_from_kinds s code.0.0 code.0.1 code.1)

  inner_kinds : (inside : List ℕ) (part : Part) (first : ℕ) → FaultsAre IsOne (inner_of version inside part first)
  unfolding inner_of
  inner_kinds inside part first = placed_kinds first (expression_of (plain_at version) part inside) (all_kinds (plain_at version) plain_kinds (suc (length inside)) [] (start part inside))

  entry_value_kinds : (part : Part) (first : Spot) (code : ℕ) (s : Spot) → FaultsAre IsOne (entry_value_from version part first code s)
  unfolding entry_value_from
  entry_value_kinds part first code s =
      bind_kinds IsOne (uleb_at s) _ (uleb s) (λ len.
      bind_kinds IsOne (bytes_at len.0 len.1) _ (bytes len.0 len.1) (λ inside.
      bind_kinds IsOne (inner_of version inside.0 part len.1.place) _ (inner_kinds inside.0 part len.1.place) (λ inner. ok_kinds IsOne _)))

  op_from_kinds : (part : Part) (first : Spot) (code : ℕ) (row : Operands) (s : Spot) → FaultsAre IsOne (op_from version part first code row s)
  unfolding op_from
  op_from_kinds part first code operands.Expression s = entry_value_kinds part first code s
  op_from_kinds part first code row s = alone_kinds (plain_from first code row s) (plain_from_kinds first code row s)

  op_kinds : (part : Part) (s : Spot) → FaultsAre IsOne (op_at version part s)
  unfolding op_at
  op_kinds part s = bind_kinds IsOne (code_at version s) _ (code_kinds s) (λ code. op_from_kinds part s code.0.0 code.0.1 code.1)

  walk_kinds : (bytes : List ℕ) (part : Part) (first : ℕ) → FaultsAre IsOne (walk_of bytes part first version)
  unfolding walk_of
  walk_kinds bytes part first = placed_kinds first (expression_of (op_at version part) part bytes) (all_kinds (op_at version part) (op_kinds part) (suc (length bytes)) [] (start part bytes))

pub walk_faults : (bytes : List ℕ) (part : Part) (first version : ℕ) → FaultsAre IsOne (walk_of bytes part first version)
walk_faults bytes part first version = walk_kinds version bytes part first
