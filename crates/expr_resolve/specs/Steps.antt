-- What the calls of this crate ask of each other, a sound object and operations that hold all their bytes, and what they tell each other.
use Rattle.std.specs.Prelude.{◌≡◌, ◌≤◌, ◌<◌, ◌^◌, ◌==◌, ◌||◌, ℕ, true, List, [], ◌∷◌, ◌++◌, length, None, Result, Ok}
use Rattle.std.specs.List.{All, sum_by}
use Rattle.ds_base.specs.DwarfNumbers.{DW_OP_addr, DW_OP_const8u}
use Rattle.ds_base.specs.declared.fault.Fault.{Fault}
use Rattle.ds_base.specs.declared.fault.Kind.TheVariants.{BranchOverRewrite}
use Rattle.ds_base.specs.Reading.{◌>>=◌, refuse_if}
use Rattle.dwarf_types.specs.declared.expr.Op.{Op}
use Rattle.dwarf_types.specs.declared.expr.PlainOp.{PlainOp}
use Rattle.dwarf_types.specs.Gathered.{Gathered}
use Rattle.expr_resolve.specs.declared.operand.Meaning.{Meaning}
use Rattle.expr_resolve.specs.declared.operand.Meaning.TheVariants as meanings
use Rattle.macho_read.specs.Sound.{IsSound as IsSoundImage}
use Rattle.reloc_table.specs.Sound.{IsSound as AreSoundRelocs}
use Rattle.addr_map.specs.Sound.{IsSound as IsSoundMap}
use Rattle.expr_resolve.specs.Context.{Context, Names, AreInOrder}
use Rattle.expr_resolve.specs.Expressions.{branches_over, each_from, fault_in, inner_tried, op_size, plain_indexed, plain_size}

-- all by which an operand is understood is sound
pub record IsSoundContext (c : Context) : Type 0 where
  pub image : IsSoundImage c.image
  pub relocs : AreSoundRelocs c.image c.relocs
  pub map : IsSoundMap c.map
  pub order : AreInOrder c.bases
  pub addresses : AreSoundRelocs c.image c.addresses
  pub small : length c.sections.addr < 2 ^ 32

-- an operation as its code and bytes alone
abbrev pub bare : ℕ → List ℕ → PlainOp
bare code bytes = record { code = code; bytes = bytes; address = None; base = None }

-- behind a code whose operand may be an address stand eight bytes
abbrev pub HoldsOperand : ℕ → List ℕ → Type 0
HoldsOperand code bytes = (code == DW_OP_addr || code == DW_OP_const8u) ≡ true → 9 ≤ length bytes

abbrev pub IsPlainCut : PlainOp → Type 0
IsPlainCut op = HoldsOperand op.code op.bytes

-- the operations inside are a part of its bytes
pub record IsCut (op : Op) : Type 0 where
  pub operand : HoldsOperand op.code op.bytes
  pub inner : All IsPlainCut op.inner
  pub inside : sum_by plain_size op.inner ≤ length op.bytes

-- an operation that no entry value holds, as what it becomes
abbrev pub with_meaning : PlainOp → Meaning → PlainOp
with_meaning op (meanings.Stands address base) = record op { address = address; base = base }
with_meaning op (meanings.Holds code bytes address base) = record { code = code; bytes = bytes; address = address; base = base }

-- an operation that is understood, behind others
abbrev pub put_behind : List Op → Result Op Fault → Result Gathered Fault
put_behind ops read = read >>= λ op. Ok (record { ops = ops ++ op ∷ []; inner = [] })

-- the entries that operations inside name
abbrev pub inner_indexed : Names → ℕ → List PlainOp → Result (Unit {0}) Fault
inner_indexed s first ops = each_from plain_size (plain_indexed s) first ops >>= λ _. Ok tt

-- the two parts of trying branches: the outermost expression, and then those inside its operations
abbrev pub outermost_tried : Names → ℕ → List Op → Result (Unit {0}) Fault
outermost_tried s first ops = refuse_if (branches_over ops) (fault_in s BranchOverRewrite first)

abbrev pub all_inside_tried : Names → ℕ → List Op → Result (Unit {0}) Fault
all_inside_tried s first ops = each_from op_size (inner_tried s) first ops >>= λ _. Ok tt
