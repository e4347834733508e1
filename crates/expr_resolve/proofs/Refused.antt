-- Of which kinds the faults of an expression that is understood are.
use Rattle.std.proofs.Common.{ℕ, ◌+◌, List, [], ◌∷◌, Option, Some, None, Result, Ok, Err, refl, arith, Bool}
use Rattle.std.specs.List.{Contains}
use Rattle.std.proofs.lemmas.List.Elements.{Contains-append_left}
use Rattle.ds_base.specs.declared.fault.Fault.{Fault}
use Rattle.ds_base.specs.declared.fault.Kind.{Kind}
use Rattle.ds_base.specs.declared.fault.Kind.TheVariants as kinds
use Rattle.ds_base.specs.declared.fault.Part.{Part}
use Rattle.ds_base.specs.Reading.{◌>>=◌, or_fault, refuse_if}
use Rattle.dwarf_types.specs.declared.expr.Base.{Base}
use Rattle.dwarf_types.specs.declared.expr.Op.{Op}
use Rattle.dwarf_types.specs.declared.expr.PlainOp.{PlainOp}
use Rattle.dwarf_types.specs.LinkedExpressions.{outside}
use Rattle.ds_base.proofs.FaultKinds.{FaultsAre, ok_kinds, err_kinds, bind_kinds, refuse_kinds, either_kinds, found_kinds}
use Rattle.expr_walk.specs.Reading.{walk_of}
use Rattle.expr_walk.proofs.Refused.{walk_faults}
use Rattle.expr_resolve.specs.Context.{Context, Names, names_of}
use Rattle.expr_resolve.specs.Expressions.{base_meant, base_named, branches_over, branches_tried, each_from, expression_of, fault_in, indices_tried, inner_start, inner_tried, is_lost, op_by, op_indexed, op_meant, op_size, op_stored, plain_branches_over, plain_indexed, plain_meant, plain_size, plain_stored, stored_expression_of}

abbrev walks : List Kind
walks = kinds.Truncated ∷ kinds.LebTooWide ∷ kinds.UnknownOp ∷ kinds.OpOutsideProfile ∷ []

abbrev meant : List Kind
meant = kinds.BadOperandType ∷ kinds.BadIndex ∷ kinds.BranchOverRewrite ∷ []

abbrev pub IsOne : Kind → Type 0
IsOne = Contains (kinds.Truncated ∷ kinds.LebTooWide ∷ kinds.UnknownOp ∷ kinds.OpOutsideProfile ∷ kinds.BadOperandType ∷ kinds.BadIndex ∷ kinds.BranchOverRewrite ∷ [])

-- a test before what follows
tried_kinds : {A : Type 0} (b : Bool) (f : Fault) (next : Result A Fault) → IsOne f.kind → FaultsAre IsOne next → FaultsAre IsOne (refuse_if b f >>= λ u. next)
tried_kinds b f next is later = bind_kinds IsOne (refuse_if b f) (λ u. next) (refuse_kinds IsOne b f is) (λ u. later)

no_type : IsOne kinds.BadOperandType
no_type = (4, omega arith, refl)

no_entry : IsOne kinds.BadIndex
no_entry = (5, omega arith, refl)

branches : IsOne kinds.BranchOverRewrite
branches = (6, omega arith, refl)

base_kinds : (s : Names) (place code : ℕ) (base : Option Base) → FaultsAre IsOne (base_meant s place code base)
base_kinds s place code None = ok_kinds IsOne _
base_kinds s place code (Some base) =
    bind_kinds IsOne (or_fault (base_named s code base) (fault_in s kinds.BadOperandType place)) _ (found_kinds IsOne (base_named s code base) (fault_in s kinds.BadOperandType place) no_type) (λ meant. ok_kinds IsOne _)

plain_kinds : (s : Context) (place : ℕ) (op : PlainOp) → FaultsAre IsOne (plain_meant s place op)
plain_kinds s place op = bind_kinds IsOne (base_meant (names_of s) place op.code op.base) _ (base_kinds (names_of s) place op.code op.base) (λ base. ok_kinds IsOne _)

each_kinds : {A B : Type 0} (len : A → ℕ) (meant : ℕ → A → Result B Fault) → ((place : ℕ) (x : A) → FaultsAre IsOne (meant place x)) → (place : ℕ) (xs : List A) → FaultsAre IsOne (each_from len meant place xs)
each_kinds len meant h place [] = ok_kinds IsOne _
each_kinds len meant h place (x ∷ xs) =
    bind_kinds IsOne (meant place x) _ (h place x) (λ here. bind_kinds IsOne (each_from len meant (place + len x) xs) _ (each_kinds len meant h (place + len x) xs) (λ others. ok_kinds IsOne _))

stored_kinds : (s : Names) (place : ℕ) (op : PlainOp) → FaultsAre IsOne (plain_stored s place op)
stored_kinds s place op = bind_kinds IsOne (base_meant s place op.code op.base) _ (base_kinds s place op.code op.base) (λ base. ok_kinds IsOne _)

op_kinds : (meant : ℕ → PlainOp → Result PlainOp Fault) → ((place : ℕ) (op : PlainOp) → FaultsAre IsOne (meant place op)) → (place : ℕ) (op : Op) → FaultsAre IsOne (op_by meant place op)
op_kinds meant each place op =
    bind_kinds IsOne (meant place (outside op)) _ (each place (outside op)) (λ outer.
    bind_kinds IsOne (each_from plain_size meant (inner_start place op) op.inner) _ (each_kinds plain_size meant each (inner_start place op) op.inner) (λ inner. ok_kinds IsOne _))

plain_index_kinds : (s : Names) (place : ℕ) (op : PlainOp) → FaultsAre IsOne (plain_indexed s place op)
plain_index_kinds s place op = refuse_kinds IsOne (is_lost s op.code op.address) (fault_in s kinds.BadIndex place) no_entry

index_kinds : (s : Names) (place : ℕ) (op : Op) → FaultsAre IsOne (op_indexed s place op)
index_kinds s place op =
    bind_kinds IsOne (plain_indexed s place (outside op)) _ (plain_index_kinds s place (outside op)) (λ u.
    bind_kinds IsOne (each_from plain_size (plain_indexed s) (inner_start place op) op.inner) _ (each_kinds plain_size (plain_indexed s) (plain_index_kinds s) (inner_start place op) op.inner) (λ v. ok_kinds IsOne _))

indices_kinds : (s : Names) (first : ℕ) (ops : List Op) → FaultsAre IsOne (indices_tried s first ops)
indices_kinds s first ops = bind_kinds IsOne (each_from op_size (op_indexed s) first ops) _ (each_kinds op_size (op_indexed s) (index_kinds s) first ops) (λ u. ok_kinds IsOne _)

inner_kinds : (s : Names) (place : ℕ) (op : Op) → FaultsAre IsOne (inner_tried s place op)
inner_kinds s place op = either_kinds IsOne (plain_branches_over op.inner) (Err (fault_in s kinds.BranchOverRewrite (inner_start place op))) (Ok tt) (err_kinds IsOne (fault_in s kinds.BranchOverRewrite (inner_start place op)) branches) (ok_kinds IsOne _)

branches_kinds : (s : Names) (first : ℕ) (ops : List Op) → FaultsAre IsOne (branches_tried s first ops)
branches_kinds s first ops =
    tried_kinds (branches_over ops) (fault_in s kinds.BranchOverRewrite first) _ branches
    (bind_kinds IsOne (each_from op_size (inner_tried s) first ops) _ (each_kinds op_size (inner_tried s) (inner_kinds s) first ops) (λ u. ok_kinds IsOne _))

-- what is tried of operations that were cut, whatever each of them then is
tried_all : (s : Names) (meant : ℕ → Op → Result Op Fault) → ((place : ℕ) (op : Op) → FaultsAre IsOne (meant place op)) → (first : ℕ) (ops : List Op)
    → FaultsAre IsOne (each_from op_size meant first ops >>= λ all. indices_tried s first ops >>= λ u. branches_tried s first ops >>= λ v. Ok all)
tried_all s meant each first ops =
    bind_kinds IsOne (each_from op_size meant first ops) _ (each_kinds op_size meant each first ops) (λ all.
    bind_kinds IsOne (indices_tried s first ops) _ (indices_kinds s first ops) (λ u.
    bind_kinds IsOne (branches_tried s first ops) _ (branches_kinds s first ops) (λ v. ok_kinds IsOne _)))

walk_kinds : (bytes : List ℕ) (part : Part) (first version : ℕ) → FaultsAre IsOne (walk_of bytes part first version)
walk_kinds bytes part first version f e = Contains-append_left walks meant f.kind (walk_faults bytes part first version f e)

pub expression_faults : (s : Context) (bytes : List ℕ) (first : ℕ) → FaultsAre IsOne (expression_of s bytes first)
unfolding expression_of
expression_faults s bytes first =
    bind_kinds IsOne (walk_of bytes s.part first s.version) _ (walk_kinds bytes s.part first s.version) (λ ops. tried_all (names_of s) (op_meant s) (op_kinds (plain_meant s) (plain_kinds s)) first ops)

pub stored_expression_faults : (s : Names) (bytes : List ℕ) (first : ℕ) → FaultsAre IsOne (stored_expression_of s bytes first)
unfolding stored_expression_of
stored_expression_faults s bytes first =
    bind_kinds IsOne (walk_of bytes s.part first s.version) _ (walk_kinds bytes s.part first s.version) (λ ops. tried_all s (op_stored s) (op_kinds (plain_stored s) (stored_kinds s)) first ops)
