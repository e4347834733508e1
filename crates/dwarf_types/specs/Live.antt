-- Which entries of an analysis are live: those to which a chain of needs leads from a root.
use Rattle.std.specs.Prelude.{◌≡◌, ℕ, zero, suc, ◌==◌, ◌||◌, ◌&&◌, not, Bool, true, false, List, [], ◌∷◌, map, slice_get, Option, Some, None, is_some, if◌then◌else◌}
use Rattle.std.specs.Option.{option_and_then}
use Rattle.std.specs.List.{filter_map, find, flat_map, Contains}
use Rattle.ds_base.specs.DwarfNumbers.{DW_AT_const_value, DW_AT_low_pc, DW_AT_sibling, DW_TAG_imported_declaration, DW_TAG_imported_module, DW_TAG_label, DW_TAG_module, DW_TAG_namespace, DW_TAG_subprogram, DW_TAG_variable}
use Rattle.dwarf_types.specs.declared.entry.Entry.{Entry}
use Rattle.dwarf_types.specs.declared.expr.Base.{Base}
use Rattle.dwarf_types.specs.declared.expr.Base.TheVariants as bases
use Rattle.dwarf_types.specs.declared.expr.Op.{Op}
use Rattle.dwarf_types.specs.declared.value.Value.{Value}
use Rattle.dwarf_types.specs.declared.value.Value.TheVariants as values
use Rattle.dwarf_types.specs.Moves.{address_moved, has_address, location_moves, moves, value_of}

-- entry k is this one
abbrev pub Stands : List Entry → ℕ → Entry → Type 0
Stands entries k e = slice_get entries k ≡ Some e

-- ---- roots

-- its low_pc moved; that of a call site tells where the call returns to, and moves as an end
abbrev pub low_pc_moves : Entry → Bool
low_pc_moves e = is_some (option_and_then (address_moved e.tag) (find (λ a. a.name == DW_AT_low_pc) e.attrs))

-- n parents up from entry k stands this one
abbrev pub IsAbove : List Entry → ℕ → ℕ → Entry → Type 0
IsAbove entries zero k a = Stands entries k a
IsAbove entries (suc n) k a = (e : Entry) × (p : ℕ) × Stands entries k e × (e.parent ≡ Some p) × IsAbove entries n p a

-- a subprogram stands above entry k
abbrev pub IsInSubprogram : List Entry → ℕ → Type 0
IsInSubprogram entries k = (n : ℕ) × (a : Entry) × IsAbove entries (suc n) k a × (a.tag ≡ DW_TAG_subprogram)

-- the three kinds of root: linked code, linked data, and a constant outside of functions
pub data IsRoot (entries : List Entry) (k : ℕ) : Type 0 where
  is_code : (e : Entry) → Stands entries k e → (e.tag == DW_TAG_subprogram || e.tag == DW_TAG_label) ≡ true → low_pc_moves e ≡ true → IsRoot entries k
  is_data : (e : Entry) → Stands entries k e → e.tag ≡ DW_TAG_variable → location_moves e ≡ true → IsRoot entries k
  is_constant : (e : Entry) → Stands entries k e → e.tag ≡ DW_TAG_variable → is_some (value_of DW_AT_const_value e) ≡ true → (IsInSubprogram entries k → ⊥) → IsRoot entries k

-- ---- needs

abbrev pub target_in : Value → Option ℕ
target_in (values.Ref k) = Some k
target_in _ = None

-- the entries to which its references lead; that to its sibling does not count
abbrev pub targets_of : Entry → List ℕ
targets_of e = filter_map (λ a. if a.name == DW_AT_sibling then None else target_in a.value) e.attrs

abbrev pub base_in : Option Base → Option ℕ
base_in (Some (bases.Entry k)) = Some k
base_in _ = None

-- the base types that an operation and the operations inside it name
abbrev pub op_bases : Op → List ℕ
op_bases op = filter_map base_in (op.base ∷ map (λ inner. inner.base) op.inner)

-- the operations of an expression, or of all expressions of a location list
abbrev pub operations_of : Value → List Op
operations_of (values.Expr ops) = ops
operations_of (values.Locations items) = flat_map (λ item. item.ops) items
operations_of _ = []

-- the base types that its expressions name
abbrev pub bases_of : Entry → List ℕ
bases_of e = flat_map (λ a. flat_map op_bases (operations_of a.value)) e.attrs

-- a live entry keeps its children, where it is no unit, namespace or module
abbrev pub keeps_children : Entry → Bool
keeps_children e = is_some e.parent && not (e.tag == DW_TAG_namespace || e.tag == DW_TAG_module)

-- it was not linked: it has an address, and none of its addresses moved
abbrev pub is_left_behind : Entry → Bool
is_left_behind e = has_address e && not (moves e)

abbrev pub is_import : Entry → Bool
is_import e = e.tag == DW_TAG_imported_declaration || e.tag == DW_TAG_imported_module

-- entry k, where it is live, needs entry j
pub data Needs (entries : List Entry) (k j : ℕ) : Type 0 where
  its_parent : (e : Entry) → Stands entries k e → e.parent ≡ Some j → Needs entries k j
  its_target : (e : Entry) → Stands entries k e → Contains (targets_of e) j → Needs entries k j
  its_base : (e : Entry) → Stands entries k e → Contains (bases_of e) j → Needs entries k j
  its_child : (e c : Entry) → Stands entries k e → Stands entries j c → c.parent ≡ Some k → keeps_children e ≡ true → is_left_behind c ≡ false → Needs entries k j
  its_import : (c : Entry) → Stands entries j c → c.parent ≡ Some k → is_import c ≡ true → Needs entries k j

-- a chain of n needs leads from a root to entry k
abbrev pub IsReachedIn : List Entry → ℕ → ℕ → Type 0
IsReachedIn entries zero k = IsRoot entries k
IsReachedIn entries (suc n) k = (j : ℕ) × IsReachedIn entries n j × Needs entries j k

-- some chain does
abbrev pub IsLive : List Entry → ℕ → Type 0
IsLive entries k = (n : ℕ) × IsReachedIn entries n k
