-- The entries of a unit (DWARF 4, sections 2.3 and 7.5.2; DWARF 5, sections 2.3 and 7.5.2), as they are read from the left: each with its parent, behind those before.
use Rattle.std.specs.Prelude.{ℕ, zero, suc, ◌-◌, ◌^◌, ◌==◌, ◌&&◌, ◌||◌, Bool, true, not, List, [], ◌∷◌, ◌++◌, length, take, slice_get, Option, None, is_none, Result, Ok, Err, nat_lt, if◌then◌else◌}
use Rattle.std.specs.List.{find, list_any}
use Rattle.ds_base.specs.DwarfNumbers.{DW_TAG_compile_unit, DW_AT_dwo_name, DW_AT_GNU_dwo_name}
use Rattle.ds_base.specs.declared.fault.Fault.{Fault}
use Rattle.ds_base.specs.declared.fault.Kind.TheVariants as kinds
use Rattle.ds_base.specs.Spot.{Spot, fault_at}
use Rattle.ds_base.specs.Reading.{◌>>=◌, refuse_if, or_fault, uleb_at}
use Rattle.dwarf_types.specs.declared.abbrev.Abbrev.{Abbrev}
use Rattle.dwarf_types.specs.declared.abbrev.Field.{Field}
use Rattle.dwarf_types.specs.declared.entry.RawEntry.{RawEntry}
use Rattle.dwarf_types.specs.SectionBytes.{SectionBytes}
use Rattle.index_tables.specs.declared.bases.Bases.{Bases}
use Rattle.index_tables.specs.Bases.{bases_in}
use Rattle.unit_tree.specs.declared.attribute.UnitContext.{UnitContext}
use Rattle.unit_tree.specs.declared.reference.Reference.{Reference}
use Rattle.unit_tree.specs.Attribute.{Described, attrs_at}

-- what was read of an object: its entries, and the references of their values
pub record Parsed : Type 0 where
  pub entries : List RawEntry
  pub references : List Reference

-- the declaration that has a code
abbrev pub declared_as : ℕ → List Abbrev → Option Abbrev
declared_as code table = find (λ a. a.code == code) table

-- no more entries may follow
abbrev pub is_full : Parsed → Bool
is_full parsed = not (nat_lt (length parsed.entries) (2 ^ 24))

-- an entry behind those before, and the references of its values
abbrev pub with_entry : UnitContext → Option ℕ → ℕ → Abbrev → Parsed → Described → Parsed
with_entry context parent place declared before described =
    record { entries = before.entries ++ record { parent = parent; unit = context.unit; place = place; tag = declared.tag; attrs = described.0 } ∷ []; references = described.1 }

-- the entry that begins at a place and has a declaration, whose values stand here
unfoldable pub entry_at : SectionBytes → UnitContext → Option ℕ → ℕ → Abbrev → Parsed → Spot → Result (Parsed × Spot) Fault
entry_at sections context parent place declared before s = do
  read ← attrs_at sections context (is_none parent) declared.fields ([], before.references) s
  Ok (with_entry context parent place declared before read.0, read.1)

abbrev pub is_dwo_name : Field → Bool
is_dwo_name field = field.name == DW_AT_dwo_name || field.name == DW_AT_GNU_dwo_name

-- the unit's other part stands in a file of its own
abbrev pub is_split : Abbrev → Bool
is_split declared = list_any is_dwo_name declared.fields

-- the declaration of the first entry of the unit that begins at start
unfoldable pub first_at : Spot → List Abbrev → Parsed → Spot → Result (Abbrev × Spot) Fault
first_at start table before s = do
  code ← uleb_at s
  _ ← refuse_if (code.0 == 0) (fault_at start kinds.BadUnit)
  declared ← or_fault (declared_as code.0 table) (fault_at s kinds.UnknownCode)
  _ ← refuse_if (not (declared.tag == DW_TAG_compile_unit)) (fault_at start kinds.BadUnit)
  _ ← refuse_if (is_split declared) (fault_at s kinds.SplitUnit)
  _ ← refuse_if (is_full before) (fault_at s kinds.LimitEntries)
  Ok (declared, code.1)

-- the bases in the attributes of a root with these fields
abbrev pub bases_told : SectionBytes → UnitContext → List Field → Spot → Result Bases Fault
bases_told sections context fields s = do
  read ← attrs_at sections context true fields ([], []) s
  Ok (bases_in read.0.0)

-- the bases of the tables of the unit that begins at start, whose context has none: they stand in its root, of whose values no index is tried
unfoldable pub bases_at : Spot → SectionBytes → UnitContext → List Abbrev → Parsed → Spot → Result Bases Fault
bases_at start sections context table before s = do
  first ← first_at start table before s
  bases_told sections context first.0.fields first.1

-- the first entry of the unit that begins at start, and whether it has a list of children
unfoldable pub root_at : Spot → SectionBytes → UnitContext → List Abbrev → Parsed → Spot → Result ((Bool × Parsed) × Spot) Fault
root_at start sections context table before s = do
  first ← first_at start table before s
  read ← entry_at sections context None s.place first.0 before first.1
  Ok ((first.0.children, read.0), read.1)

-- The lists of children that are open are named by their entries, the innermost last.

abbrev pub innermost : List ℕ → Option ℕ
innermost lists = slice_get lists (length lists - 1)

abbrev pub closed : List ℕ → List ℕ
closed lists = take (length lists - 1) lists

abbrev pub opened : Bool → ℕ → List ℕ → List ℕ
opened children number lists = if children then lists ++ number ∷ [] else lists

-- what was read, and the open lists
abbrev pub Walk : Type 0
Walk = Parsed × List ℕ

-- an entry of the innermost list that begins at first and has a declaration, behind its code
unfoldable pub listed_at : SectionBytes → UnitContext → Abbrev → Walk → Spot → Spot → Result (Walk × Spot) Fault
listed_at sections context declared walk first s = do
  _ ← refuse_if (declared.children && not (nat_lt (length walk.1) 1000)) (fault_at first kinds.LimitDepth)
  _ ← refuse_if (is_full walk.0) (fault_at first kinds.LimitEntries)
  read ← entry_at sections context (innermost walk.1) first.place declared walk.0 s
  Ok ((read.0, opened declared.children (length walk.0.entries) walk.1), read.1)

-- an entry of the innermost list, or the code 0 that closes it
unfoldable pub child_at : SectionBytes → UnitContext → List Abbrev → Walk → Spot → Result (Walk × Spot) Fault
child_at sections context table walk s = do
  code ← uleb_at s
  if code.0 == 0 then Ok ((walk.0, closed walk.1), code.1) else (or_fault (declared_as code.0 table) (fault_at s kinds.UnknownCode) >>= λ declared. listed_at sections context declared walk s code.1)

-- Entries until no list is open. Each takes a byte at least, so a count of the bytes that are left bounds them.
unfoldable pub children_at : SectionBytes → UnitContext → List Abbrev → ℕ → Walk → Spot → Result (Parsed × Spot) Fault
children_at sections context table zero walk s = if length walk.1 == 0 then Ok (walk.0, s) else Err (fault_at s kinds.UnclosedSiblings)
children_at sections context table (suc left) walk s =
    if length walk.1 == 0 then Ok (walk.0, s)
    else if s.end - s.place == 0 then Err (fault_at s kinds.UnclosedSiblings)
    else (child_at sections context table walk s >>= λ read. children_at sections context table left read.0 read.1)

-- the tree of the unit that begins at start
unfoldable pub tree_at : Spot → SectionBytes → UnitContext → List Abbrev → Parsed → Spot → Result (Parsed × Spot) Fault
tree_at start sections context table before s = do
  root ← root_at start sections context table before s
  children_at sections context table (root.1.end - root.1.place) (root.0.1, opened root.0.0 (length before.entries) []) root.1
