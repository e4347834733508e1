-- What an analysis has of the trees that the sections of its object spell (unit_tree's specs/Spelling.antt).
use Rattle.std.specs.Prelude.{◌≡◌, ◌<◌, ◌+◌, ◌++◌, ℕ, List, [], ◌∷◌, length, slice_get, take, None, Some, Ok}
use Rattle.dwarf_types.specs.declared.analysis.Analysis.{Analysis}
use Rattle.dwarf_types.specs.declared.entry.Attr.{Attr}
use Rattle.dwarf_types.specs.declared.entry.Entry.{Entry}
use Rattle.dwarf_types.specs.declared.entry.InUnit.{InUnit}
use Rattle.dwarf_types.specs.declared.entry.RawAttr.{RawAttr}
use Rattle.dwarf_types.specs.declared.entry.RawEntry.{RawEntry}
use Rattle.dwarf_types.specs.declared.value.Value.{Value}
use Rattle.dwarf_types.specs.declared.value.Value.TheVariants as values
use Rattle.dwarf_types.specs.Live.{Stands, target_in}
use Rattle.dwarf_types.specs.SectionBytes.{SectionBytes}
use Rattle.unit_tree.specs.Spelling.{SpellsObject, SpellsUnit, SpellsUnits, UnitTree, entries_of, in_units}
use Rattle.object_read.specs.Opened.{Opened, opened_of}
use Rattle.object_view.specs.Units.{unit_start}

-- two lists, item by item
abbrev pub ByItem : {X Y : Type 0} → (X → Y → Type 0) → List X → List Y → Type 0
ByItem Alike [] [] = Unit {0}
ByItem Alike [] (y ∷ ys) = ⊥
ByItem Alike (x ∷ xs) [] = ⊥
ByItem Alike (x ∷ xs) (y ∷ ys) = Alike x y × ByItem Alike xs ys

-- A reference that is spelled as a place is the number of the entry that begins there. No other value is a reference.
abbrev pub LeadsAs : List Entry → Value → Value → Type 0
LeadsAs entries (values.Ref place) now = (k : ℕ) × (target : Entry) × (now ≡ values.Ref k) × Stands entries k target × (target.place ≡ place)
LeadsAs entries spelled now = target_in now ≡ None

-- an attribute as it is spelled, and in an analysis with these entries
pub record IsAttr (entries : List Entry) (spelled : RawAttr) (now : Attr) : Type 0 where
  pub name : now.name ≡ spelled.name
  pub form : now.form ≡ spelled.form
  pub leads : LeadsAs entries spelled.value now.value

pub record IsEntry (entries : List Entry) (spelled : RawEntry) (now : Entry) : Type 0 where
  pub parent : now.parent ≡ spelled.parent
  pub unit : now.unit ≡ spelled.unit
  pub place : now.place ≡ spelled.place
  pub tag : now.tag ≡ spelled.tag
  pub attrs : ByItem (IsAttr entries) spelled.attrs now.attrs

-- a unit, to which only its line table comes
pub record IsUnit (spelled now : InUnit) : Type 0 where
  pub first : now.first ≡ spelled.first
  pub count : now.count ≡ spelled.count
  pub version : now.version ≡ spelled.version
  pub language : now.language ≡ spelled.language

-- Bytes from a place spell units, and that of a number begins at start: it is spelled from there, and those before it up to there.
pub record BeginsAt (sections : SectionBytes) (trees : List UnitTree) (place : ℕ) (bytes : List ℕ) (unit start : ℕ) : Type 0 where
  pub before : List ℕ
  pub own : List ℕ
  pub behind : List ℕ
  pub is : bytes ≡ before ++ (own ++ behind)
  pub there : start ≡ place + length before
  pub units : SpellsUnits sections (take unit trees) place before
  pub tree : UnitTree
  pub its : slice_get trees unit ≡ Some tree
  pub spells : SpellsUnit sections tree start own

-- the analysis of an object whose sections spell trees
pub record IsSpelledBy (sections : SectionBytes) (trees : List UnitTree) (a : Analysis) : Type 0 where
  pub spells : SpellsObject sections trees
  pub units : ByItem IsUnit (in_units 0 trees) a.units
  pub entries : ByItem (IsEntry a.entries) (entries_of 0 0 trees) a.entries
  -- where each unit is said to begin, from which its expressions count, it begins as it is spelled
  pub starts : (unit : ℕ) → unit < length trees → BeginsAt sections trees 0 sections.info unit (unit_start (in_units 0 trees) (entries_of 0 0 trees) unit)

-- the analysis of the object in a file's bytes, for a program of a CPU type
pub record IsOfObject (bytes : List ℕ) (cpu : ℕ) (a : Analysis) : Type 0 where
  pub opened : Opened
  pub is : opened_of bytes cpu ≡ Ok opened
  pub trees : List UnitTree
  pub spelled : IsSpelledBy opened.sections trees a
