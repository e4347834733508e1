-- The names of the objects that are read, where those of one name are merged.
use Rattle.std.specs.Prelude.{◌≡◌, ◌+◌, ℕ, Bool, true, false, List, [], Option, Some, None, Result, IfOk}
use Rattle.dwarf_types.specs.declared.analysis.Analysis.{Analysis}
use Rattle.odr_names.specs.Numbered.{objects_of}
use Rattle.odr_names.specs.declared.one_object.ObjectNames.{ObjectNames}
use Rattle.odr_names.specs.Joining.{AreAllNames, AreNamesOf}
use Rattle.type_names.specs.Objects.{object_of}
use Rattle.object_reads.specs.declared.objects.ReadObject.{ReadObject}
use Rattle.object_reads.specs.declared.reading.ReadObjects.{ReadObjects}
use Rattle.object_reads.specs.declared.target.Target.{Target}
use Rattle.link_status.specs.declared.refusal.Refusal.{Refusal}
use Rattle.object_reads.specs.Sources.{Source}
use Rattle.object_reads.specs.Reading.{Reads, ReadsAt}

-- what is made for the object of a number: its names, or nothing where none are merged
abbrev pub HasNames : Bool → ℕ → Analysis → List Bool → Option ObjectNames → Type 0
HasNames true number object row (Some one) = AreNamesOf number (object_of object row) one
HasNames true number object row None = ⊥
HasNames false number object row made = made ≡ None

-- the same of the object at a place among those of its program, where it is read
abbrev pub NamesAt : Bool → ℕ → Result ReadObject Refusal → Type 0
NamesAt named item out = IfOk out (λ it. HasNames named (item + 1) it.analysis it.live it.made)

-- an object at a place behind the first of its program is read, for the program, with its names
abbrev pub ReadsNamed : Bool → Target → List Source → ℕ → ℕ → Result ReadObject Refusal → Type 0
ReadsNamed named target sources first item out = ReadsAt target sources (first + item) out × NamesAt named item out

-- the names of each object, or nothing
abbrev pub HaveNames : Bool → List Analysis → List (List Bool) → List ObjectNames → Type 0
HaveNames true seen marks made = AreAllNames (objects_of seen marks) made
HaveNames false seen marks made = made ≡ []

-- all objects from the first of a program on are read with their names, or the first fault of the first that has one is told
pub record AllNamed (named : Bool) (target : Target) (first : ℕ) (sources : List Source) (answer : Result ReadObjects Refusal) : Type 0 where
  pub read : Reads target first sources answer
  pub names : IfOk answer (λ it. HaveNames named it.seen it.marks it.made)
