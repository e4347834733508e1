-- Stations between the code and the definitions: the numbers of the entries to which references lead, taken one after the other in document order.
use Rattle.std.specs.Prelude.{◌≡◌, ℕ, List, [], ◌∷◌, length, map, drop, Some}
use Rattle.dwarf_types.specs.declared.entry.RawEntry.{RawEntry}
use Rattle.unit_tree.specs.Targets.{targets_of}
use Rattle.object_view.specs.Attributes.{number_at}

-- of each reference of entries that stand at these places, the number of the entry to which it leads
abbrev pub AreNumbers : List ℕ → List RawEntry → List ℕ → Type 0
AreNumbers places entries numbers = map Some numbers ≡ map (number_at places) (targets_of entries)

-- numbers begin with those of the entries at these targets
abbrev pub LeadTo : List ℕ → List ℕ → List ℕ → Type 0
LeadTo places [] numbers = Unit {0}
LeadTo places (target ∷ targets) [] = ⊥
LeadTo places (target ∷ targets) (k ∷ numbers) = (number_at places target ≡ Some k) × LeadTo places targets numbers

-- the numbers behind those
abbrev pub behind : List ℕ → List ℕ → List ℕ
behind targets numbers = drop (length targets) numbers
