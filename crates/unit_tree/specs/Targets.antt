-- The entries to which the references of an object lead, by their places and by their numbers.
use Rattle.std.specs.Prelude.{◌==◌, ℕ, List, [], ◌∷◌, Option}
use Rattle.std.specs.List.{flat_map, position}
use Rattle.dwarf_types.specs.declared.entry.RawAttr.{RawAttr}
use Rattle.dwarf_types.specs.declared.entry.RawEntry.{RawEntry}
use Rattle.dwarf_types.specs.declared.value.Value.{Value}
use Rattle.dwarf_types.specs.declared.value.Value.TheVariants as values

-- the place to which a value leads, if it is a reference
abbrev pub target_in : Value → List ℕ
target_in (values.Ref place) = place ∷ []
target_in _ = []

abbrev pub targets_in : List RawAttr → List ℕ
targets_in attrs = flat_map (λ a. target_in a.value) attrs

-- those of all values, in document order
abbrev pub targets_of : List RawEntry → List ℕ
targets_of entries = flat_map (λ e. targets_in e.attrs) entries

-- the number of the entry that begins at a place, by the places of all
abbrev pub number_at : List ℕ → ℕ → Option ℕ
number_at places place = position (λ p. p == place) places
