-- What the units of an image that was written keep to besides those of an object: each section offset leads to a table or a list that is read.
use Rattle.std.specs.Prelude.{◌≡◌, ◌++◌, Bool, true, false, List, [], ◌∷◌, is_none}
use Rattle.dwarf_types.specs.declared.entry.RawAttr.{RawAttr}
use Rattle.dwarf_types.specs.declared.entry.RawEntry.{RawEntry}
use Rattle.dwarf_types.specs.declared.value.Value.{Value}
use Rattle.dwarf_types.specs.declared.value.Value.TheVariants as values
use Rattle.unit_tree.specs.declared.meaning.Meaning.{Meaning}
use Rattle.unit_tree.specs.declared.meaning.Meaning.TheVariants.{LineTable, Other}
use Rattle.unit_tree.specs.Attribute.{names_lines}
use Rattle.unit_tree.specs.Meaning.{meaning_of}

-- an offset leads to a table or a list, where the unit's line table may be named or not
abbrev pub leads_somewhere : Bool → Meaning → Bool
leads_somewhere lines LineTable = lines
leads_somewhere lines Other = false
leads_somewhere lines _ = true

abbrev pub IsValueLed : Bool → Meaning → Value → Type 0
IsValueLed lines meaning (values.Offset n) = leads_somewhere lines meaning ≡ true
IsValueLed lines meaning _ = Unit {0}

abbrev pub IsLed : Bool → RawAttr → Type 0
IsLed lines a = IsValueLed lines (meaning_of a.form a.name) a.value

-- attributes behind others of a root or another entry
abbrev pub AreLed : Bool → List RawAttr → List RawAttr → Type 0
AreLed root before [] = Unit {0}
AreLed root before (a ∷ attrs) = IsLed (names_lines root before) a × AreLed root (before ++ a ∷ []) attrs

-- all offsets of entries
abbrev pub AreEntriesLed : List RawEntry → Type 0
AreEntriesLed [] = Unit {0}
AreEntriesLed (e ∷ entries) = AreLed (is_none e.parent) [] e.attrs × AreEntriesLed entries
