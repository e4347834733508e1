-- What is appended to a draft, as a function of where everything stands.
use Rattle.std.specs.Prelude.{◌≡◌, ℕ, ◌+◌, false, List, [], ◌∷◌, ◌++◌, fold, length, nat_eq, slice_get, Some}
use Rattle.std.specs.List.{flat_map}
use Rattle.ds_base.specs.Texts.{with_text}
use Rattle.dwarf_types.specs.declared.graph.OutAttr.{OutAttr}
use Rattle.dwarf_types.specs.declared.graph.OutValue.{OutValue}
use Rattle.dwarf_types.specs.declared.graph.OutValue.TheVariants as values
use Rattle.dwarf_types.specs.declared.graph.Target.{Target}
use Rattle.dwarf_types.specs.Entries.{OutEntry, entries_bytes, entry_bytes, entry_len}
use Rattle.dwarf_types.specs.Lists.{ranges_bytes, locations_bytes}
use Rattle.dwarf_types.specs.Places.{ListPlaces, own_node}
use Rattle.dwarf_types.specs.Values.{value_bytes, values_bytes}
use Rattle.patches.specs.declared.hole.Own.TheVariants as own
use Rattle.patches.specs.declared.hole.Outer.{Outer}
use Rattle.patches.specs.declared.hole.Outer.TheVariants as outer
use Rattle.patches.specs.Filling.{Filling, filled}
use Rattle.unit_draft.specs.declared.drafting.Drafting.{Drafting}
use Rattle.unit_draft.specs.Based.{AppendsBased}
use Rattle.unit_draft.specs.World.{World}

-- the filling is that of the values of the unit of a number and a version, whose texts are numbered so
pub record Fits (number version : ℕ) (texts : List (List ℕ)) (w : World) : Type 0 where
  pub unit : w.places.unit ≡ number
  pub of_version : w.places.version ≡ version
  pub node : (k : ℕ) → w.filling.own (own.Node k) ≡ own_node w.places k
  pub base : (k : ℕ) → w.filling.own (own.Base k) ≡ own_node w.places k
  pub text : (i : ℕ) (t : List ℕ) → slice_get texts i ≡ Some t → w.filling.outer (outer.Text i) ≡ w.places.text t
  pub entry : (target : Target) → nat_eq target.unit number ≡ false → w.filling.outer (outer.Entry target) ≡ w.places.start target.unit + w.places.node target
  pub ranges : (n : ℕ) → w.filling.outer (outer.Ranges n) ≡ w.lists.ranges + n
  pub locations : (n : ℕ) → w.filling.outer (outer.Locations n) ≡ w.lists.locations + n
  pub lines : w.filling.outer outer.Lines ≡ w.places.lines

-- where the next lists stand
abbrev pub next_lists : World → Drafting → ListPlaces
next_lists w d = record { ranges = w.lists.ranges + length d.ranges; locations = w.lists.locations + length (filled d.locations w.filling) }

-- bytes were appended to the unit, range lists and location lists to its lists, and texts to those that it uses
pub record Appends (number version : ℕ) (old new : Drafting) (bytes : World → List ℕ) (pairs : List ℕ) (items : (ℕ → ℕ) → List ℕ) (uses : List (List ℕ)) : Type 0 where
  -- texts keep their numbers
  pub names : (w : World) → Fits number version new.names w → Fits number version old.names w
  pub info : (w : World) → Fits number version new.names w → filled new.info w.filling ≡ filled old.info w.filling ++ bytes w
  pub ranges : new.ranges ≡ old.ranges ++ pairs
  pub locations : AppendsBased old.locations new.locations items
  pub texts : new.names ≡ fold with_text old.names uses

-- the text of a value, if it is one
abbrev pub texts_in : OutValue → List (List ℕ)
texts_in (values.Text text) = text ∷ []
texts_in _ = []

abbrev pub AppendsValue : ℕ → ℕ → Drafting → Drafting → OutValue → Type 0
AppendsValue number version old new value =
    Appends number version old new (λ w. value_bytes w.places (next_lists w old) value) (ranges_bytes version value) (λ place. locations_bytes version place value) (texts_in value)

abbrev pub all_ranges : ℕ → List OutAttr → List ℕ
all_ranges version attrs = flat_map (λ a. ranges_bytes version a.value) attrs

abbrev pub all_locations : ℕ → (ℕ → ℕ) → List OutAttr → List ℕ
all_locations version place attrs = flat_map (λ a. locations_bytes version place a.value) attrs

abbrev pub all_texts : List OutAttr → List (List ℕ)
all_texts attrs = flat_map (λ a. texts_in a.value) attrs

abbrev pub AppendsValues : ℕ → ℕ → Drafting → Drafting → List OutAttr → Type 0
AppendsValues number version old new attrs =
    Appends number version old new (λ w. values_bytes w.places (next_lists w old) attrs) (all_ranges version attrs) (λ place. all_locations version place attrs) (all_texts attrs)

abbrev pub AppendsEntry : ℕ → ℕ → Drafting → Drafting → OutEntry → Type 0
AppendsEntry number version old new entry =
    Appends number version old new (λ w. entry_bytes w.places (next_lists w old) entry) (all_ranges version entry.node.attrs) (λ place. all_locations version place entry.node.attrs) (all_texts entry.node.attrs)

abbrev pub attrs_of : List OutEntry → List OutAttr
attrs_of entries = flat_map (λ e. e.node.attrs) entries

abbrev pub AppendsEntries : ℕ → ℕ → Drafting → Drafting → List OutEntry → Type 0
AppendsEntries number version old new entries =
    Appends number version old new (λ w. entries_bytes w.places (next_lists w old) entries) (all_ranges version (attrs_of entries)) (λ place. all_locations version place (attrs_of entries)) (all_texts (attrs_of entries))

-- ---- places

-- nothing stands anywhere
abbrev pub nowhere_number : Outer → ℕ
nowhere_number (outer.Ranges n) = n
nowhere_number (outer.Locations n) = n
nowhere_number _ = 0

abbrev pub nowhere : Filling
nowhere = record { own = λ _. 0; outer = nowhere_number }

abbrev pub len_of : Drafting → ℕ
len_of d = length (filled d.info nowhere)

-- where entries stand, the first of which stands at a place
abbrev pub places_from : ℕ → List OutEntry → List ℕ
places_from place [] = []
places_from place (e ∷ es) = place ∷ places_from (place + entry_len e) es
