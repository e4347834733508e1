-- What is asked of the entries of an analysis that is made by hand: one unit, without expressions.
use Rattle.std.specs.Prelude.{ℕ, ◌≡◌, ◌==◌, ◌&&◌, Bool, true, false, List, [], ◌∷◌, Option, Some, None, nat_lt, slice_get}
use Rattle.std.specs.List.{list_all}
use Rattle.dwarf_types.specs.declared.entry.Entry.{Entry}
use Rattle.dwarf_types.specs.declared.entry.RawAttr.{RawAttr}
use Rattle.dwarf_types.specs.declared.entry.RawEntry.{RawEntry}
use Rattle.dwarf_types.specs.declared.put.RawValue.{RawValue}
use Rattle.dwarf_types.specs.declared.value.Value.{Value}
use Rattle.dwarf_types.specs.declared.value.Value.TheVariants as values
use Rattle.dwarf_types.specs.Put.{value_read}
use Rattle.dwarf_types.specs.Raw.{entry_of}

-- a reference leads to one of so many entries, and there is no expression
abbrev pub is_within : ℕ → Value → Bool
is_within count (values.Ref k) = nat_lt k count
is_within count (values.Expr ops) = false
is_within count (values.Locations items) = false
is_within count value = true

-- entry k is the root, or stands behind its parent
abbrev pub is_below : ℕ → Option ℕ → Bool
is_below k None = k == 0
is_below k (Some p) = nat_lt p k

-- entry k of a unit of so many
abbrev pub is_sound : ℕ → ℕ → Entry → Bool
is_sound count k e = e.unit == 0 && is_below k e.parent && list_all (λ a. is_within count a.value) e.attrs

-- the first entries of a unit of so many
abbrev pub AreSound : ℕ → List RawEntry → Type 0
AreSound count entries = (k : ℕ) (e : RawEntry) → slice_get entries k ≡ Some e → is_sound count k (entry_of e) ≡ true

-- an entry that is read without forms: its parent, its tag, and two attributes
abbrev pub raw_attr : ℕ × RawValue → RawAttr
raw_attr says = record { name = says.0; form = 0; end = 0; value = value_read 0 says.1 }

abbrev pub raw_of : ℕ → ℕ → ℕ × RawValue → ℕ × RawValue → RawEntry
raw_of parent tag first second = record { parent = Some parent; unit = 0; place = 0; tag = tag; attrs = raw_attr first ∷ raw_attr second ∷ [] }
