-- The directory in which a unit was compiled is a text.
use Rattle.std.proofs.Common.{◌==◌, ℕ, Bool, List, [], ◌∷◌, Option, Some, None, inl, inr, refl}
use Rattle.std.specs.List.{All, AllByRecursion, find}
use Rattle.std.specs.Option.{option_map, option_map_or}
use Rattle.std.specs.Prelude.{◌≡◌, slice_get}
use Rattle.std.proofs.lemmas.Bool.{cases_Bool}
use Rattle.std.proofs.lemmas.List.Elements.{recursion_from_All}
use Rattle.ds_base.specs.DwarfNumbers.{DW_AT_comp_dir}
use Rattle.dwarf_types.specs.declared.entry.Attr.{Attr}
use Rattle.dwarf_types.specs.declared.entry.Entry.{Entry}
use Rattle.dwarf_types.specs.declared.entry.InUnit.{InUnit}
use Rattle.dwarf_types.specs.declared.value.Value.{Value}
use Rattle.dwarf_types.specs.declared.value.Value.TheVariants as values
use Rattle.dwarf_types.specs.Spelled.{AreTextBytes}
use Rattle.linked_laws.specs.Spellable.{IsSpellableAttr, IsSpellableValue}
use Rattle.object_view.specs.Attributes.{comp_dir, text_in}
use Rattle.object_laws.proofs.Units.{dir_of}

text_given : (version name : ℕ) (value : Value) → IsSpellableValue version name value → AreTextBytes (text_in value)
text_given version name (values.Text text) given = given
text_given version name (values.Address place) given = tt
text_given version name (values.Number form bits) given = tt
text_given version name (values.Wide bytes) given = tt
text_given version name (values.Block form bytes) given = tt
text_given version name (values.Expr ops) given = tt
text_given version name (values.Ref k) given = tt
text_given version name (values.Ranges spans) given = tt
text_given version name (values.Locations items) given = tt
text_given version name values.Lines given = tt
text_given version name (values.Offset n) given = tt

found_given : (version : ℕ) (p : Attr → Bool) (attrs : List Attr) → AllByRecursion (IsSpellableAttr version) attrs → AreTextBytes (option_map_or text_in (option_map (λ (a : Attr). a.value) (find p attrs)) [])
found_given version p [] all = tt
found_given version p (a ∷ attrs) all = elim (cases_Bool (p a)) [
  | inl is ↦ let given = all.0 in rw is (text_given version a.name a.value given.value)
  | inr other ↦ rw other (found_given version p attrs all.1)
]

-- that of a root
pub dir_given : (version : ℕ) (root : Entry) → All (IsSpellableAttr version) root.attrs → AreTextBytes (comp_dir root)
dir_given version root given = found_given version (λ (a : Attr). a.name == DW_AT_comp_dir) root.attrs (recursion_from_All (IsSpellableAttr version) root.attrs given)

root_given : (o : Option Entry) → ((e : Entry) → o ≡ Some e → AreTextBytes (comp_dir e)) → AreTextBytes (option_map_or comp_dir o [])
root_given None known = tt
root_given (Some e) known = known e refl

-- that of a unit whose root is one of some entries
pub unit_dir : (entries : List Entry) (u : InUnit) → ((e : Entry) → slice_get entries u.first ≡ Some e → AreTextBytes (comp_dir e)) → AreTextBytes (dir_of entries u)
unit_dir entries u known = root_given (slice_get entries u.first) known
