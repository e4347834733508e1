-- What steps leave as it is.
use Rattle.std.proofs.Common.{◌≡◌, ℕ, ◌||◌, Bool, true, false, List, [], ◌∷◌, Some, set, slice_get, Result, Ok, refl, ap, ◌∙◌}
use Rattle.std.specs.List.{list_any}
use Rattle.ds_base.specs.declared.fault.Fault.{Fault}
use Rattle.ds_base.specs.Reading.{◌>>=◌}
use Rattle.dwarf_types.specs.declared.entry.Attr.{Attr}
use Rattle.dwarf_types.specs.declared.entry.Entry.{Entry}
use Rattle.dwarf_types.specs.declared.entry.RawAttr.{RawAttr}
use Rattle.dwarf_types.specs.declared.put.NewValue.{NewValue}
use Rattle.dwarf_types.specs.declared.value.Value.{Value}
use Rattle.dwarf_types.specs.declared.value.Value.TheVariants as values
use Rattle.dwarf_types.specs.Plain.{is_offset, is_plain}
use Rattle.dwarf_types.specs.Put.{MayBecome}
use Rattle.expr_resolve.specs.Context.{Context}
use Rattle.unit_tree.specs.Targets.{target_in}
use Rattle.object_view.specs.Attributes.{attr_by, attrs_by, each_of, entry_by, value_meant, with_value}
use Rattle.object_view.specs.Changes.{making}
use Rattle.object_view.proofs.InPlace.{set_same}

-- ---- values

-- texts and numbers
pub plain_meant : (s : Context) (places : List ℕ) (a : RawAttr) (value : Value) → is_plain value ≡ true → value_meant s places a value ≡ Ok value
plain_meant s places a (values.Address place) e = absurd (let no : ⊥ = cc in no)
plain_meant s places a (values.Text text) e = refl
plain_meant s places a (values.Number form bits) e = refl
plain_meant s places a (values.Wide bytes) e = refl
plain_meant s places a (values.Block form bytes) e = absurd (let no : ⊥ = cc in no)
plain_meant s places a (values.Expr ops) e = absurd (let no : ⊥ = cc in no)
plain_meant s places a (values.Ref k) e = absurd (let no : ⊥ = cc in no)
plain_meant s places a (values.Ranges spans) e = absurd (let no : ⊥ = cc in no)
plain_meant s places a (values.Locations items) e = absurd (let no : ⊥ = cc in no)
plain_meant s places a values.Lines e = absurd (let no : ⊥ = cc in no)
plain_meant s places a (values.Offset n) e = absurd (let no : ⊥ = cc in no)

-- they are no references
pub plain_alone : (value : Value) → is_plain value ≡ true → target_in value ≡ []
plain_alone (values.Ref place) e = absurd (let no : ⊥ = cc in no)
plain_alone value e = refl

-- an offset, in whose place any value may be put
pub offset_becomes : (value : Value) (new : NewValue) → is_offset value ≡ true → MayBecome value new
offset_becomes (values.Offset n) new e = tt
offset_becomes value new e = absurd (let no : ⊥ = cc in no)

-- ---- entries

neither : (b c : Bool) → (b || c) ≡ false → (b ≡ false) × (c ≡ false)
neither true c e = absurd (let no : ⊥ = cc in no)
neither false c e = (refl, e)

module _ (meant : Attr → Result Value Fault) (others : (a : Attr) → is_offset a.value ≡ false → meant a ≡ Ok a.value) where
  -- attributes without an offset
  attrs_stay : (attrs : List Attr) → list_any (λ (a : Attr). is_offset a.value) attrs ≡ false → attrs_by meant attrs ≡ Ok attrs
  attrs_stay [] none = refl
  attrs_stay (a ∷ attrs) none =
      let both = neither (is_offset a.value) (list_any (λ (b : Attr). is_offset b.value) attrs) none in
      ap (λ (r : Result Value Fault). (r >>= λ value. Ok (with_value a value)) >>= λ here. each_of (attr_by meant) attrs >>= λ behind. Ok (here ∷ behind)) (others a both.0)
      ∙ ap (λ (r : Result (List Attr) Fault). r >>= λ behind. Ok (a ∷ behind)) (attrs_stay attrs both.1)

  -- an entry without one
  pub entry_stays : (entries : List Entry) (i : ℕ) (e : Entry) → slice_get entries i ≡ Some e → list_any (λ (a : Attr). is_offset a.value) e.attrs ≡ false → making (entry_by meant e) (λ made. set entries i made) ≡ Ok entries
  entry_stays entries i e is none =
      ap (λ (r : Result (List Attr) Fault). making (r >>= λ attrs. Ok (record e { attrs = attrs })) (λ made. set entries i made)) (attrs_stay e.attrs none)
      ∙ ap Ok (set_same entries i e is)
