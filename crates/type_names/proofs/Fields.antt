-- Fields among attributes.
use Rattle.std.proofs.Common.{◌≡◌, ◌<◌, ◌+◌, ◌||◌, ℕ, zero, suc, Bool, true, false, List, [], ◌∷◌, Some, length, drop, slice_get, refl, sym, ap, ◌∙◌, arith}
use Rattle.std.specs.List.{list_any}
use Rattle.dwarf_types.specs.declared.value.Value.{Value}
use Rattle.dwarf_types.specs.declared.value.Value.TheVariants as values
use Rattle.dwarf_types.specs.Plain.{is_plain}
use Rattle.type_names.specs.Entries.{is_field}

-- a text or a number is none
pub plain_no_field : (value : Value) → is_plain value ≡ true → false ≡ is_field value
plain_no_field (values.Text text) e = refl
plain_no_field (values.Number form bits) e = refl
plain_no_field (values.Wide bytes) e = refl
plain_no_field (values.Address place) e = absurd (let no : ⊥ = cc in no)
plain_no_field (values.Block form bytes) e = absurd (let no : ⊥ = cc in no)
plain_no_field (values.Expr ops) e = absurd (let no : ⊥ = cc in no)
plain_no_field (values.Ref k) e = absurd (let no : ⊥ = cc in no)
plain_no_field (values.Ranges spans) e = absurd (let no : ⊥ = cc in no)
plain_no_field (values.Locations items) e = absurd (let no : ⊥ = cc in no)
plain_no_field values.Lines e = absurd (let no : ⊥ = cc in no)
plain_no_field (values.Offset n) e = absurd (let no : ⊥ = cc in no)

-- whether one from place j on passes a test, where what it is at that place is known
pub any_from : {X : Type 0} (test : X → Bool) (xs : List X) (j : ℕ) (here : Bool) → j < length xs → ((x : X) → slice_get xs j ≡ Some x → here ≡ test x) → list_any test (drop j xs) ≡ (here || list_any test (drop (j + 1) xs))
any_from test [] j here lt is = absurd (omega arith)
any_from test (x ∷ xs) zero here lt is = ap (λ (b : Bool). b || list_any test xs) (sym (is x refl))
any_from test (x ∷ xs) (suc j) here lt is =
    let after : suc (j + 1) ≡ suc j + 1 = omega arith in
    any_from test xs j here (omega arith) is ∙ ap (λ (n : ℕ). here || list_any test (drop n (x ∷ xs))) after
