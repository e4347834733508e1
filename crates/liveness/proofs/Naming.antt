-- What attributes name, one after the other.
use Rattle.std.proofs.Common.{◌≡◌, ℕ, zero, suc, ◌+◌, ◌<◌, ◌==◌, ◌++◌, Bool, true, false, List, [], ◌∷◌, Option, Some, None, length, take, get_or, slice_get, refl, sym, ap, ◌∙◌, arith}
use Rattle.std.specs.Prelude.{if◌then◌else◌}
use Rattle.std.specs.List.{flat_map}
use Rattle.std.specs.Option.{option_to_list}
use Rattle.std.proofs.lemmas.List.{flat_map_more, take_more}
use Rattle.std.proofs.lemmas.Option.{get_or_from_slice_get}
use Rattle.ds_base.specs.DwarfNumbers.{DW_AT_sibling}
use Rattle.dwarf_types.specs.declared.value.Value.{Value}
use Rattle.dwarf_types.specs.declared.value.Value.TheVariants as values
use Rattle.dwarf_types.specs.Live.{op_bases, operations_of, target_in}
use Rattle.dwarf_types.specs.Plain.{is_plain}

abbrev pub named_by : ℕ → Value → List ℕ
named_by name value = option_to_list (if name == DW_AT_sibling then None else target_in value) ++ flat_map op_bases (operations_of value)

pub some_same : {X : Type 0} (x y : X) → Some x ≡ Some y → x ≡ y
some_same x y e = cc

no_target : (b : Bool) (target : Option ℕ) → target ≡ None → option_to_list (if b then None else target) ++ [] ≡ []
no_target true target e = refl
no_target false target e = rw e refl

-- a text or a number names nothing
pub plain_names : (name : ℕ) (value : Value) → is_plain value ≡ true → named_by name value ≡ []
plain_names name (values.Address place) e = absurd (let no : ⊥ = cc in no)
plain_names name (values.Text text) e = no_target (name == DW_AT_sibling) None refl
plain_names name (values.Number form bits) e = no_target (name == DW_AT_sibling) None refl
plain_names name (values.Wide bytes) e = no_target (name == DW_AT_sibling) None refl
plain_names name (values.Block form bytes) e = absurd (let no : ⊥ = cc in no)
plain_names name (values.Expr ops) e = absurd (let no : ⊥ = cc in no)
plain_names name (values.Ref k) e = absurd (let no : ⊥ = cc in no)
plain_names name (values.Ranges spans) e = absurd (let no : ⊥ = cc in no)
plain_names name (values.Locations items) e = absurd (let no : ⊥ = cc in no)
plain_names name values.Lines e = absurd (let no : ⊥ = cc in no)
plain_names name (values.Offset n) e = absurd (let no : ⊥ = cc in no)

-- what one more item gives
pub one_more : {X : Type 0} (f : X → List ℕ) (start before new : List ℕ) (xs : List X) (j : ℕ) → j < length xs → before ≡ start ++ flat_map f (take j xs) → ((x : X) → slice_get xs j ≡ Some x → new ≡ before ++ f x) → new ≡ start ++ flat_map f (take (j + 1) xs)
one_more {X} f start before new xs j lt so_far step =
    let it = item_at xs j lt in
    let here : get_or xs j it.0 ≡ it.0 = get_or_from_slice_get xs j it.0 it.0 it.1 in
    step it.0 it.1
    ∙ ap (λ (ys : List ℕ). ys ++ f it.0) so_far
    ∙ flat_map_more f start (take j xs) it.0
    ∙ ap (λ (x : X). start ++ flat_map f (take j xs ++ x ∷ [])) (sym here)
    ∙ ap (λ (ys : List X). start ++ flat_map f ys) (sym (take_more xs j it.0 lt))
  where
    item_at : {Y : Type 0} (ys : List Y) (k : ℕ) → k < length ys → (y : Y) × (slice_get ys k ≡ Some y)
    item_at [] k inside = absurd (omega (arith, inside))
    item_at (y ∷ ys) zero inside = (y, refl)
    item_at (y ∷ ys) (suc k) inside = item_at ys k (omega (arith, inside))
