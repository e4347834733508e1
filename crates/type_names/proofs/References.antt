-- The references of a sound analysis lead to entries.
use Rattle.std.proofs.Common.{◌≡◌, ◌<◌, ◌==◌, ℕ, Bool, true, false, cond, List, [], ◌∷◌, length, Option, Some, None, refl, subst}
use Rattle.std.specs.List.{Contains, find}
use Rattle.std.specs.Option.{option_map}
use Rattle.std.proofs.lemmas.List.Elements.{Contains-append_left, Contains-append_right, Contains-push}
use Rattle.std.proofs.lemmas.Option.{same_Some}
use Rattle.dwarf_types.specs.declared.analysis.Analysis.{Analysis}
use Rattle.dwarf_types.specs.declared.entry.Attr.{Attr}
use Rattle.dwarf_types.specs.declared.value.Value.{Value}
use Rattle.dwarf_types.specs.declared.value.Value.TheVariants as values
use Rattle.dwarf_types.specs.Live.{target_in}
use Rattle.dwarf_types.specs.Sound.{IsSound}
use Rattle.type_names.specs.Objects.{LeadsAmong, ReferToEntries}

-- what is found is in the list
found_in : {A : Type 0} (test : A → Bool) (xs : List A) (x : A) → find test xs ≡ Some x → Contains xs x
found_in test [] x is = absurd cc
found_in test (y ∷ ys) x is = by (test y) (λ later. found_in test ys x later) is
  where
    by : (b : Bool) → (find test ys ≡ Some x → Contains ys x) → cond b (Some y) (find test ys) ≡ Some x → Contains (y ∷ ys) x
    by true behind is = Contains-append_left (y ∷ []) ys x (subst (Contains (y ∷ [])) (same_Some y x is) (Contains-push [] y))
    by false behind is = Contains-append_right (y ∷ []) ys x (behind is)

leads_among : (count : ℕ) (value : Value) → ((j : ℕ) → target_in value ≡ Some j → j < count) → LeadsAmong count (Some value)
leads_among count (values.Ref k) within = within k refl
leads_among count value within = tt

pub sound_references : (seen : Analysis) → IsSound seen → ReferToEntries seen.entries
sound_references seen sound k e at name = by (find (λ (a : Attr). a.name == name) e.attrs) refl
  where
    by : (found : Option Attr) → find (λ (a : Attr). a.name == name) e.attrs ≡ found → LeadsAmong (length seen.entries) (option_map (λ (a : Attr). a.value) found)
    by None is = tt
    by (Some a) is = leads_among (length seen.entries) a.value (λ j leads. (sound.entries k e at).targets a j (found_in (λ (a : Attr). a.name == name) e.attrs a is) leads)
