-- The list of what an entry needs, and that all of it stands among the entries.
use Rattle.std.proofs.Common.{◌≡◌, ℕ, ◌<◌, Bool, true, false, List, [], ◌∷◌, ◌++◌, length, eqb, Option, Some, None, ◌↔◌, ◌⊎◌, inl, inr, sym, subst, ◌∙◌, ap, arith, cond}
use Rattle.std.specs.List.{Contains, cons_option, filter_map, flat_map}
use Rattle.std.specs.Option.{option_to_list}
use Rattle.std.proofs.lemmas.Bool.{and_from, and_parts, not-true, not_from_false, or_cases, or_left, or_right}
use Rattle.std.proofs.lemmas.List.Elements.{Contains-append_cases, Contains-append_left, Contains-append_right}
use Rattle.std.proofs.lemmas.Option.{same_Some, none-some, slice_get_within}
use Rattle.ds_base.specs.DwarfNumbers.{DW_AT_sibling}
use Rattle.dwarf_types.specs.declared.analysis.Analysis.{Analysis}
use Rattle.dwarf_types.specs.declared.entry.Attr.{Attr}
use Rattle.dwarf_types.specs.declared.entry.Entry.{Entry}
use Rattle.dwarf_types.specs.declared.entry.InUnit.{InUnit}
use Rattle.dwarf_types.specs.Live.{Needs, Stands, bases_of, op_bases, operations_of, target_in, targets_of, its_base, its_child, its_import, its_parent, its_target}
use Rattle.dwarf_types.specs.Sound.{IsParent, IsSound}
use Rattle.dwarf_types.specs.Tree.{ParentsStandBefore}
use Rattle.liveness.specs.ChildTable.{IsKept}
use Rattle.liveness.proofs.Elements.{contained_after, contained_first, first_cases, from_filter_map, none_contained, one_contained, one_contains}

-- ---- a sound analysis

parent_before : (u : InUnit) (k p : ℕ) (o : Option ℕ) → o ≡ Some p → IsParent u k o → p < k
parent_before u k p o e is = (subst (λ (x : Option ℕ). IsParent u k x) e is).1

pub parents_stand_before : (a : Analysis) → IsSound a → ParentsStandBefore a.entries
parents_stand_before a sound k p e at parent = let s = sound.entries k e at in parent_before s.unit k p e.parent parent s.parent

target_at : (b : Bool) (o : Option ℕ) (j : ℕ) → cond b None o ≡ Some j → o ≡ Some j
target_at true o j e = absurd (none-some j e)
target_at false o j e = e

pub needs_within : (a : Analysis) → IsSound a → (k j : ℕ) → Needs a.entries k j → j < length a.entries
needs_within a sound k j (its_parent e at parent) = omega (arith, parents_stand_before a sound k j e at parent, slice_get_within a.entries k e at)
needs_within a sound k j (its_target e at has) =
    let it = from_filter_map (λ attr. cond (eqb attr.name DW_AT_sibling) None (target_in attr.value)) e.attrs j has in
    (sound.entries k e at).targets it.0 j it.1 (target_at _ _ j it.2)
needs_within a sound k j (its_base e at has) = let base = (sound.entries k e at).bases j has in slice_get_within a.entries j base.entry base.stands
needs_within a sound k j (its_child e c at at_child parent keeps left) = slice_get_within a.entries j c at_child
needs_within a sound k j (its_import c at_child parent import) = slice_get_within a.entries j c at_child

-- ---- the parts of the list

kept_is_needed : (entries : List Entry) (k j : ℕ) → IsKept entries k j → Needs entries k j
kept_is_needed entries k j w = elim (or_cases _ _ w.5) [
  | inl t ↦ (let it = and_parts _ _ t in its_child w.0 w.1 w.2 w.3 w.4 it.0 (not-true _ it.1))
  | inr t ↦ its_import w.1 w.3 w.4 t
]

from_option : (o : Option ℕ) (j : ℕ) → Contains (option_to_list o) j → o ≡ Some j
from_option None j w = absurd (none_contained j w)
from_option (Some i) j w = ap Some (one_contained i j w)

to_option : (o : Option ℕ) (j : ℕ) → o ≡ Some j → Contains (option_to_list o) j
to_option o j e = subst (λ (x : Option ℕ). Contains (option_to_list x) j) (sym e) (one_contains j)

-- what an attribute names: the target that counts, and base types
abbrev counted : Attr → Option ℕ
counted a = cond (eqb a.name DW_AT_sibling) None (target_in a.value)

abbrev bases_in : Attr → List ℕ
bases_in a = flat_map op_bases (operations_of a.value)

abbrev pub named_by : Entry → List ℕ
named_by e = flat_map (λ a. option_to_list (counted a) ++ bases_in a) e.attrs

-- of what there is, by the first and the others
in_first : {B : Type 0} (o : Option B) (ys : List B) (y : B) → Contains (option_to_list o) y → Contains (cons_option o ys) y
in_first None ys y w = absurd (none_contained y w)
in_first {B = B} (Some z) ys y w = subst (λ (v : B). Contains (z ∷ ys) v) (one_contained z y w) (contained_first z ys)

in_others : {B : Type 0} (o : Option B) (ys : List B) (y : B) → Contains ys y → Contains (cons_option o ys) y
in_others None ys y w = w
in_others (Some z) ys y w = contained_after z ys y w

option_cases : {B : Type 0} (o : Option B) (ys : List B) (y : B) → Contains (cons_option o ys) y → Contains (option_to_list o) y ⊎ Contains ys y
option_cases None ys y w = inr w
option_cases {B = B} (Some z) ys y w = elim (first_cases z ys y w) [ inl e ↦ inl (subst (λ (v : B). Contains (z ∷ []) v) e (one_contains z)) | inr q ↦ inr q ]

-- two lists that are made of the same elements, one behind the other or element by element
named_apart : {A B : Type 0} (f : A → Option B) (g : A → List B) (xs : List A) (y : B) → Contains (flat_map (λ x. option_to_list (f x) ++ g x) xs) y → Contains (filter_map f xs) y ⊎ Contains (flat_map g xs) y
named_apart f g [] y w = absurd (none_contained y w)
named_apart f g (x ∷ xs) y w = elim (Contains-append_cases _ (flat_map (λ z. option_to_list (f z) ++ g z) xs) y w) [
  | inl q ↦ elim (Contains-append_cases (option_to_list (f x)) (g x) y q) [
    | inl r ↦ inl (in_first (f x) (filter_map f xs) y r)
    | inr r ↦ inr (Contains-append_left (g x) (flat_map g xs) y r)
  ]
  | inr q ↦ elim (named_apart f g xs y q) [
    | inl r ↦ inl (in_others (f x) (filter_map f xs) y r)
    | inr r ↦ inr (Contains-append_right (g x) (flat_map g xs) y r)
  ]
]

named_together : {A B : Type 0} (f : A → Option B) (g : A → List B) (xs : List A) (y : B) → Contains (filter_map f xs) y ⊎ Contains (flat_map g xs) y → Contains (flat_map (λ x. option_to_list (f x) ++ g x) xs) y
named_together f g [] y w = elim w [ inl q ↦ absurd (none_contained y q) | inr q ↦ absurd (none_contained y q) ]
named_together f g (x ∷ xs) y w = elim w [
  | inl q ↦ elim (option_cases (f x) (filter_map f xs) y q) [
    | inl r ↦ here (Contains-append_left (option_to_list (f x)) (g x) y r)
    | inr r ↦ later (named_together f g xs y (inl r))
  ]
  | inr q ↦ elim (Contains-append_cases (g x) (flat_map g xs) y q) [
    | inl r ↦ here (Contains-append_right (option_to_list (f x)) (g x) y r)
    | inr r ↦ later (named_together f g xs y (inr r))
  ]
]
  where
    here : Contains (option_to_list (f x) ++ g x) y → Contains (flat_map (λ z. option_to_list (f z) ++ g z) (x ∷ xs)) y
    here q = Contains-append_left _ (flat_map (λ z. option_to_list (f z) ++ g z) xs) y q

    later : Contains (flat_map (λ z. option_to_list (f z) ++ g z) xs) y → Contains (flat_map (λ z. option_to_list (f z) ++ g z) (x ∷ xs)) y
    later q = Contains-append_right (option_to_list (f x) ++ g x) _ y q

abbrev pub own_needs : Entry → List ℕ
own_needs e = ([] ++ option_to_list e.parent) ++ named_by e

own_is_needed : (entries : List Entry) (k : ℕ) (e : Entry) → Stands entries k e → (j : ℕ) → Contains (own_needs e) j → Needs entries k j
own_is_needed entries k e at j w = elim (Contains-append_cases (option_to_list e.parent) (named_by e) j w) [
  | inl q ↦ its_parent e at (from_option e.parent j q)
  | inr q ↦ elim (named_apart counted bases_in e.attrs j q) [ inl r ↦ its_target e at r | inr r ↦ its_base e at r ]
]

needed_is_listed : (entries : List Entry) (k : ℕ) (e : Entry) → Stands entries k e → (j : ℕ) → Needs entries k j → Contains (own_needs e) j ⊎ IsKept entries k j
needed_is_listed entries k e at j (its_parent e' at' parent) =
    let same : e' ≡ e = same_Some e' e (sym at' ∙ at) in
    inl (Contains-append_left _ (named_by e) j (to_option e.parent j (subst (λ (x : Entry). x.parent ≡ Some j) same parent)))
needed_is_listed entries k e at j (its_target e' at' has) =
    let same : e' ≡ e = same_Some e' e (sym at' ∙ at) in
    inl (Contains-append_right (option_to_list e.parent) (named_by e) j (named_together counted bases_in e.attrs j (inl (subst (λ (x : Entry). Contains (targets_of x) j) same has))))
needed_is_listed entries k e at j (its_base e' at' has) =
    let same : e' ≡ e = same_Some e' e (sym at' ∙ at) in
    inl (Contains-append_right (option_to_list e.parent) (named_by e) j (named_together counted bases_in e.attrs j (inr (subst (λ (x : Entry). Contains (bases_of x) j) same has))))
needed_is_listed entries k e at j (its_child e' c at' at_child parent keeps left) =
    inr (e', c, at', at_child, parent, or_left _ _ (and_from _ _ keeps (not_from_false _ left)))
needed_is_listed entries k e at j (its_import c at_child parent import) =
    inr (e, c, at, at_child, parent, or_right _ _ import)

pub needs_are : (entries : List Entry) (k : ℕ) (e : Entry) (out : List ℕ) → Stands entries k e → ((j : ℕ) → Contains out j ↔ (Contains (own_needs e) j ⊎ IsKept entries k j)) → (j : ℕ) → Contains out j ↔ Needs entries k j
needs_are entries k e out at parts j = (
  (λ w. elim ((parts j).0 w) [ inl q ↦ own_is_needed entries k e at j q | inr q ↦ kept_is_needed entries k j q ]),
  (λ w. (parts j).1 (needed_is_listed entries k e at j w)),
)
