-- Numbers of the entries to which references lead, taken one after the other while items are walked over.
use Rattle.std.proofs.Common.{◌≡◌, ℕ, ◌+◌, ◌≤◌, List, [], ◌∷◌, ◌++◌, Some, length, map, drop, slice_get, refl, sym, ap, subst, ◌∙◌}
use Rattle.std.specs.List.{flat_map}
use Rattle.std.proofs.lemmas.List.{drop_all, drop_more}
use Rattle.std.proofs.lemmas.Option.{get_or_from_slice_get, slice_get_within}
use Rattle.dwarf_types.specs.declared.entry.RawAttr.{RawAttr}
use Rattle.dwarf_types.specs.declared.entry.RawEntry.{RawEntry}
use Rattle.unit_tree.specs.Targets.{target_in, targets_in}
use Rattle.object_view.specs.Attributes.{number_at}
use Rattle.object_view.specs.Numbers.{LeadTo, behind}

-- ---- targets one after the other

pub led_first : (places targets others numbers : List ℕ) → LeadTo places (targets ++ others) numbers → LeadTo places targets numbers
led_first places [] others numbers h = tt
led_first places (x ∷ targets) others [] h = absurd h
led_first places (x ∷ targets) others (k ∷ numbers) h = (h.0, led_first places targets others numbers h.1)

pub led_behind : (places targets others numbers : List ℕ) → LeadTo places (targets ++ others) numbers → LeadTo places others (behind targets numbers)
led_behind places [] others numbers h = h
led_behind places (x ∷ targets) others [] h = absurd h
led_behind places (x ∷ targets) others (k ∷ numbers) h = led_behind places targets others numbers h.1

behind_nothing : (targets : List ℕ) → behind targets [] ≡ []
behind_nothing [] = refl
behind_nothing (x ∷ targets) = refl

pub behind_both : (targets others numbers : List ℕ) → behind (targets ++ others) numbers ≡ behind others (behind targets numbers)
behind_both [] others numbers = refl
behind_both (x ∷ targets) others [] = sym (behind_nothing others)
behind_both (x ∷ targets) others (k ∷ numbers) = behind_both targets others numbers

-- the number of each target
pub led_all : (places targets numbers : List ℕ) → map Some numbers ≡ map (number_at places) targets → LeadTo places targets numbers
led_all places [] numbers e = tt
led_all places (x ∷ targets) [] e = absurd cc
led_all places (x ∷ targets) (k ∷ numbers) e =
    let here : Some k ≡ number_at places x = cc in
    let others : map Some numbers ≡ map (number_at places) targets = cc in
    (sym here, led_all places targets numbers others)

-- the number of a target that is met
pub led_here : (places : List ℕ) (target k : ℕ) (numbers others : List ℕ) → LeadTo places (target ∷ []) numbers → numbers ≡ k ∷ others → number_at places target ≡ Some k
led_here places target k numbers others h e = let here : LeadTo places (target ∷ []) (k ∷ others) = subst (LeadTo places (target ∷ [])) e h in here.0

-- ---- a walk over items with targets

-- those of an attribute and of an entry
abbrev pub attr_targets : RawAttr → List ℕ
attr_targets a = target_in a.value

abbrev pub entry_targets : RawEntry → List ℕ
entry_targets e = targets_in e.attrs

-- before item i, the numbers that are left begin with those for the items from it on, and behind these they are as at first
pub record Left {X : Type 0} (f : X → List ℕ) (places : List ℕ) (xs : List X) (i : ℕ) (was now : List ℕ) : Type 0 where
  pub leads : LeadTo places (flat_map f (drop i xs)) now
  pub ends : behind (flat_map f (drop i xs)) now ≡ behind (flat_map f xs) was

pub left_none : {X : Type 0} (f : X → List ℕ) (places : List ℕ) (xs : List X) (was : List ℕ) → LeadTo places (flat_map f xs) was → Left f places xs 0 was was
left_none f places xs was h = record { leads = h; ends = refl }

module _ {X : Type 0} (f : X → List ℕ) (places : List ℕ) (xs : List X) (i : ℕ) (was now : List ℕ) (so_far : Left f places xs i was now) where
  module _ (x : X) (is : slice_get xs i ≡ Some x) where
    split : flat_map f (drop i xs) ≡ f x ++ flat_map f (drop (i + 1) xs)
    split =
        ap (λ (ys : List X). flat_map f ys) (drop_more xs i x (slice_get_within xs i x is) ∙ ap (λ (y : X). y ∷ drop (i + 1) xs) (get_or_from_slice_get xs i x x is))

    here_and_others : LeadTo places (f x ++ flat_map f (drop (i + 1) xs)) now
    here_and_others = subst (λ (targets : List ℕ). LeadTo places targets now) split so_far.leads

    pub left_leads : LeadTo places (f x) now
    left_leads = led_first places (f x) (flat_map f (drop (i + 1) xs)) now here_and_others

    pub left_more : (new : List ℕ) → new ≡ behind (f x) now → Left f places xs (i + 1) was new
    left_more new e =
        let others = flat_map f (drop (i + 1) xs) in
        record {
          leads = subst (LeadTo places others) (sym e) (led_behind places (f x) others now here_and_others);
          ends =
              ap (λ (numbers : List ℕ). behind others numbers) e
              ∙ sym (behind_both (f x) others now)
              ∙ ap (λ (targets : List ℕ). behind targets now) (sym split)
              ∙ so_far.ends;
        }

  pub left_all : length xs ≤ i → now ≡ behind (flat_map f xs) was
  left_all le = ap (λ (ys : List X). behind (flat_map f ys) now) (sym (drop_all i xs le)) ∙ so_far.ends
