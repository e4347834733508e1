-- Units that are drafted one after the other.
use Rattle.std.proofs.Common.{◌≡◌, ◌⊎◌, ℕ, Bool, zero, suc, ◌+◌, ◌^◌, ◌<◌, ◌≤◌, List, [], ◌∷◌, ◌++◌, length, take, drop, get_or, slice_get, Option, Some, None, nat_le, inl, inr, refl, sym, subst, ap, ◌∙◌, arith, length-append}
use Rattle.std.specs.List.{find}
use Rattle.std.specs.Option.{option_map, option_or}
use Rattle.std.proofs.lemmas.Bool.{le-leb, lt-leb}
use Rattle.std.proofs.lemmas.List.{take-append-drop}
use Rattle.std.proofs.lemmas.List.Folds.{find-append}
use Rattle.std.proofs.lemmas.Option.{get_or_from_slice_get, same_Some}
use Rattle.ds_base.proofs.Walking.{drop_one}
use Rattle.dwarf_types.specs.declared.graph.Graph.{Graph}
use Rattle.dwarf_types.specs.declared.graph.OutUnit.{OutUnit}
use Rattle.dwarf_types.specs.Entries.{unit_len}
use Rattle.dwarf_types.specs.Layout.{numbered_units}
use Rattle.unit_draft.specs.declared.unit.Draft.{Draft}
use Rattle.unit_draft.specs.Drafted.{AreDrafts, IsDraft}
use Rattle.layout.specs.Lengths.{long_unit}
use Rattle.layout.proofs.Numbered.{get_numbered, take_numbered, within_numbered}

push_cases : {X : Type 0} (xs : List X) (x : X) (k : ℕ) (y : X) → slice_get (xs ++ x ∷ []) k ≡ Some y → (slice_get xs k ≡ Some y) ⊎ ((k ≡ length xs) × (x ≡ y))
push_cases [] x zero y e = inr (refl, same_Some x y e)
push_cases [] x (suc k) y e = absurd cc
push_cases (z ∷ xs) x zero y e = inl e
push_cases (z ∷ xs) x (suc k) y e = elim (push_cases xs x k y e) [ inl before ↦ inl before | inr last ↦ inr (ap suc last.0, last.1) ]

abbrev is_long_unit : ℕ × OutUnit → Bool
is_long_unit n = nat_le (2 ^ 28) (unit_len n.0 n.1)

module _ (graph : Graph) where
  -- the first units are drafted, and none of them is too long
  pub record Drafted (u : ℕ) (drafts : List Draft) : Type 0 where
    pub count : length drafts ≡ u
    pub each : (k : ℕ) (unit : OutUnit) (draft : Draft) → slice_get graph.units k ≡ Some unit → slice_get drafts k ≡ Some draft → IsDraft k unit draft
    pub short : find is_long_unit (take u (numbered_units graph)) ≡ None

  pub none_drafted : (drafts : List Draft) → drafts ≡ [] → Drafted 0 drafts
  none_drafted drafts none = record {
    count = ap length none;
    each = λ k unit draft there here.
        let nowhere : slice_get [] k ≡ Some draft = ap (λ (ds : List Draft). slice_get ds k) (sym none) ∙ here in
        absurd cc;
    short = refl;
  }

  short_of : (u : ℕ) (unit : OutUnit) → unit_len u unit < 2 ^ 28 → find is_long_unit ((u, unit) ∷ []) ≡ None
  short_of u unit lt = rw (lt-leb (2 ^ 28) (unit_len u unit) lt) refl

  pub one_drafted : (u : ℕ) (unit : OutUnit) (drafts more : List Draft) (draft : Draft) → u < length graph.units → unit ≡ get_or graph.units u unit → Drafted u drafts → IsDraft u unit draft → more ≡ drafts ++ draft ∷ [] → Drafted (u + 1) more
  one_drafted u unit drafts more draft lt is before one pushed =
      let numbered = numbered_units graph in
      record {
        count = omega (arith, ap length pushed, length-append drafts (draft ∷ []), before.count);
        each = λ k v d there here.
            elim (push_cases drafts draft k d (ap (λ (ds : List Draft). slice_get ds k) (sym pushed) ∙ here)) [
              | inl earlier ↦ before.each k v d there earlier
              | inr last ↦
                  let number : u ≡ k = sym (last.0 ∙ before.count) in
                  let same : unit ≡ v = is ∙ ap (λ (n : ℕ). get_or graph.units n unit) number ∙ get_or_from_slice_get graph.units k v unit there in
                  subst (λ (n : ℕ). IsDraft n v d) number (subst (λ (w : OutUnit). IsDraft u w d) same (subst (λ (f : Draft). IsDraft u unit f) last.1 one))
            ];
        short = ap (find is_long_unit) (take_numbered graph.units u unit lt is) ∙ find-append is_long_unit (take u numbered) ((u, unit) ∷ [])
            ∙ ap (λ (o : Option (ℕ × OutUnit)). option_or o (find is_long_unit ((u, unit) ∷ []))) before.short ∙ short_of u unit one.short;
      }

  -- this unit is the first that is too long
  pub long_here : (u : ℕ) (unit : OutUnit) (drafts : List Draft) → u < length graph.units → unit ≡ get_or graph.units u unit → Drafted u drafts → 2 ^ 28 ≤ unit_len u unit → long_unit graph ≡ Some u
  long_here u unit drafts lt is before long =
      let numbered = numbered_units graph in
      let first : find is_long_unit numbered ≡ find is_long_unit (take u numbered ++ drop u numbered) = ap (find is_long_unit) (sym (take-append-drop u numbered)) in
      let rest : drop u numbered ≡ (u, unit) ∷ drop (u + 1) numbered = drop_one numbered u (u, unit) (within_numbered graph.units u lt) (get_numbered graph.units u unit lt is) in
      let found : find is_long_unit ((u, unit) ∷ drop (u + 1) numbered) ≡ Some (u, unit) = rw (le-leb (2 ^ 28) (unit_len u unit) long) refl in
      ap (option_map (λ (n : ℕ × OutUnit). n.0)) (
      first ∙ find-append is_long_unit (take u numbered) (drop u numbered) ∙ ap (λ (o : Option (ℕ × OutUnit)). option_or o (find is_long_unit (drop u numbered))) before.short
      ∙ ap (find is_long_unit) rest ∙ found
      )

  pub all_drafted : (u : ℕ) (drafts : List Draft) → length graph.units ≤ u → u ≤ length graph.units → Drafted u drafts → AreDrafts graph drafts
  all_drafted u drafts le ge before = record { count = omega (arith, le, ge, before.count); each = before.each }
