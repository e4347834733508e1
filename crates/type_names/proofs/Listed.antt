-- The children that a spelling reads, one after the other, and the table of them.
use Rattle.std.proofs.Common.{◌≡◌, ℕ, zero, suc, ◌+◌, ◌<◌, ◌≤◌, ◌==◌, ◌||◌, Bool, true, false, cond, List, [], ◌∷◌, length, drop, get_or, set, replicate, slice_get, Option, Some, None, refl, sym, ap, ◌∙◌, arith, subst, inl, inr}
use Rattle.std.specs.List.{enumerate_from, filter}
use Rattle.std.specs.Option.{option_and_then, option_map, option_map_or}
use Rattle.std.proofs.lemmas.Bool.{cases_eq, eq-eqb, eqb-true, ne_eqb}
use Rattle.std.proofs.lemmas.List.{drop_all, drop_more, get_or-replicate, get_or-set_other, get_or-set_same, length-replicate, length-set}
use Rattle.std.proofs.lemmas.Option.{get_or_from_slice_get, none-some, same_Some, slice_get_cases, slice_get_within}
use Rattle.dwarf_types.specs.declared.entry.Entry.{Entry}
use Rattle.std.specs.Prelude.{if◌then◌else◌}
use Rattle.ds_base.specs.DwarfNumbers.{DW_TAG_array_type}
use Rattle.dwarf_types.specs.Tree.{ParentsStandBefore}
use Rattle.type_names.specs.Children.{IsListed, IsTableFrom, has_tag, is_parameter, holder, listed_from, next_listed}

pub next_entry : (entries : List Entry) (j : ℕ) (e : Entry) → slice_get entries j ≡ Some e → drop j entries ≡ e ∷ drop (j + 1) entries
next_entry entries j e at = drop_more entries j e (slice_get_within entries j e at) ∙ ap (λ (x : Entry). x ∷ drop (j + 1) entries) (get_or_from_slice_get entries j e e at)

-- entry j is one that the spelling of entry k reads
abbrev pub is_held : List Entry → ℕ → Entry → Bool
is_held entries k e = option_map_or (λ p. p == k) (holder entries e) false

pub listed_split : (entries : List Entry) (k j : ℕ) (e : Entry) → slice_get entries j ≡ Some e → listed_from entries k j ≡ cond (is_held entries k e) ((j, e) ∷ listed_from entries k (j + 1)) (listed_from entries k (j + 1))
listed_split entries k j e at = ap (λ (es : List Entry). filter (λ (e : ℕ × Entry). option_map_or (λ p. p == k) (holder entries e.1) false) (enumerate_from j es)) (next_entry entries j e at)

pub listed_none : (entries : List Entry) (k j : ℕ) → length entries ≤ j → listed_from entries k j ≡ []
listed_none entries k j past = ap (λ (es : List Entry). filter (λ (e : ℕ × Entry). option_map_or (λ p. p == k) (holder entries e.1) false) (enumerate_from j es)) (drop_all j entries past)

held_by : (entries : List Entry) (k : ℕ) (e : Entry) → holder entries e ≡ Some k → is_held entries k e ≡ true
held_by entries k e is = rw is (eq-eqb k k refl)

not_held : (entries : List Entry) (k p : ℕ) (e : Entry) → holder entries e ≡ Some p → (k ≡ p → ⊥) → is_held entries k e ≡ false
not_held entries k p e is other = rw is (ne_eqb p k (λ same. other (sym same)))

held_by_none : (entries : List Entry) (k : ℕ) (e : Entry) → holder entries e ≡ None → is_held entries k e ≡ false
held_by_none entries k e is = rw is refl

pub listed_here : (entries : List Entry) (k j : ℕ) (e : Entry) → slice_get entries j ≡ Some e → is_held entries k e ≡ true → listed_from entries k j ≡ (j, e) ∷ listed_from entries k (j + 1)
listed_here entries k j e at is = listed_split entries k j e at ∙ ap (λ (b : Bool). cond b ((j, e) ∷ listed_from entries k (j + 1)) (listed_from entries k (j + 1))) is

pub listed_later : (entries : List Entry) (k j : ℕ) (e : Entry) → slice_get entries j ≡ Some e → is_held entries k e ≡ false → listed_from entries k j ≡ listed_from entries k (j + 1)
listed_later entries k j e at is = listed_split entries k j e at ∙ ap (λ (b : Bool). cond b ((j, e) ∷ listed_from entries k (j + 1)) (listed_from entries k (j + 1))) is

first_of : List (ℕ × Entry) → Option ℕ
first_of es = option_map (λ (e : ℕ × Entry). e.0) (slice_get es 0)

-- an entry stands at each number below the length
pub entry_at : (entries : List Entry) (j : ℕ) → j < length entries → (e : Entry) × (slice_get entries j ≡ Some e)
entry_at entries j within = elim (slice_get_cases entries j).1 [
  | inl some ↦ (some.0, some.2)
  | inr past ↦ absurd (omega (arith, past.0))
]

-- a holder is the parent
pub holder_is_parent : (entries : List Entry) (p : ℕ) (e : Entry) → holder entries e ≡ Some p → e.parent ≡ Some p
holder_is_parent entries p e held = go e.parent held where
  decide : (q : ℕ) (b : Bool) → cond b (Some q) None ≡ Some p → Some q ≡ Some p
  decide q true is = is
  decide q false is = absurd (none-some p is)

  go : (o : Option ℕ) → option_and_then (λ (q : ℕ). if is_parameter e.tag || has_tag entries DW_TAG_array_type q then Some q else None) o ≡ Some p → o ≡ Some p
  go None is = is
  go (Some q) is = decide q (is_parameter e.tag || has_tag entries DW_TAG_array_type q) is

pub holder_before : (entries : List Entry) (j p : ℕ) (e : Entry) → ParentsStandBefore entries → slice_get entries j ≡ Some e → holder entries e ≡ Some p → p < j
holder_before entries j p e before at held = before j p e at (holder_is_parent entries p e held)

-- ---- the table

pub table_none : (entries : List Entry) → IsTableFrom entries (replicate (length entries) None) (replicate (length entries) None) (length entries)
table_none entries = record {
  within = omega arith;
  first_len = length-replicate (length entries) None;
  next_len = length-replicate (length entries) None;
  firsts = λ k lt. get_or-replicate (length entries) k None None lt ∙ sym (ap (λ (es : List (ℕ × Entry)). option_map (λ (e : ℕ × Entry). e.0) (slice_get es 0)) (listed_none entries k (length entries) (omega arith)));
  nexts = λ j k e past at is. absurd (let lt = slice_get_within entries j e at in omega arith);
}

pub table_more : (entries : List Entry) (first next : List (Option ℕ)) (i : ℕ) (e : Entry) (o : Option ℕ) → slice_get entries i ≡ Some e → holder entries e ≡ o → ((p : ℕ) → o ≡ Some p → p < length entries)
    → IsTableFrom entries first next (i + 1) → IsTableFrom entries (option_map_or (λ p. set first p (Some i)) o first) (option_map_or (λ p. set next i (get_or first p None)) o next) i
table_more entries first next i e None at is within t = record {
  within = omega (arith, t.within);
  first_len = t.first_len;
  next_len = t.next_len;
  firsts = λ k lt. t.firsts k lt ∙ sym (ap (λ (es : List (ℕ × Entry)). option_map (λ (e : ℕ × Entry). e.0) (slice_get es 0)) (listed_later entries k i e at (held_by_none entries k e is)));
  nexts = λ j k x le there held. elim (cases_eq j i) [
    | inl same ↦ absurd (none-some k (sym is ∙ ap (holder entries) (same_Some e x (sym at ∙ ap (slice_get entries) (sym same) ∙ there)) ∙ held))
    | inr other ↦ t.nexts j k x (omega arith) there held
  ];
}
table_more entries first next i e (Some p) at is within t =
    let inside : i < length next = omega (arith, t.next_len, slice_get_within entries i e at) in
    record {
      within = omega (arith, t.within);
      first_len = length-set first p (Some i) ∙ t.first_len;
      next_len = length-set next i (get_or first p None) ∙ t.next_len;
      firsts = λ k lt. elim (cases_eq k p) [
        | inl same ↦ ap (λ (n : ℕ). get_or (set first p (Some i)) n None) same ∙ get_or-set_same first p (Some i) None (omega (arith, t.first_len, within p refl))
            ∙ sym (ap (λ (es : List (ℕ × Entry)). option_map (λ (e : ℕ × Entry). e.0) (slice_get es 0)) (listed_here entries k i e at (held_by entries k e (is ∙ ap (λ (n : ℕ). Some n) (sym same)))))
        | inr other ↦ get_or-set_other first p k (Some i) None other ∙ t.firsts k lt
            ∙ sym (ap (λ (es : List (ℕ × Entry)). option_map (λ (e : ℕ × Entry). e.0) (slice_get es 0)) (listed_later entries k i e at (not_held entries k p e is other)))
      ];
      nexts = λ j k x le there held. elim (cases_eq j i) [
        | inl same ↦ (
            let one : e ≡ x = same_Some e x (sym at ∙ ap (slice_get entries) (sym same) ∙ there) in
            let holds : p ≡ k = same_Some p k (sym is ∙ ap (holder entries) one ∙ held) in
            ap (λ (n : ℕ). get_or (set next i (get_or first p None)) n None) same ∙ get_or-set_same next i (get_or first p None) None inside ∙ t.firsts p (within p refl)
            ∙ ap (λ (n : ℕ). next_listed entries n (i + 1)) holds ∙ ap (λ (n : ℕ). next_listed entries k (n + 1)) (sym same))
        | inr other ↦ get_or-set_other next i j (get_or first p None) None other ∙ t.nexts j k x (omega arith) there held
      ];
    }

-- ---- the walk

-- what is left, from the next one on
abbrev pub listed_at : List Entry → ℕ → Option ℕ → List (ℕ × Entry)
listed_at entries k o = option_map_or (listed_from entries k) o []

pub record IsNext (entries : List Entry) (k j : ℕ) (o : Option ℕ) : Type 0 where
  pub rest : listed_from entries k j ≡ listed_at entries k o
  pub listed : (c : ℕ) → o ≡ Some c → IsListed entries k c
  pub later : (c : ℕ) → o ≡ Some c → j ≤ c

pub held_true : (entries : List Entry) (k : ℕ) (e : Entry) → is_held entries k e ≡ true → holder entries e ≡ Some k
held_true entries k e is = go (holder entries e) refl is where
  go : (o : Option ℕ) → holder entries e ≡ o → option_map_or (λ p. p == k) o false ≡ true → o ≡ Some k
  go None at t = absurd (cc)
  go (Some p) at t = ap (λ (n : ℕ). Some n) (eqb-true p k t)

slice_get_none : (entries : List Entry) (j : ℕ) → slice_get entries j ≡ None → length entries ≤ j
slice_get_none entries j at = elim (slice_get_cases entries j).1 [
  | inl some ↦ absurd (none-some some.0 (sym at ∙ some.2))
  | inr past ↦ past.0
]

pub next_is : (n : ℕ) (entries : List Entry) (k j : ℕ) → length entries ≤ n + j → IsNext entries k j (next_listed entries k j)
next_is zero entries k j past = (
    let none = listed_none entries k j (omega arith) in
    subst (IsNext entries k j) (sym (ap (λ (es : List (ℕ × Entry)). option_map (λ (e : ℕ × Entry). e.0) (slice_get es 0)) none))
    (record { rest = none; listed = λ c is. absurd (none-some c is); later = λ c is. absurd (none-some c is) }))
next_is (suc n) entries k j past = go (slice_get entries j) refl (next_is n entries k (j + 1) (omega arith)) where
  none_here : slice_get entries j ≡ None → IsNext entries k j (next_listed entries k j)
  none_here at = (
      let none = listed_none entries k j (slice_get_none entries j at) in
      subst (IsNext entries k j) (sym (ap (λ (es : List (ℕ × Entry)). option_map (λ (e : ℕ × Entry). e.0) (slice_get es 0)) none))
      (record { rest = none; listed = λ c is. absurd (none-some c is); later = λ c is. absurd (none-some c is) }))

  decide : (e : Entry) → slice_get entries j ≡ Some e → IsNext entries k (j + 1) (next_listed entries k (j + 1)) → (b : Bool) → is_held entries k e ≡ b → IsNext entries k j (next_listed entries k j)
  decide e at rest true is = (
      let here = listed_here entries k j e at is in
      subst (IsNext entries k j) (sym (ap (λ (es : List (ℕ × Entry)). option_map (λ (e : ℕ × Entry). e.0) (slice_get es 0)) here))
      (record {
        rest = refl;
        listed = λ c same. (let one = same_Some j c same in record { entry = e; stands = ap (slice_get entries) (sym one) ∙ at; held = held_true entries k e is });
        later = λ c same. (let one = same_Some j c same in omega arith);
      }))
  decide e at rest false is = (
      let past = listed_later entries k j e at is in
      subst (IsNext entries k j) (sym (ap (λ (es : List (ℕ × Entry)). option_map (λ (e : ℕ × Entry). e.0) (slice_get es 0)) past))
      (record { rest = past ∙ rest.rest; listed = rest.listed; later = λ c same. omega (arith, rest.later c same) }))

  go : (o : Option Entry) → slice_get entries j ≡ o → IsNext entries k (j + 1) (next_listed entries k (j + 1)) → IsNext entries k j (next_listed entries k j)
  go None at rest = none_here at
  go (Some e) at rest = decide e at rest (is_held entries k e) refl
