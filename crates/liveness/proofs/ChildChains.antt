-- Chains of children: the table entry by entry, and the walk along one chain.
use Rattle.std.proofs.Common.{◌≡◌, ℕ, ◌+◌, ◌<◌, ◌≤◌, Bool, true, false, cond, List, [], ◌∷◌, ◌++◌, length, get_or, set, replicate, Option, Some, None, ◌↔◌, ◌⊎◌, inl, inr, sym, subst, ◌∙◌, refl, ap, arith}
use Rattle.std.specs.List.{Contains}
use Rattle.std.specs.Option.{option_and_then, option_map_or}
use Rattle.std.proofs.lemmas.Bool.{cases_eq, cases_lt}
use Rattle.std.proofs.lemmas.List.{length-set, length-replicate, length_push, get_or-set_same, get_or-set_other, get_or-replicate, get_or_append_left, get_or_push, get_or_read}
use Rattle.std.proofs.lemmas.List.Elements.{Contains-append_cases, Contains-append_left, Contains-append_right}
use Rattle.std.proofs.lemmas.Option.{same_Some, none-some, slice_get_within}
use Rattle.dwarf_types.specs.declared.entry.Entry.{Entry}
use Rattle.dwarf_types.specs.Live.{Stands, keeps_children}
use Rattle.liveness.specs.ChildTable.{IsChild, IsKept, IsLastChild, IsTable, is_wanted}
use Rattle.liveness.proofs.Elements.{none_contained, one_contained, one_contains}

last_here : (entries : List Entry) (k i : ℕ) → IsChild entries k i → IsLastChild entries k (i + 1) (Some i)
last_here entries k i child = (omega arith, child, λ m is. elim (cases_lt m (i + 1)) [ inl lt ↦ inl (omega arith) | inr ge ↦ inr ge ])

last_stays : (entries : List Entry) (k i : ℕ) (o : Option ℕ) → (IsChild entries k i → ⊥) → IsLastChild entries k i o → IsLastChild entries k (i + 1) o
last_stays entries k i None other last = λ m is. elim (cases_eq m i) [
  | inl e ↦ absurd (other (subst (λ (n : ℕ). IsChild entries k n) e is))
  | inr ne ↦ omega (arith, last m is)
]
last_stays entries k i (Some j) other last = (
  omega (arith, last.0),
  last.1,
  λ m is. elim (last.2 m is) [
    | inl le ↦ inl le
    | inr ge ↦ elim (cases_eq m i) [ inl e ↦ absurd (other (subst (λ (n : ℕ). IsChild entries k n) e is)) | inr ne ↦ inr (omega (arith, ge)) ]
  ],
)

pub table_none : (entries : List Entry) → IsTable entries 0 (replicate (length entries) None) []
table_none entries = record {
  last_len = length-replicate (length entries) None;
  before_len = refl;
  lasts = λ k lt. subst (IsLastChild entries k 0) (sym (get_or-replicate (length entries) k None None lt)) (λ m is. omega arith);
  befores = λ k j lt is. absurd (omega (arith, lt));
}

parent_of_child : (entries : List Entry) (k i : ℕ) (c : Entry) → Stands entries i c → IsChild entries k i → c.parent ≡ Some k
parent_of_child entries k i c at is = ap (λ (x : Entry). x.parent) (same_Some c is.0 (sym at ∙ is.1)) ∙ is.2

befores_more : (entries : List Entry) (i : ℕ) (last before : List (Option ℕ)) (found : Option ℕ) → IsTable entries i last before → ((k : ℕ) → IsChild entries k i → IsLastChild entries k i found) → (k j : ℕ) → j < i + 1 → IsChild entries k j → IsLastChild entries k j (get_or (before ++ found ∷ []) j None)
befores_more entries i last before found t here k j lt is = elim (cases_eq j i) [
  | inl e ↦ subst (IsLastChild entries k j) (sym (get_or_push before found None j (t.before_len ∙ sym e))) (subst (λ (n : ℕ). IsChild entries k n → IsLastChild entries k n found) (sym e) (here k) is)
  | inr ne ↦ subst (IsLastChild entries k j) (sym (get_or_append_left before (found ∷ []) None j (omega (arith, t.before_len)))) (t.befores k j (omega arith) is)
]

lasts_more : (entries : List Entry) (i p : ℕ) (c : Entry) (last before : List (Option ℕ)) → IsTable entries i last before → Stands entries i c → c.parent ≡ Some p → p < length entries → (k : ℕ) → k < length entries → IsLastChild entries k (i + 1) (get_or (set last p (Some i)) k None)
lasts_more entries i p c last before t at parent within k lt = elim (cases_eq k p) [
  | inl e ↦ subst (IsLastChild entries k (i + 1)) (sym (subst (λ (n : ℕ). get_or (set last p (Some i)) n None ≡ Some i) (sym e) (get_or-set_same last p (Some i) None (omega (arith, t.last_len)))))
      (last_here entries k i (c, at, subst (λ (n : ℕ). c.parent ≡ Some n) (sym e) parent))
  | inr ne ↦ subst (IsLastChild entries k (i + 1)) (sym (get_or-set_other last p k (Some i) None ne))
      (last_stays entries k i (get_or last k None) (λ is. ne (same_Some k p (sym (parent_of_child entries k i c at is) ∙ parent))) (t.lasts k lt))
]

pub table_more : (entries : List Entry) (i : ℕ) (c : Entry) (last before : List (Option ℕ)) (o : Option ℕ) → IsTable entries i last before → Stands entries i c → c.parent ≡ o → ((p : ℕ) → o ≡ Some p → p < length entries) → IsTable entries (i + 1) (option_map_or (λ p. set last p (Some i)) o last) (before ++ option_and_then (λ p. get_or last p None) o ∷ [])
table_more entries i c last before None t at parent within = record {
  last_len = t.last_len;
  before_len = length_push before None ∙ ap (λ n. n + 1) t.before_len;
  lasts = λ k lt. last_stays entries k i (get_or last k None) (λ is. none-some k (sym parent ∙ parent_of_child entries k i c at is)) (t.lasts k lt);
  befores = befores_more entries i last before None t (λ k is. absurd (none-some k (sym parent ∙ parent_of_child entries k i c at is)));
}
table_more entries i c last before (Some p) t at parent within = record {
  last_len = length-set last p (Some i) ∙ t.last_len;
  before_len = length_push before _ ∙ ap (λ n. n + 1) t.before_len;
  lasts = lasts_more entries i p c last before t at parent (within p refl);
  befores = befores_more entries i last before (get_or last p None) t (λ k is.
      let same : k ≡ p = same_Some k p (sym (parent_of_child entries k i c at is) ∙ parent) in
      subst (λ (n : ℕ). IsLastChild entries k i (get_or last n None)) same (t.lasts k (subst (λ (n : ℕ). n < length entries) (sym same) (within p refl))));
}

-- ---- the walk

-- the walk over the children of entry k has passed those from some entry on, and its next is the last before it
abbrev pub HasWalked : List Entry → ℕ → List ℕ → List ℕ → Option ℕ → Type 0
HasWalked entries k old out next = (i : ℕ) × IsLastChild entries k i next × ((j : ℕ) → Contains out j ↔ (Contains old j ⊎ ((i ≤ j) × IsKept entries k j)))

kept_is_child : (entries : List Entry) (k j : ℕ) → IsKept entries k j → IsChild entries k j
kept_is_child entries k j kept = (kept.1, kept.3, kept.4)

pub walk_begins : (entries : List Entry) (k : ℕ) (old : List ℕ) (next : Option ℕ) → IsLastChild entries k (length entries) next → HasWalked entries k old old next
walk_begins entries k old next last = (length entries, last, λ j. ((λ w. inl w), (λ w. elim w [ inl q ↦ q | inr q ↦ absurd (omega (arith, q.0, slice_get_within entries j q.1.1 q.1.3)) ])))

contained_if : (b : Bool) (j m : ℕ) → Contains (cond b (j ∷ []) []) m → (b ≡ true) × (j ≡ m)
contained_if true j m w = (refl, one_contained j m w)
contained_if false j m w = absurd (none_contained m w)

contains_if : (b : Bool) (j : ℕ) → b ≡ true → Contains (cond b (j ∷ []) []) j
contains_if b j e = subst (λ (x : Bool). Contains (cond x (j ∷ []) []) j) (sym e) (one_contains j)

pub walk_goes_on : (entries : List Entry) (k j : ℕ) (e c : Entry) (old out : List ℕ) (next : Option ℕ) → Stands entries k e → Stands entries j c → HasWalked entries k old out (Some j) → IsLastChild entries k j next → HasWalked entries k old (out ++ cond (is_wanted (keeps_children e) c) (j ∷ []) []) next
walk_goes_on entries k j e c old out next at at_child walked last =
    (j, last, λ m. (forth m, back m))
  where
    is : IsChild entries k j
    is = walked.1.1

    forth : (m : ℕ) → Contains (out ++ cond (is_wanted (keeps_children e) c) (j ∷ []) []) m → Contains old m ⊎ ((j ≤ m) × IsKept entries k m)
    forth m w = elim (Contains-append_cases out _ m w) [
      | inl q ↦ elim ((walked.2 m).0 q) [ inl r ↦ inl r | inr r ↦ inr (omega (arith, r.0, walked.1.0), r.1) ]
      | inr q ↦ (let it = contained_if (is_wanted (keeps_children e) c) j m q in
          inr (omega (arith, it.1), subst (λ (n : ℕ). IsKept entries k n) it.1 (e, c, at, at_child, parent_of_child entries k j c at_child is, it.0)))
    ]

    wanted : (m : ℕ) → IsKept entries k m → m ≡ j → is_wanted (keeps_children e) c ≡ true
    wanted m kept same =
        let child : kept.1 ≡ c = same_Some kept.1 c (sym kept.3 ∙ (subst (λ (n : ℕ). Stands entries n c) (sym same) at_child)) in
        let parent : kept.0 ≡ e = same_Some kept.0 e (sym kept.2 ∙ at) in
        subst (λ (x : Entry). is_wanted (keeps_children x) c ≡ true) parent (subst (λ (x : Entry). is_wanted (keeps_children kept.0) x ≡ true) child kept.5)

    back : (m : ℕ) → Contains old m ⊎ ((j ≤ m) × IsKept entries k m) → Contains (out ++ cond (is_wanted (keeps_children e) c) (j ∷ []) []) m
    back m (inl w) = Contains-append_left out _ m ((walked.2 m).1 (inl w))
    back m (inr w) = elim (walked.1.2 m (kept_is_child entries k m w.1)) [
      | inl le ↦ (let same : m ≡ j = omega (arith, w.0, le) in
          Contains-append_right out _ m (subst (λ (n : ℕ). Contains (cond (is_wanted (keeps_children e) c) (j ∷ []) []) n) (sym same) (contains_if _ j (wanted m w.1 same))))
      | inr ge ↦ Contains-append_left out _ m ((walked.2 m).1 (inr (ge, w.1)))
    ]

pub walk_ends : (entries : List Entry) (k : ℕ) (old out : List ℕ) → HasWalked entries k old out None → (j : ℕ) → Contains out j ↔ (Contains old j ⊎ IsKept entries k j)
walk_ends entries k old out walked j = (
  (λ w. elim ((walked.2 j).0 w) [ inl q ↦ inl q | inr q ↦ inr q.1 ]),
  (λ w. elim w [ inl q ↦ (walked.2 j).1 (inl q) | inr q ↦ (walked.2 j).1 (inr (walked.1 j (kept_is_child entries k j q), q)) ]),
)

-- the next of the walk, as the table tells it
pub next_is_last : (entries : List Entry) (k j : ℕ) (last before : List (Option ℕ)) (next : Option ℕ) → IsTable entries (length entries) last before → IsChild entries k j → next ≡ get_or before j next → IsLastChild entries k j next
next_is_last entries k j last before next t is read =
    let within : j < length entries = slice_get_within entries j is.0 is.1 in
    subst (IsLastChild entries k j) (sym (get_or_read before j next (omega (arith, within, t.before_len)) read None)) (t.befores k j within is)

-- the walk comes nearer to the first entry
pub walk_falls : (entries : List Entry) (k j : ℕ) (next : Option ℕ) → IsLastChild entries k j next → option_map_or (λ n. n + 1) next 0 < option_map_or (λ n. n + 1) (Some j) 0
walk_falls entries k j None last = omega arith
walk_falls entries k j (Some m) last = omega (arith, last.0)
