-- Siblings in the order of their numbers, and the chains of those whose hashes share a cell.
use Rattle.std.proofs.Common.{◌≡◌, ℕ, ◌+◌, ◌/◌, ◌%◌, ◌^◌, replicate, ◌<◌, ◌≤◌, inl, inr, Bool, true, false, cond, List, [], ◌∷◌, ◌++◌, length, Option, Some, None, is_some, slice_get, get_or, set, refl, sym, ap, ◌∙◌, arith, subst}
use Rattle.std.specs.Prelude.{if◌then◌else◌}
use Rattle.std.specs.Option.{option_and_then, option_map, option_map_or}
use Rattle.std.specs.Prelude.{◌||◌, ◌&&◌, not}
use Rattle.std.specs.List.{list_any}
use Rattle.std.proofs.lemmas.List.Folds.{list_any-append}
use Rattle.std.proofs.lemmas.Bool.{both_ways, cases_eq, cases_lt}
use Rattle.std.proofs.lemmas.List.{get_or-replicate, get_or-set_other, get_or-set_same, get_or_append_left, get_or_push, length-replicate, length-set, length_push}
use Rattle.std.proofs.lemmas.Option.{none-some, same_Some, slice_get_within}
use Rattle.dwarf_types.specs.declared.entry.Entry.{Entry}
use Rattle.dwarf_types.specs.Tree.{ParentsStandBefore}
use Rattle.odr_names.specs.declared.ordinals.Chains.{Chains}
use Rattle.odr_names.specs.declared.ordinals.Sibling.{Sibling}
use Rattle.odr_names.specs.Pieces.{IsSpelled}
use Rattle.odr_names.specs.Twins.{AreChained, AreCounted, AreSiblings, AreTwins, IsNewest, IsSibling, IsWalked, cell_of, is_inside, is_told_in, may_have_twins, own_in, parts_hash, tell_alone, twins_before, wants_ordinal}
use Rattle.type_names.specs.Heads.{Object, entries_of, is_head, is_in_head}
use Rattle.type_names.specs.Paths.{Parts, earlier_twins, is_overloaded, parts_of, spelled_of}
use Rattle.type_names.specs.Rows.{IsRow}
use Rattle.type_names.specs.Tree.{lineage, parent_of}
use Rattle.type_names.proofs.Lineages.{lineage_below, parent_before}
use Rattle.odr_names.proofs.BookPaths.{get_before, get_last}
use Rattle.odr_names.proofs.Counting.{entry_at, no_twin, one_twin_more}

-- the piece of an entry in the subtree of a head has the text that is told
pub spelled_in_head : (o : Object) (k : ℕ) → is_in_head o k ≡ true → IsSpelled o k
spelled_in_head o k inside = λ e at. ap (λ (b : Bool). if b then option_and_then (spelled_of o k) (slice_get (entries_of o) k) else None) inside ∙ ap (option_and_then (spelled_of o k)) at

pub parent_at : (o : Object) (k : ℕ) (e : Entry) → slice_get (entries_of o) k ≡ Some e → parent_of (entries_of o) k ≡ e.parent
parent_at o k e at = ap (option_and_then (λ (e : Entry). e.parent)) at

-- ---- all siblings

pub siblings_none : (n : ℕ) (o : Object) → AreSiblings n o [] 0
siblings_none n o = record {
  each = λ j r at. absurd (none-some r at);
  rising = λ j k r s lt at. absurd (none-some r at);
  below = λ j r at. absurd (none-some r at);
  few = omega arith;
  all = λ k lt. absurd (omega arith);
}

pub siblings_more : (n : ℕ) (o : Object) (ranks : List Sibling) (i : ℕ) (r : Sibling) → r.number ≡ i → IsSibling n o r → AreSiblings n o ranks i → AreSiblings n o (ranks ++ r ∷ []) (i + 1)
siblings_more n o ranks i r is sibling so_far = record {
  each = λ j s at. elim (cases_lt j (length ranks)) [
    | inl earlier ↦ so_far.each j s (sym (get_before ranks (r ∷ []) j earlier) ∙ at)
    | inr later ↦ (
        let last : j ≡ length ranks = omega (arith, slice_get_within (ranks ++ r ∷ []) j s at, length_push ranks r) in
        subst (IsSibling n o) (same_Some r s (sym (ap (slice_get (ranks ++ r ∷ [])) last ∙ get_last ranks r) ∙ at)) sibling)
  ];
  rising = λ j k s t lt at_s at_t.
      (let inside = slice_get_within (ranks ++ r ∷ []) k t at_t in
      let grown = length_push ranks r in
      let s_at : slice_get ranks j ≡ Some s = sym (get_before ranks (r ∷ []) j (omega (arith, inside, grown, lt))) ∙ at_s in
      elim (cases_lt k (length ranks)) [
        | inl earlier ↦ so_far.rising j k s t lt s_at (sym (get_before ranks (r ∷ []) k earlier) ∙ at_t)
        | inr later ↦ (
            let last : k ≡ length ranks = omega (arith, inside, grown, later) in
            let same : r ≡ t = same_Some r t (sym (ap (slice_get (ranks ++ r ∷ [])) last ∙ get_last ranks r) ∙ at_t) in
            let number = ap (λ (t : Sibling). t.number) same in
            let low = so_far.below j s s_at in
            omega (arith, number, low, is))
      ]);
  below = λ j s at. elim (cases_lt j (length ranks)) [
    | inl earlier ↦ (let low = so_far.below j s (sym (get_before ranks (r ∷ []) j earlier) ∙ at) in omega (arith, low))
    | inr later ↦ (
        let last : j ≡ length ranks = omega (arith, slice_get_within (ranks ++ r ∷ []) j s at, length_push ranks r) in
        let number = ap (λ (t : Sibling). t.number) (same_Some r s (sym (ap (slice_get (ranks ++ r ∷ [])) last ∙ get_last ranks r) ∙ at)) in
        omega (arith, number, is))
  ];
  few = omega (arith, so_far.few, length_push ranks r);
  all = λ k lt may. elim (cases_eq k i) [
    | inl same ↦ (length ranks, r, get_last ranks r, is ∙ sym same)
    | inr other ↦ (let found = so_far.all k (omega arith) may in (found.0, found.1, get_before ranks (r ∷ []) found.0 (slice_get_within ranks found.0 found.1 found.2) ∙ found.2, found.3))
  ];
}

pub siblings_same : (n : ℕ) (o : Object) (ranks : List Sibling) (i : ℕ) → may_have_twins n o i ≡ false → AreSiblings n o ranks i → AreSiblings n o ranks (i + 1)
siblings_same n o ranks i none so_far = record {
  each = so_far.each;
  rising = so_far.rising;
  below = λ j r at. (let low = so_far.below j r at in omega (arith, low));
  few = omega (arith, so_far.few);
  all = λ k lt may. elim (cases_eq k i) [
    | inl same ↦ absurd (both_ways _ none (ap (may_have_twins n o) (sym same) ∙ may))
    | inr other ↦ so_far.all k (omega arith) may
  ];
}

-- ---- entries that their own numbers tell apart

own_told : (n : ℕ) (o : Object) (k : ℕ) (e : Entry) → slice_get (entries_of o) k ≡ Some e → own_in n o k ≡ (parts_of n o k e).private
own_told n o k e at = ap (λ (x : Option Entry). option_and_then (λ (parts : Parts). parts.private) (option_map (parts_of n o k) x)) at

pub told_told : (n : ℕ) (o : Object) (k : ℕ) (e : Entry) → slice_get (entries_of o) k ≡ Some e → is_told_in n o k ≡ tell_alone (parts_of n o k e)
told_told n o k e at = ap (λ (x : Option Entry). option_map_or tell_alone (option_map (parts_of n o k) x) false) at

pub wanted : (n : ℕ) (o : Object) (k : ℕ) → is_inside o k ≡ true → is_told_in n o k ≡ false → wants_ordinal n o k ≡ true
wanted n o k inside untold = ap (λ (b : Bool). b && not (is_told_in n o k)) inside ∙ ap not untold

may_have : (n : ℕ) (o : Object) (k : ℕ) → wants_ordinal n o k ≡ true → own_in n o k ≡ None → may_have_twins n o k ≡ true
may_have n o k wants none = ap (λ (b : Bool). b && not (is_some (own_in n o k))) wants ∙ ap (λ (own : Option (ℕ × ℕ)). not (is_some own)) none

never_twins : (a b c : Bool) → b ≡ true → ((a && not b) && not c) ≡ false
never_twins false b c told = refl
never_twins true true c told = refl
never_twins true false c told = absurd (both_ways _ refl told)

pub none_seen : {A B : Type 0} (f : A → B) (x : Option A) → is_some x ≡ false → option_map f x ≡ None
none_seen f None is = refl
none_seen f (Some a) is = absurd (both_ways _ is refl)

-- an entry that its parts tell apart needs no place among its siblings
pub none_told : (n : ℕ) (o : Object) (k : ℕ) (e : Entry) → slice_get (entries_of o) k ≡ Some e → tell_alone (parts_of n o k e) ≡ true → may_have_twins n o k ≡ false
none_told n o k e at told = never_twins (is_inside o k) (is_told_in n o k) (is_some (own_in n o k)) (told_told n o k e at ∙ told)

own_number : (n : ℕ) (o : Object) (k : ℕ) (own : ℕ × ℕ) → own_in n o k ≡ Some own → own.1 ≡ k
own_number n o k own is = go (slice_get (entries_of o) k) is where
  told : (b : Bool) → cond b (Some (n, k)) None ≡ Some own → own.1 ≡ k
  told true is = sym (ap (λ (x : ℕ × ℕ). x.1) (same_Some (n, k) own is))
  told false is = absurd (none-some own is)

  go : (e : Option Entry) → option_and_then (λ (parts : Parts). parts.private) (option_map (parts_of n o k) e) ≡ Some own → own.1 ≡ k
  go None is = absurd (none-some own is)
  go (Some e) is = told (is_overloaded e && not (is_some (spelled_of o k e))) is

-- such an entry has no twins
own_alone : (n : ℕ) (o : Object) (k : ℕ) (own : ℕ × ℕ) → k < length (entries_of o) → own_in n o k ≡ Some own → twins_before n o k ≡ 0
own_alone n o k own within is = go e.0.parent refl where
  e : (e : Entry) × (slice_get (entries_of o) k ≡ Some e)
  e = entry_at (entries_of o) k within

  never : (m : ℕ) → m < k → AreTwins n o m k → ⊥
  never m under twins = (
      let at_m = own_number n o m own (ap (option_and_then (λ (parts : Parts). parts.private)) twins.parts ∙ is) in
      let at_k = own_number n o k own is in
      omega (arith, at_m, at_k, under))

  go : (p : Option ℕ) → e.0.parent ≡ p → twins_before n o k ≡ 0
  go None top = ap (λ (x : Option Entry). option_map_or (λ e. option_map_or (λ p. length (earlier_twins n o p k (parts_of n o k e))) e.parent 0) x 0) e.1 ∙ ap (λ (x : Option ℕ). option_map_or (λ p. length (earlier_twins n o p k (parts_of n o k e.0))) x 0) top
  go (Some p) child = no_twin n o k p e.0 e.1 child never

-- ---- the nearest earlier twin

-- twins have one hash
pub twin_hash : (n : ℕ) (o : Object) (a b : Sibling) → IsSibling n o a → IsSibling n o b → AreTwins n o a.number b.number → a.hash ≡ b.hash
twin_hash n o a b first second twins =
    let parent : first.parent ≡ second.parent = same_Some first.parent second.parent (sym (parent_at o a.number first.entry first.stands ∙ first.child) ∙ twins.parent ∙ (parent_at o b.number second.entry second.stands ∙ second.child)) in
    let parts : parts_of n o a.number first.entry ≡ parts_of n o b.number second.entry = same_Some (parts_of n o a.number first.entry) (parts_of n o b.number second.entry)
    (sym (ap (option_map (parts_of n o a.number)) first.stands) ∙ twins.parts ∙ ap (option_map (parts_of n o b.number)) second.stands) in
    first.hash ∙ (λ j. parts_hash (parent j) (parts j)) ∙ sym second.hash

-- an earlier twin has a rank before
twin_before : (n : ℕ) (o : Object) (ranks : List Sibling) (here : Sibling) (i m : ℕ) → AreSiblings n o ranks (length (entries_of o)) → slice_get ranks i ≡ Some here → m < here.number → AreTwins n o m here.number
    → (k : ℕ) × (r : Sibling) × (slice_get ranks k ≡ Some r) × (r.number ≡ m) × (k < i)
twin_before n o ranks here i m are at before twins =
    let it = are.each i here at in
    let parent_m : parent_of (entries_of o) m ≡ Some it.parent = twins.parent ∙ parent_at o here.number it.entry it.stands ∙ it.child in
    let in_m : is_inside o m ≡ true = ap (λ (p : Option ℕ). option_map_or (is_in_head o) p false) parent_m ∙ it.inside in
    let told_m : is_told_in n o m ≡ false = ap (λ (p : Option Parts). option_map_or tell_alone p false) twins.parts ∙ told_told n o here.number it.entry it.stands ∙ it.untold in
    let own_m : own_in n o m ≡ None = ap (option_and_then (λ (parts : Parts). parts.private)) twins.parts ∙ own_told n o here.number it.entry it.stands ∙ it.common in
    let inside : m < length (entries_of o) = omega (arith, before, slice_get_within (entries_of o) here.number it.entry it.stands) in
    let found = are.all m inside (may_have n o m (wanted n o m in_m told_m) own_m) in
    let earlier : found.0 < i = elim (cases_lt found.0 i) [
      | inl lt ↦ lt
      | inr later ↦ elim (cases_eq found.0 i) [
        | inl same ↦ absurd (let number = ap (λ (t : Sibling). t.number) (same_Some found.1 here (sym found.2 ∙ ap (slice_get ranks) same ∙ at)) in omega (arith, number, found.3, before))
        | inr other ↦ absurd (let higher = are.rising i found.0 here found.1 (omega (arith, later, other)) at found.2 in omega (arith, higher, found.3, before))
      ]
    ] in
    (found.0, found.1, found.2, found.3, earlier)

pub taken : (n : ℕ) (o : Object) (ranks : List Sibling) (counts : List ℕ) (here r : Sibling) (j i : ℕ) → AreSiblings n o ranks (length (entries_of o)) → slice_get ranks i ≡ Some here → slice_get ranks j ≡ Some r → j < i
    → AreTwins n o r.number here.number → ((k : ℕ) (s : Sibling) → j + 1 ≤ k → k < i → slice_get ranks k ≡ Some s → AreTwins n o s.number here.number → ⊥) → AreCounted n o ranks counts i → get_or counts r.number 0 + 1 ≡ twins_before n o here.number
taken n o ranks counts here r j i are at at_j below twins none counted =
    let it = are.each i here at in
    let its = are.each j r at_j in
    let lower = are.rising j i r here below at_j at in
    let more = one_twin_more n o r.number here.number it.parent its.entry it.entry its.stands it.stands it.child lower twins (λ m above under is. (
    let found = twin_before n o ranks here i m are at under is in
    elim (cases_lt found.0 (j + 1)) [
      | inr in_run ↦ none found.0 found.1 in_run found.4 found.2 (subst (λ (x : ℕ). AreTwins n o x here.number) (sym found.3) is)
      | inl not_after ↦ elim (cases_eq found.0 j) [
        | inl same ↦ (let number = ap (λ (t : Sibling). t.number) (same_Some found.1 r (sym found.2 ∙ ap (slice_get ranks) same ∙ at_j)) in omega (arith, number, found.3, above))
        | inr other ↦ (let less = are.rising found.0 j found.1 r (omega (arith, not_after, other)) found.2 at_j in omega (arith, less, found.3, above))
      ]
    ])) in
    ap (λ (c : ℕ). c + 1) (counted.each j r below at_j) ∙ sym more

pub none_taken : (n : ℕ) (o : Object) (ranks : List Sibling) (here : Sibling) (i : ℕ) → AreSiblings n o ranks (length (entries_of o)) → slice_get ranks i ≡ Some here
    → ((k : ℕ) (s : Sibling) → 0 ≤ k → k < i → slice_get ranks k ≡ Some s → AreTwins n o s.number here.number → ⊥) → 0 ≡ twins_before n o here.number
none_taken n o ranks here i are at none =
    let it = are.each i here at in
    sym (no_twin n o here.number it.parent it.entry it.stands it.child (λ m under is. (
    let found = twin_before n o ranks here i m are at under is in
    none found.0 found.1 (omega arith) found.4 found.2 (subst (λ (x : ℕ). AreTwins n o x here.number) (sym found.3) is))))

-- ---- along a chain

pub walked_begun : (n : ℕ) (o : Object) (ranks : List Sibling) (cells : ℕ) (here : Sibling) (link i : ℕ) → AreSiblings n o ranks (length (entries_of o)) → slice_get ranks i ≡ Some here → IsNewest ranks cells (cell_of cells here) i link → IsWalked n o ranks cells here link i
walked_begun n o ranks cells here link i are at newest = record {
  le = newest.le;
  own = newest.own;
  differ = λ k r from below at_k twins. newest.none k r from below at_k (ap (λ (h : ℕ). h / 2 ^ 32 % cells) (twin_hash n o r here (are.each k r at_k) (are.each i here at) twins));
}

pub walked_more : (n : ℕ) (o : Object) (ranks : List Sibling) (cells : ℕ) (here r : Sibling) (j link i : ℕ) → AreSiblings n o ranks (length (entries_of o)) → slice_get ranks i ≡ Some here → slice_get ranks j ≡ Some r → (AreTwins n o r.number here.number → ⊥)
    → IsNewest ranks cells (cell_of cells r) j link → IsWalked n o ranks cells here (j + 1) i → IsWalked n o ranks cells here link i
walked_more n o ranks cells here r j link i are at at_j differs newest so_far =
    let same : cell_of cells r ≡ cell_of cells here = so_far.own j r refl at_j in
    record {
      le = omega (arith, newest.le, so_far.le);
      own = λ k s is at_k. newest.own k s is at_k ∙ same;
      differ = λ k s from below at_k twins. elim (cases_lt k j) [
        | inl before ↦ newest.none k s from before at_k (ap (λ (h : ℕ). h / 2 ^ 32 % cells) (twin_hash n o s here (are.each k s at_k) (are.each i here at) twins) ∙ sym same)
        | inr not_before ↦ elim (cases_eq k j) [
          | inl here_is ↦ differs (subst (λ (t : Sibling). AreTwins n o t.number here.number) (same_Some s r (sym at_k ∙ ap (slice_get ranks) here_is ∙ at_j)) twins)
          | inr other ↦ so_far.differ k s (omega (arith, not_before, other)) below at_k twins
        ]
      ];
    }

-- ---- ranks in chains

pub chained_begun : (ranks : List Sibling) (chains : Chains) (cells : ℕ) → 1 ≤ cells → chains.newest.items ≡ replicate cells 0 → chains.before.items ≡ [] → AreChained ranks chains 0
chained_begun ranks chains cells some newest before = record {
  some = omega (arith, some, ap length newest, length-replicate cells zero_of);
  len = ap length before;
  newest = λ c within. (
      let none : get_or chains.newest.items c 0 ≡ 0 = ap (λ (xs : List ℕ). get_or xs c 0) newest ∙ get_or-replicate cells c zero_of 0 (omega (arith, within, ap length newest, length-replicate cells zero_of)) in
      record { le = omega (arith, none); own = λ k r is at. absurd (omega (arith, is, none)); none = λ k r from below at. absurd (omega arith) });
  before = λ k r below. absurd (omega arith);
} where
  zero_of : ℕ
  zero_of = 0

pub chained_more : (ranks : List Sibling) (old new : Chains) (r : Sibling) (i c : ℕ) → slice_get ranks i ≡ Some r → c ≡ cell_of (length old.newest.items) r → c < length old.newest.items → new.newest.items ≡ set old.newest.items c (i + 1) → new.before.items ≡ old.before.items ++ get_or old.newest.items c 0 ∷ []
    → AreChained ranks old i → AreChained ranks new (i + 1)
chained_more ranks old new r i c at is within newest before so_far =
    let len : length new.newest.items ≡ length old.newest.items = ap length newest ∙ length-set old.newest.items c (i + 1) in
    record {
      some = omega (arith, len, so_far.some);
      len = ap length before ∙ length_push old.before.items (get_or old.newest.items c 0) ∙ ap (λ (k : ℕ). k + 1) so_far.len;
      newest = λ d inside. subst (λ (cells : ℕ). IsNewest ranks cells d (i + 1) (get_or new.newest.items d 0)) (sym len) (elim (cases_eq d c) [
        | inl same ↦ subst (IsNewest ranks (length old.newest.items) d (i + 1)) (sym (ap (λ (xs : List ℕ). get_or xs d 0) newest ∙ ap (λ (x : ℕ). get_or (set old.newest.items c (i + 1)) x 0) same ∙ get_or-set_same old.newest.items c (i + 1) 0 within))
            (record {
              le = omega arith;
              own = λ k s link at_k. (
                  let last : k ≡ i = omega (arith, link) in
                  ap (cell_of (length old.newest.items)) (same_Some s r (sym at_k ∙ ap (slice_get ranks) last ∙ at)) ∙ sym is ∙ sym same);
              none = λ k s from below at_k. absurd (omega arith);
            })
        | inr other ↦ subst (IsNewest ranks (length old.newest.items) d (i + 1)) (sym (ap (λ (xs : List ℕ). get_or xs d 0) newest ∙ get_or-set_other old.newest.items c d (i + 1) 0 other))
            (let was = so_far.newest d (omega (arith, inside, len)) in
            record {
              le = omega (arith, was.le);
              own = was.own;
              none = λ k s from below at_k cell. elim (cases_eq k i) [
                | inl last ↦ other (sym cell ∙ (ap (cell_of (length old.newest.items)) (same_Some s r (sym at_k ∙ ap (slice_get ranks) last ∙ at)) ∙ sym is))
                | inr not_last ↦ was.none k s from (omega (arith, below, not_last)) at_k cell
              ];
            })
      ]);
      before = λ k s below at_k. subst (λ (cells : ℕ). IsNewest ranks cells (cell_of cells s) k (get_or new.before.items k 0)) (sym len) (elim (cases_eq k i) [
        | inl last ↦ (
            let same : s ≡ r = same_Some s r (sym at_k ∙ ap (slice_get ranks) last ∙ at) in
            let link : get_or new.before.items k 0 ≡ get_or old.newest.items c 0 = ap (λ (xs : List ℕ). get_or xs k 0) before ∙ get_or_push old.before.items (get_or old.newest.items c 0) 0 k (so_far.len ∙ sym last) in
            subst (IsNewest ranks (length old.newest.items) (cell_of (length old.newest.items) s) k) (sym link)
            (subst (λ (m : ℕ). IsNewest ranks (length old.newest.items) (cell_of (length old.newest.items) s) m (get_or old.newest.items c 0)) (sym last)
            (subst (λ (d : ℕ). IsNewest ranks (length old.newest.items) d i (get_or old.newest.items c 0)) (is ∙ sym (ap (cell_of (length old.newest.items)) same)) (so_far.newest c within))))
        | inr not_last ↦ (
            let link : get_or new.before.items k 0 ≡ get_or old.before.items k 0 = ap (λ (xs : List ℕ). get_or xs k 0) before ∙ get_or_append_left old.before.items (get_or old.newest.items c 0 ∷ []) 0 k (omega (arith, below, not_last, so_far.len)) in
            subst (IsNewest ranks (length old.newest.items) (cell_of (length old.newest.items) s) k) (sym link) (so_far.before k s (omega (arith, below, not_last)) at_k))
      ]);
    }

-- ---- counts rank by rank

pub counted_more : (n : ℕ) (o : Object) (ranks : List Sibling) (counts : List ℕ) (i : ℕ) (here : Sibling) (count : ℕ) → AreSiblings n o ranks (length (entries_of o)) → slice_get ranks i ≡ Some here → count ≡ twins_before n o here.number
    → AreCounted n o ranks counts i → AreCounted n o ranks (set counts here.number count) (i + 1)
counted_more n o ranks counts i here count are at is so_far = record {
  len = length-set counts here.number count ∙ so_far.len;
  each = λ j r below at_j. elim (cases_eq r.number here.number) [
    | inl same ↦ ap (λ (x : ℕ). get_or (set counts here.number count) x 0) same ∙ get_or-set_same counts here.number count 0 (omega (arith, slice_get_within (entries_of o) here.number (are.each i here at).entry (are.each i here at).stands, so_far.len)) ∙ is ∙ ap (twins_before n o) (sym same)
    | inr other ↦ (
        let earlier : j < i = elim (cases_eq j i) [
          | inl last ↦ absurd (other (ap (λ (t : Sibling). t.number) (same_Some r here (sym at_j ∙ ap (slice_get ranks) last ∙ at))))
          | inr not_last ↦ omega arith
        ] in
        get_or-set_other counts here.number r.number count 0 other ∙ so_far.each j r earlier at_j)
  ];
  others = λ k none. get_or-set_other counts here.number k count 0 (λ same. none (i, here, at, sym same)) ∙ so_far.others k none;
}

pub counted_all : (n : ℕ) (o : Object) (ranks : List Sibling) (counts : List ℕ) (k : ℕ) → AreSiblings n o ranks (length (entries_of o)) → AreCounted n o ranks counts (length ranks) → k < length (entries_of o) → wants_ordinal n o k ≡ true → get_or counts k 0 ≡ twins_before n o k
counted_all n o ranks counts k are counted within wants = go (own_in n o k) refl where
  go : (own : Option (ℕ × ℕ)) → own_in n o k ≡ own → get_or counts k 0 ≡ twins_before n o k
  go None none = (
      let found = are.all k within (may_have n o k wants none) in
      subst (λ (x : ℕ). get_or counts x 0 ≡ twins_before n o x) found.3 (counted.each found.0 found.1 (slice_get_within ranks found.0 found.1 found.2) found.2))
  go (Some own) is = counted.others k (λ among. (
      let it = are.each among.0 among.1 among.2 in
      none-some own (sym (ap (own_in n o) (sym among.3) ∙ own_told n o among.1.number it.entry it.stands ∙ it.common) ∙ is)))
      ∙ sym (own_alone n o k own within is)

-- ---- what is told of siblings

list_any_last : (test : ℕ → Bool) (xs : List ℕ) (x : ℕ) → list_any test xs ≡ true → list_any test (xs ++ x ∷ []) ≡ true
list_any_last test xs x is = list_any-append test xs (x ∷ []) ∙ ap (λ (b : Bool). b || list_any test (x ∷ [])) is

-- what stands below an entry in the subtree of a head stands there too
pub inside_below : (o : Object) (k p : ℕ) → ParentsStandBefore (entries_of o) → parent_of (entries_of o) k ≡ Some p → is_in_head o p ≡ true → is_in_head o k ≡ true
inside_below o k p before child inside = ap (list_any (is_head o)) (lineage_below (entries_of o) k p before child) ∙ list_any_last (is_head o) (lineage (entries_of o) p) k inside

pub sibling_spelled : (n : ℕ) (o : Object) (r : Sibling) → ParentsStandBefore (entries_of o) → IsSibling n o r → IsSpelled o r.number
sibling_spelled n o r before it = spelled_in_head o r.number (inside_below o r.number it.parent before (parent_at o r.number it.entry it.stands ∙ it.child) it.inside)

-- the parent that stands in the subtree of a head
pub found_inside : (o : Object) (row : List Bool) (k p : ℕ) → ParentsStandBefore (entries_of o) → k < length (entries_of o) → IsRow (is_in_head o) (length (entries_of o)) row
    → option_and_then (λ (p : ℕ). if get_or row p false then Some p else None) (parent_of (entries_of o) k) ≡ Some p → (parent_of (entries_of o) k ≡ Some p) × (is_in_head o p ≡ true)
found_inside o row k p before within are is = go (parent_of (entries_of o) k) refl is where
  decide : (q : ℕ) (b : Bool) → get_or row q false ≡ b → cond b (Some q) None ≡ Some p → q < k → (Some q ≡ Some p) × (is_in_head o p ≡ true)
  decide q true marked same lower = (same, sym (ap (is_in_head o) (same_Some q p same)) ∙ sym (are.each q (omega arith)) ∙ marked)
  decide q false marked same lower = absurd (none-some p same)

  go : (x : Option ℕ) → parent_of (entries_of o) k ≡ x → option_and_then (λ (p : ℕ). if get_or row p false then Some p else None) x ≡ Some p → (x ≡ Some p) × (is_in_head o p ≡ true)
  go None top same = absurd (none-some p same)
  go (Some q) up same = decide q (get_or row q false) refl same (parent_before (entries_of o) k q before up)

pub none_inside : (o : Object) (row : List Bool) (k : ℕ) → ParentsStandBefore (entries_of o) → k < length (entries_of o) → IsRow (is_in_head o) (length (entries_of o)) row
    → option_and_then (λ (p : ℕ). if get_or row p false then Some p else None) (parent_of (entries_of o) k) ≡ None → is_inside o k ≡ false
none_inside o row k before within are is = go (parent_of (entries_of o) k) refl is where
  decide : (q : ℕ) (b : Bool) → get_or row q false ≡ b → cond b (Some q) None ≡ None → q < k → is_in_head o q ≡ false
  decide q true marked same lower = absurd (none-some q (sym same))
  decide q false marked same lower = sym (are.each q (omega arith)) ∙ marked

  go : (x : Option ℕ) → parent_of (entries_of o) k ≡ x → option_and_then (λ (p : ℕ). if get_or row p false then Some p else None) x ≡ None → option_map_or (is_in_head o) x false ≡ false
  go None top same = refl
  go (Some q) up same = decide q (get_or row q false) refl same (parent_before (entries_of o) k q before up)
