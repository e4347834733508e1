-- Ranks by what twins share, in a table in order.
use Rattle.std.proofs.Common.{◌≡◌, ℕ, ◌+◌, ◌<◌, ◌≤◌, ◌⊎◌, inl, inr, Bool, true, false, cond, List, length, Option, Some, None, slice_get, refl, sym, ap, ◌∙◌, arith, subst}
use Rattle.std.specs.Prelude.{◌&&◌}
use Rattle.std.specs.BTreeMap.{BTreeMap, Updates, get}
use Rattle.std.specs.Cmp.{Equal-is, tied_then}
use Rattle.std.specs.Option.{option_cmp, option_map, option_map_or}
use Rattle.std.specs.Ordering.{is_eq, nat_cmp, ordering_then}
use Rattle.std.specs.declared.cmp.Ordering.{Ordering}
use Rattle.std.proofs.lemmas.Bool.{both_ways, cases_eq, eq-eqb, le-ltb}
use Rattle.std.proofs.lemmas.Map.Lookups.{exact_unsigned}
use Rattle.std.proofs.lemmas.Map.Text.{is_eq-slice_cmp}
use Rattle.std.proofs.lemmas.Option.{none-some, same_Some}
use Rattle.std.proofs.lemmas.Slice.Eq.{bytes_eq-Decides}
use denote.Ref.{Bor}
use Rattle.odr_names.specs.declared.ordinals.Sibling.{Sibling}
use Rattle.odr_names.specs.declared.twin_table.TwinKey.{TwinKey}
use Rattle.odr_names.specs.TwinTable.{HasNoTwin, HasTwin, IsKeyOf, IsTold, key_cmp, parts_keyed, text_cmp, told_in}
use Rattle.odr_names.specs.Twins.{AreCounted, AreSiblings, AreTwins, twins_before}
use Rattle.type_names.specs.Entries.{Text}
use Rattle.type_names.specs.Heads.{Object, entries_of}
use Rattle.type_names.specs.Paths.{Parts}
use Rattle.odr_names.proofs.Siblings.{none_taken, taken, twin_hash}

-- ---- what is equal in the order

numbers_same : (x y : ℕ) → is_eq (nat_cmp x y) ≡ true → x ≡ y
numbers_same x y is = exact_unsigned x y ((Equal-is (nat_cmp x y)).0 is)

same_number : (x y : ℕ) → x ≡ y → is_eq (nat_cmp x y) ≡ true
same_number x y is = rw (← is, le-ltb x x (omega arith), eq-eqb x x refl) refl

parents_same : (a b : Option ℕ) → is_eq (option_cmp nat_cmp a b) ≡ true → a ≡ b
parents_same None None is = refl
parents_same None (Some b) is = absurd (both_ways _ refl is)
parents_same (Some a) None is = absurd (both_ways _ refl is)
parents_same (Some a) (Some b) is = ap (λ (p : ℕ). Some p) (numbers_same a b is)

same_parent : (a b : Option ℕ) → a ≡ b → is_eq (option_cmp nat_cmp a b) ≡ true
same_parent None None is = refl
same_parent None (Some b) is = absurd (none-some b is)
same_parent (Some a) None is = absurd (none-some a (sym is))
same_parent (Some a) (Some b) is = same_number a b (same_Some a b is)

abbrev text_of : Option (Bor (List ℕ)) → Option Text
text_of = option_map (λ text. text.now)

texts_same : (a b : Option (Bor (List ℕ))) → is_eq (text_cmp a b) ≡ true → text_of a ≡ text_of b
texts_same None None is = refl
texts_same None (Some b) is = absurd (both_ways _ refl is)
texts_same (Some a) None is = absurd (both_ways _ refl is)
texts_same (Some a) (Some b) is = ap (λ (t : Text). Some t) ((bytes_eq-Decides a.now b.now).0 (sym (is_eq-slice_cmp a.now b.now) ∙ is))

same_text : (a b : Option (Bor (List ℕ))) → text_of a ≡ text_of b → is_eq (text_cmp a b) ≡ true
same_text None None is = refl
same_text None (Some b) is = absurd (none-some b.now is)
same_text (Some a) None is = absurd (none-some a.now (sym is))
same_text (Some a) (Some b) is = is_eq-slice_cmp a.now b.now ∙ (bytes_eq-Decides a.now b.now).1 (same_Some a.now b.now is)

first_equal : (a b : Ordering) → is_eq (ordering_then a b) ≡ true → (is_eq a ≡ true) × (is_eq b ≡ true)
first_equal a b is = both (is_eq a) (is_eq b) (tied_then a b ∙ is) where
  both : (x y : Bool) → (x && y) ≡ true → (x ≡ true) × (y ≡ true)
  both true y it = (refl, it)
  both false y it = absurd (both_ways _ refl it)

both_equal : (a b : Ordering) → is_eq a ≡ true → is_eq b ≡ true → is_eq (ordering_then a b) ≡ true
both_equal a b first second = sym (tied_then a b) ∙ ap (λ (x : Bool). x && is_eq b) first ∙ second

-- ---- keys and twins

-- ranks with equal keys are twins
keyed_twins : (n : ℕ) (o : Object) (r s : Sibling) (a b : TwinKey) → IsKeyOf n o r a → IsKeyOf n o s b → is_eq (key_cmp a b) ≡ true → AreTwins n o r.number s.number
keyed_twins n o r s a b key_r key_s is =
    let one = first_equal (nat_cmp a.hash b.hash) _ is in
    let two = first_equal (option_cmp nat_cmp a.parent b.parent) _ one.1 in
    let three = first_equal (nat_cmp a.tag b.tag) _ two.1 in
    let four = first_equal (text_cmp a.name b.name) _ three.1 in
    let five = first_equal (text_cmp a.linkage b.linkage) (text_cmp a.spelled b.spelled) four.1 in
    let tag = numbers_same a.tag b.tag three.0 in
    let name = texts_same a.name b.name four.0 in
    let linkage = texts_same a.linkage b.linkage five.0 in
    let spelled = texts_same a.spelled b.spelled five.1 in
    let parts : parts_keyed a ≡ parts_keyed b = (λ i. record { tag = tag i; name = name i; linkage = linkage i; spelled = spelled i; private = None }) in
    record {
      parent = key_r.parent ∙ parents_same a.parent b.parent two.0 ∙ sym key_s.parent;
      parts = key_r.parts ∙ ap (λ (p : Parts). Some p) parts ∙ sym key_s.parts;
    }

-- twins have equal keys
twins_keyed : (n : ℕ) (o : Object) (r s : Sibling) (a b : TwinKey) → IsKeyOf n o r a → IsKeyOf n o s b → r.hash ≡ s.hash → AreTwins n o r.number s.number → is_eq (key_cmp a b) ≡ true
twins_keyed n o r s a b key_r key_s hash twins =
    let parts : parts_keyed a ≡ parts_keyed b = same_Some (parts_keyed a) (parts_keyed b) (sym key_r.parts ∙ twins.parts ∙ key_s.parts) in
    let parent : a.parent ≡ b.parent = sym key_r.parent ∙ twins.parent ∙ key_s.parent in
    let name = same_text a.name b.name (ap (λ (p : Parts). p.name) parts) in
    let linkage = same_text a.linkage b.linkage (ap (λ (p : Parts). p.linkage) parts) in
    let spelled = same_text a.spelled b.spelled (ap (λ (p : Parts). p.spelled) parts) in
    let tag = same_number a.tag b.tag (ap (λ (p : Parts). p.tag) parts) in
    both_equal (nat_cmp a.hash b.hash) _ (same_number a.hash b.hash (key_r.hash ∙ hash ∙ sym key_s.hash))
    (both_equal (option_cmp nat_cmp a.parent b.parent) _ (same_parent a.parent b.parent parent)
    (both_equal (nat_cmp a.tag b.tag) _ tag
    (both_equal (text_cmp a.name b.name) _ name
    (both_equal (text_cmp a.linkage b.linkage) (text_cmp a.spelled b.spelled) linkage spelled))))

-- ---- what the table tells

abbrev Tells : ℕ → Object → List Sibling → Sibling → ℕ → ℕ → Type 0
Tells n o ranks r i count = ((count ≡ 0) × HasNoTwin n o ranks r i) ⊎ HasTwin n o ranks r i count

pub told_nothing : (n : ℕ) (o : Object) (ranks : List Sibling) (table : BTreeMap TwinKey ℕ) → ((key : TwinKey) → get key_cmp table key ≡ None) → IsTold n o ranks table 0
told_nothing n o ranks table none r key sibling is = inl (ap (λ (x : Option ℕ). option_map_or (λ count. count) x 0) (none key), λ k s from below. absurd (omega arith))

-- what is told of the rank at a place is how many twins it has
pub told_here : (n : ℕ) (o : Object) (ranks : List Sibling) (counts : List ℕ) (table : BTreeMap TwinKey ℕ) (here : Sibling) (key : TwinKey) (i : ℕ) → AreSiblings n o ranks (length (entries_of o)) → slice_get ranks i ≡ Some here → IsKeyOf n o here key
    → AreCounted n o ranks counts i → IsTold n o ranks table i → told_in table key ≡ twins_before n o here.number
told_here n o ranks counts table here key i are at is counted told = elim (told here key (are.each i here at) is) [
  | inl none ↦ none.0 ∙ none_taken n o ranks here i are at none.1
  | inr some ↦ (
      some.counted ∙ ap (λ (c : ℕ). c + 1) (sym (counted.each some.place some.last some.before some.stands))
      ∙ taken n o ranks counts here some.last some.place i are at some.stands some.before some.twins some.none counted)
]

-- one rank more is told of
pub told_more : (n : ℕ) (o : Object) (ranks : List Sibling) (old new : BTreeMap TwinKey ℕ) (here : Sibling) (key : TwinKey) (i count : ℕ) → AreSiblings n o ranks (length (entries_of o)) → slice_get ranks i ≡ Some here → IsKeyOf n o here key
    → count ≡ twins_before n o here.number → Updates key_cmp old new key (Some (count + 1)) → IsTold n o ranks old i → IsTold n o ranks new (i + 1)
told_more n o ranks old new here key i count are at is counted updates told r other sibling its = by (is_eq (key_cmp key other)) refl where
  number : Option ℕ → ℕ
  number x = option_map_or (λ count. count) x 0

  apart : is_eq (key_cmp key other) ≡ false → (s : Sibling) → slice_get ranks i ≡ Some s → AreTwins n o s.number r.number → ⊥
  apart differ s at_s twins =
      let same : s ≡ here = same_Some s here (sym at_s ∙ at) in
      let their : AreTwins n o here.number r.number = subst (λ (t : Sibling). AreTwins n o t.number r.number) same twins in
      both_ways _ differ (twins_keyed n o here r key other is its (twin_hash n o here r (are.each i here at) sibling their) their)

  none_more : is_eq (key_cmp key other) ≡ false → (from : ℕ) → ((k : ℕ) (s : Sibling) → from ≤ k → k < i → slice_get ranks k ≡ Some s → AreTwins n o s.number r.number → ⊥)
      → (k : ℕ) (s : Sibling) → from ≤ k → k < i + 1 → slice_get ranks k ≡ Some s → AreTwins n o s.number r.number → ⊥
  none_more differ from none k s behind below at_k twins = elim (cases_eq k i) [
    | inl last ↦ apart differ s (sym (ap (slice_get ranks) last) ∙ at_k) twins
    | inr other ↦ none k s behind (omega (arith, below, other)) at_k twins
  ]

  kept : is_eq (key_cmp key other) ≡ false → told_in old other ≡ told_in new other
  kept differ = sym (ap number (updates.0 other ∙ ap (λ (b : Bool). cond b (Some (count + 1)) (get key_cmp old other)) differ))

  by : (b : Bool) → is_eq (key_cmp key other) ≡ b → Tells n o ranks r (i + 1) (told_in new other)
  by true same = inr (record {
    place = i;
    last = here;
    before = omega arith;
    stands = at;
    twins = keyed_twins n o here r key other is its same;
    counted = ap number (updates.0 other ∙ ap (λ (b : Bool). cond b (Some (count + 1)) (get key_cmp old other)) same) ∙ ap (λ (c : ℕ). c + 1) counted;
    none = λ k s from below. absurd (omega arith);
  })
  by false differ = subst (Tells n o ranks r (i + 1)) (kept differ) (elim (told r other sibling its) [
    | inl nothing ↦ inl (nothing.0, none_more differ 0 nothing.1)
    | inr some ↦ inr (record {
      place = some.place;
      last = some.last;
      before = omega (arith, some.before);
      stands = some.stands;
      twins = some.twins;
      counted = some.counted;
      none = none_more differ (some.place + 1) some.none;
    })
  ])
