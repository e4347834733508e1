-- Twins counted: one more than those of the nearest earlier one.
use Rattle.std.proofs.Common.{◌≡◌, ℕ, zero, suc, ◌+◌, ◌-◌, ◌<◌, ◌≤◌, ◌==◌, ◌&&◌, Bool, true, false, cond, List, [], ◌∷◌, length, Option, Some, None, slice_get, refl, sym, ap, ◌∙◌, arith, subst, inl, inr}
use Rattle.std.specs.Prelude.{nat_lt}
use Rattle.std.specs.List.{enumerate_from, filter}
use Rattle.std.specs.Option.{option_and_then, option_map, option_map_or}
use Rattle.std.proofs.lemmas.Bool.{both_ways, eq-eqb, eqb-true, le-ltb, lt-ltb}
use Rattle.std.proofs.lemmas.Slice.Eq.{bytes_eq-Decides}
use Rattle.std.proofs.lemmas.Option.{none-some, same_Some, slice_get_cases, slice_get_within}
use Rattle.dwarf_types.specs.declared.entry.Entry.{Entry}
use Rattle.type_names.specs.Entries.{Text}
use Rattle.type_names.specs.Heads.{Object, entries_of}
use Rattle.type_names.specs.Paths.{Parts, earlier_twins, parts_of, same_entry, same_parts, same_text}
use Rattle.type_names.specs.Tree.{parent_of}
use Rattle.odr_names.specs.Twins.{AreTwins, parts_in, twins_before}

-- how many of the entries before number m pass a test
abbrev pub count_to : (ℕ × Entry → Bool) → List Entry → ℕ → ℕ → ℕ
count_to q es n m = length (filter (λ (e : ℕ × Entry). nat_lt e.0 m && q e) (enumerate_from n es))

abbrev weight : Bool → ℕ
weight true = 1
weight false = 0

none_before : (q : ℕ × Entry → Bool) (es : List Entry) (n m : ℕ) → m ≤ n → count_to q es n m ≡ 0
none_before q [] n m le = refl
none_before q (e ∷ es) n m le =
    ap (λ (b : Bool). length (cond (b && q (n, e)) ((n, e) ∷ filter (λ (e : ℕ × Entry). nat_lt e.0 m && q e) (enumerate_from (n + 1) es)) (filter (λ (e : ℕ × Entry). nat_lt e.0 m && q e) (enumerate_from (n + 1) es)))) (le-ltb n m le)
    ∙ none_before q es (n + 1) m (omega arith)

counted : (b : Bool) (x : ℕ × Entry) (xs : List (ℕ × Entry)) → length (cond b (x ∷ xs) xs) ≡ weight b + length xs
counted true x xs = omega arith
counted false x xs = omega arith

one_more : (q : ℕ × Entry → Bool) (es : List Entry) (n i : ℕ) (e : Entry) → slice_get es i ≡ Some e → count_to q es n (n + i + 1) ≡ count_to q es n (n + i) + weight (q (n + i, e))
one_more q [] n i e at = absurd (none-some e at)
one_more q (x ∷ es) n zero e at =
    let here : n + 0 ≡ n = omega arith in
    let lists : ℕ → List (ℕ × Entry) = λ m. filter (λ (e : ℕ × Entry). nat_lt e.0 m && q e) (enumerate_from (n + 1) es) in
    let after = counted (nat_lt n (n + 0 + 1) && q (n, x)) (n, x) (lists (n + 0 + 1)) in
    let before = counted (nat_lt n (n + 0) && q (n, x)) (n, x) (lists (n + 0)) in
    let tail_after = none_before q es (n + 1) (n + 0 + 1) (omega arith) in
    let tail_before = none_before q es (n + 1) (n + 0) (omega arith) in
    let yes_after : (nat_lt n (n + 0 + 1) && q (n, x)) ≡ q (n, x) = ap (λ (b : Bool). b && q (n, x)) (lt-ltb n (n + 0 + 1) (omega arith)) in
    let no_before : (nat_lt n (n + 0) && q (n, x)) ≡ false = ap (λ (b : Bool). b && q (n, x)) (le-ltb n (n + 0) (omega arith)) in
    let same : q (n, x) ≡ q (n + 0, e) = (λ i. q (sym here i, same_Some x e at i)) in
    let w = ap weight (yes_after ∙ same) in
    let z : weight (nat_lt n (n + 0) && q (n, x)) ≡ 0 = ap weight no_before in
    omega (arith, after, before, tail_after, tail_before, w, z)
one_more q (x ∷ es) n (suc i) e at =
    let lists : ℕ → List (ℕ × Entry) = λ m. filter (λ (e : ℕ × Entry). nat_lt e.0 m && q e) (enumerate_from (n + 1) es) in
    let next : n + 1 + i ≡ n + suc i = omega arith in
    let rest = one_more q es (n + 1) i e at in
    let after = counted (nat_lt n (n + suc i + 1) && q (n, x)) (n, x) (lists (n + suc i + 1)) in
    let before = counted (nat_lt n (n + suc i) && q (n, x)) (n, x) (lists (n + suc i)) in
    let head : (nat_lt n (n + suc i + 1) && q (n, x)) ≡ (nat_lt n (n + suc i) && q (n, x)) = ap (λ (b : Bool). b && q (n, x)) (lt-ltb n (n + suc i + 1) (omega arith) ∙ sym (lt-ltb n (n + suc i) (omega arith))) in
    let w = ap weight head in
    let moved : length (lists (n + suc i + 1)) ≡ length (lists (n + suc i)) + weight (q (n + suc i, e)) =
    subst (λ (m : ℕ). length (lists (m + 1)) ≡ length (lists m) + weight (q (m, e))) next rest in
    omega (arith, after, before, w, moved)

-- from number to number
pub more_true : (q : ℕ × Entry → Bool) (es : List Entry) (m : ℕ) (e : Entry) → slice_get es m ≡ Some e → q (m, e) ≡ true → count_to q es 0 (m + 1) ≡ count_to q es 0 m + 1
more_true q es m e at is =
    let here : 0 + m ≡ m = omega arith in
    let step = subst (λ (k : ℕ). count_to q es 0 (k + 1) ≡ count_to q es 0 k + weight (q (k, e))) here (one_more q es 0 m e at) in
    let w : weight (q (m, e)) ≡ 1 = ap weight is in
    omega (arith, step, w)

pub more_false : (q : ℕ × Entry → Bool) (es : List Entry) (m : ℕ) (e : Entry) → slice_get es m ≡ Some e → q (m, e) ≡ false → count_to q es 0 (m + 1) ≡ count_to q es 0 m
more_false q es m e at is =
    let here : 0 + m ≡ m = omega arith in
    let step = subst (λ (k : ℕ). count_to q es 0 (k + 1) ≡ count_to q es 0 k + weight (q (k, e))) here (one_more q es 0 m e at) in
    let w : weight (q (m, e)) ≡ 0 = ap weight is in
    omega (arith, step, w)

pub entry_at : (es : List Entry) (m : ℕ) → m < length es → (e : Entry) × (slice_get es m ≡ Some e)
entry_at es m within = elim (slice_get_cases es m).1 [ inl some ↦ (some.0, some.2) | inr past ↦ absurd (omega (arith, past.0)) ]

pub none_between : (q : ℕ × Entry → Bool) (es : List Entry) (from d : ℕ) → from + d ≤ length es → ((m : ℕ) (e : Entry) → from ≤ m → m < from + d → slice_get es m ≡ Some e → q (m, e) ≡ false) → count_to q es 0 (from + d) ≡ count_to q es 0 from
none_between q es from zero le never = (let here : from + 0 ≡ from = omega arith in ap (count_to q es 0) here)
none_between q es from (suc d) le never =
    let e = entry_at es (from + d) (omega arith) in
    let next : from + suc d ≡ from + d + 1 = omega arith in
    ap (count_to q es 0) next ∙ more_false q es (from + d) e.0 e.1 (never (from + d) e.0 (omega arith) (omega arith) e.1)
    ∙ none_between q es from d (omega arith) (λ m x lower upper at. never m x lower (omega arith) at)

pub at_most : (q : ℕ × Entry → Bool) (es : List Entry) (m : ℕ) → m ≤ length es → count_to q es 0 m ≤ m
at_most q es zero le = omega (arith, none_before q es 0 0 (omega arith))
at_most q es (suc m) le =
    let e = entry_at es m (omega arith) in
    let here : 0 + m ≡ m = omega arith in
    let step = subst (λ (k : ℕ). count_to q es 0 (k + 1) ≡ count_to q es 0 k + weight (q (k, e.0))) here (one_more q es 0 m e.0 e.1) in
    let next : suc m ≡ m + 1 = omega arith in
    let small = small_weight (q (m, e.0)) in
    let so_far = at_most q es m (omega arith) in
    let is = ap (count_to q es 0) next in
    omega (arith, step, small, so_far, is) where
      small_weight : (b : Bool) → weight b ≤ 1
      small_weight true = omega arith
      small_weight false = omega arith

-- ---- the same parts

texts_same : (a b : Option Text) → same_text a b ≡ true → a ≡ b
texts_same None None is = refl
texts_same None (Some b) is = absurd (cc)
texts_same (Some a) None is = absurd (cc)
texts_same (Some a) (Some b) is = ap (λ (t : Text). Some t) ((bytes_eq-Decides a b).0 is)

same_texts : (a : Option Text) → same_text a a ≡ true
same_texts None = refl
same_texts (Some a) = (bytes_eq-Decides a a).1 refl

both : (a b : Bool) → (a && b) ≡ true → (a ≡ true) × (b ≡ true)
both true b is = (refl, is)
both false b is = absurd (both_ways _ refl is)

own_same : (a b : Option (ℕ × ℕ)) → same_entry a b ≡ true → a ≡ b
own_same None None is = refl
own_same None (Some b) is = absurd (both_ways _ refl is)
own_same (Some a) None is = absurd (both_ways _ refl is)
own_same (Some a) (Some b) is =
    let parts = both (a.0 == b.0) (a.1 == b.1) is in
    let x = eqb-true a.0 b.0 parts.0 in
    let y = eqb-true a.1 b.1 parts.1 in
    (λ i. Some (x i, y i))

same_own : (a : Option (ℕ × ℕ)) → same_entry a a ≡ true
same_own None = refl
same_own (Some a) = ap (λ (b : Bool). b && a.1 == a.1) (eq-eqb a.0 a.0 refl) ∙ eq-eqb a.1 a.1 refl

pub parts_same : (a b : Parts) → same_parts a b ≡ true → a ≡ b
parts_same a b is =
    let one = both (a.tag == b.tag) _ is in
    let two = both (same_text a.name b.name) _ one.1 in
    let three = both (same_text a.linkage b.linkage) _ two.1 in
    let four = both (same_text a.spelled b.spelled) _ three.1 in
    let tag = eqb-true a.tag b.tag one.0 in
    let name = texts_same a.name b.name two.0 in
    let linkage = texts_same a.linkage b.linkage three.0 in
    let spelled = texts_same a.spelled b.spelled four.0 in
    let private = own_same a.private b.private four.1 in
    (λ i. record { tag = tag i; name = name i; linkage = linkage i; spelled = spelled i; private = private i })

pub same_parts_self : (a : Parts) → same_parts a a ≡ true
same_parts_self a =
    rw (eq-eqb a.tag a.tag refl, same_texts a.name, same_texts a.linkage, same_texts a.spelled, same_own a.private) refl

-- ---- twins

is_child : ℕ → Entry → Bool
is_child p e = option_map_or (λ q. q == p) e.parent false

twin_test : ℕ → Object → ℕ → Parts → ℕ × Entry → Bool
twin_test n o p parts e = is_child p e.1 && same_parts (parts_of n o e.0 e.1) parts

filters_joined : (c s : ℕ × Entry → Bool) (k : ℕ) (es : List (ℕ × Entry)) → length (filter (λ (e : ℕ × Entry). nat_lt e.0 k && s e) (filter c es)) ≡ length (filter (λ (e : ℕ × Entry). nat_lt e.0 k && (c e && s e)) es)
filters_joined c s k [] = refl
filters_joined c s k (e ∷ es) = go (c e) refl (nat_lt e.0 k) refl (s e) refl (filters_joined c s k es) where
  inner : List (ℕ × Entry)
  inner = filter c es

  left : List (ℕ × Entry) → ℕ
  left xs = length (filter (λ (e : ℕ × Entry). nat_lt e.0 k && s e) xs)

  rest : List (ℕ × Entry)
  rest = filter (λ (e : ℕ × Entry). nat_lt e.0 k && (c e && s e)) es

  go : (a : Bool) → c e ≡ a → (b : Bool) → nat_lt e.0 k ≡ b → (d : Bool) → s e ≡ d → left inner ≡ length rest → left (cond (c e) (e ∷ inner) inner) ≡ length (cond (nat_lt e.0 k && (c e && s e)) (e ∷ rest) rest)
  go true ca true lt true sd same = rw (ca, lt, sd) (ap suc_of same) where
    suc_of : ℕ → ℕ
    suc_of m = suc m
  go true ca true lt false sd same = rw (ca, lt, sd) same
  go true ca false lt d sd same = rw (ca, lt) same
  go false ca true lt d sd same = rw (ca, lt) same
  go false ca false lt d sd same = rw (ca, lt) same

-- the earlier twins are counted by a test
twins_are : (n : ℕ) (o : Object) (k p : ℕ) (e : Entry) → slice_get (entries_of o) k ≡ Some e → e.parent ≡ Some p → twins_before n o k ≡ count_to (twin_test n o p (parts_of n o k e)) (entries_of o) 0 k
unfolding twin_test is_child
twins_are n o k p e at child =
    ap (λ (x : Option Entry). option_map_or (λ e. option_map_or (λ p. length (earlier_twins n o p k (parts_of n o k e))) e.parent 0) x 0) at
    ∙ ap (λ (x : Option ℕ). option_map_or (λ p. length (earlier_twins n o p k (parts_of n o k e))) x 0) child
    ∙ filters_joined (λ (c : ℕ × Entry). option_map_or (λ q. q == p) c.1.parent false) (λ (c : ℕ × Entry). same_parts (parts_of n o c.0 c.1) (parts_of n o k e)) k (enumerate_from 0 (entries_of o))

child_true : (p : ℕ) (e : Entry) → e.parent ≡ Some p → is_child p e ≡ true
unfolding is_child
child_true p e is = rw is (eq-eqb p p refl)

child_of : (p : ℕ) (e : Entry) → is_child p e ≡ true → e.parent ≡ Some p
unfolding is_child
child_of p e is = go e.parent refl is where
  go : (o : Option ℕ) → e.parent ≡ o → option_map_or (λ q. q == p) o false ≡ true → o ≡ Some p
  go None at t = absurd (both_ways _ refl t)
  go (Some q) at t = ap (λ (x : ℕ). Some x) (eqb-true q p t)

parts_at : (n : ℕ) (o : Object) (k : ℕ) (e : Entry) → slice_get (entries_of o) k ≡ Some e → parts_in n o k ≡ Some (parts_of n o k e)
parts_at n o k e at = ap (option_map (parts_of n o k)) at

parent_at : (o : Object) (k : ℕ) (e : Entry) → slice_get (entries_of o) k ≡ Some e → parent_of (entries_of o) k ≡ e.parent
parent_at o k e at = ap (option_and_then (λ (e : Entry). e.parent)) at

twins_test : (n : ℕ) (o : Object) (m k p : ℕ) (x e : Entry) → slice_get (entries_of o) m ≡ Some x → slice_get (entries_of o) k ≡ Some e → e.parent ≡ Some p → twin_test n o p (parts_of n o k e) (m, x) ≡ true → AreTwins n o m k
unfolding twin_test
twins_test n o m k p x e at_m at_k child is =
    let parts = both (is_child p x) _ is in
    record {
      parent = parent_at o m x at_m ∙ child_of p x parts.0 ∙ sym child ∙ sym (parent_at o k e at_k);
      parts = parts_at n o m x at_m ∙ ap (λ (it : Parts). Some it) (parts_same (parts_of n o m x) (parts_of n o k e) parts.1) ∙ sym (parts_at n o k e at_k);
    }

not_true : (b : Bool) → (b ≡ true → ⊥) → b ≡ false
not_true true never = absurd (never refl)
not_true false never = refl

-- where the nearest earlier twin is j, there is one more than before j
pub one_twin_more : (n : ℕ) (o : Object) (j k p : ℕ) (x e : Entry) → slice_get (entries_of o) j ≡ Some x → slice_get (entries_of o) k ≡ Some e → e.parent ≡ Some p → j < k → AreTwins n o j k
    → ((m : ℕ) → j < m → m < k → AreTwins n o m k → ⊥) → twins_before n o k ≡ twins_before n o j + 1
unfolding twin_test
one_twin_more n o j k p x e at_j at_k child before twins none =
    let entries = entries_of o in
    let parent_j : x.parent ≡ Some p = sym (parent_at o j x at_j) ∙ twins.parent ∙ parent_at o k e at_k ∙ child in
    let parts : parts_of n o j x ≡ parts_of n o k e = same_Some _ _ (sym (parts_at n o j x at_j) ∙ twins.parts ∙ parts_at n o k e at_k) in
    let test : ℕ × Entry → Bool = twin_test n o p (parts_of n o k e) in
    let here : test (j, x) ≡ true = ap (λ (b : Bool). b && same_parts (parts_of n o j x) (parts_of n o k e)) (child_true p x parent_j) ∙ ap (λ (it : Parts). same_parts it (parts_of n o k e)) parts ∙ same_parts_self (parts_of n o k e) in
    let step = more_true test entries j x at_j here in
    let apart : j + 1 + (k - (j + 1)) ≡ k = omega arith in
    let inside = slice_get_within entries k e at_k in
    let rest = none_between test entries (j + 1) (k - (j + 1)) (omega (arith, inside)) (λ m y lower upper at_m. not_true (test (m, y)) (λ is. none m (omega arith) (omega arith) (twins_test n o m k p y e at_m at_k child is))) in
    let k_is = twins_are n o k p e at_k child in
    let j_is : twins_before n o j ≡ count_to test entries 0 j = twins_are n o j p x at_j parent_j ∙ ap (λ (it : Parts). count_to (twin_test n o p it) entries 0 j) parts in
    k_is ∙ ap (count_to test entries 0) (sym apart) ∙ rest ∙ step ∙ ap (λ (c : ℕ). c + 1) (sym j_is)

pub no_twin : (n : ℕ) (o : Object) (k p : ℕ) (e : Entry) → slice_get (entries_of o) k ≡ Some e → e.parent ≡ Some p → ((m : ℕ) → m < k → AreTwins n o m k → ⊥) → twins_before n o k ≡ 0
no_twin n o k p e at child none =
    let entries = entries_of o in
    let test : ℕ × Entry → Bool = twin_test n o p (parts_of n o k e) in
    let inside = slice_get_within entries k e at in
    let whole : 0 + k ≡ k = omega arith in
    let rest = none_between test entries 0 k (omega (arith, inside)) (λ m y lower upper at_m. not_true (test (m, y)) (λ is. none m (omega arith) (twins_test n o m k p y e at_m at child is))) in
    twins_are n o k p e at child ∙ ap (count_to test entries 0) (sym whole) ∙ rest ∙ none_before test entries 0 0 (omega arith)

pub twins_few : (n : ℕ) (o : Object) (k : ℕ) → twins_before n o k ≤ k
twins_few n o k = go (slice_get (entries_of o) k) refl where
  below : (e : Entry) → slice_get (entries_of o) k ≡ Some e → (p : Option ℕ) → e.parent ≡ p → twins_before n o k ≤ k
  below e at None top = (let zero_is : twins_before n o k ≡ 0 = ap (λ (x : Option Entry). option_map_or (λ e. option_map_or (λ p. length (earlier_twins n o p k (parts_of n o k e))) e.parent 0) x 0) at ∙ ap (λ (x : Option ℕ). option_map_or (λ p. length (earlier_twins n o p k (parts_of n o k e))) x 0) top in omega (arith, zero_is))
  below e at (Some p) child = (
      let is = twins_are n o k p e at child in
      let few = at_most (twin_test n o p (parts_of n o k e)) (entries_of o) k (omega (arith, slice_get_within (entries_of o) k e at)) in
      omega (arith, is, few))

  go : (x : Option Entry) → slice_get (entries_of o) k ≡ x → twins_before n o k ≤ k
  go None at = (let zero_is : twins_before n o k ≡ 0 = ap (λ (x : Option Entry). option_map_or (λ e. option_map_or (λ p. length (earlier_twins n o p k (parts_of n o k e))) e.parent 0) x 0) at in omega (arith, zero_is))
  go (Some e) at = below e at e.parent refl
