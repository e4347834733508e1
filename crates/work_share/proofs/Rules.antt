-- Each step keeps the rule of the counter.
use Rattle.std.proofs.Common.{◌≡◌, ℕ, zero, suc, ◌+◌, ◌-◌, ◌/◌, ◌%◌, ◌^◌, ◌<◌, ◌≤◌, ◌⊎◌, Bool, true, false, true≢false, cond, List, [], ◌∷◌, ◌++◌, set, sym, refl, ap, subst, ◌∙◌, inl, inr, arith, length-set, mod-eq_of_lt}
use Rattle.std.specs.Prelude.{slice_index, is_some, None, Some, nat_lt}
use Rattle.std.specs.Option.{option_or}
use Rattle.std.specs.declared.option.Option.{Option}
use Rattle.std.proofs.lemmas.List.{get_or-set_same, set-get_or}
use Rattle.std.proofs.lemmas.Bool.{lt-ltb, le-ltb, cases_lt}
use mathlib.Core.Option.{some, none, some-ne-none}
use mathlib.Core.Logic.{⊎_elim}
use lib.ListN.{get_elem?}
use Rattle.atomic_table.specs.Table.{State, Me, step, Allows, Splits, Joins, keeps}
use Rattle.atomic_table.proofs.Lists.{at_set, at_snoc, set_again, set_else}
use Rattle.work_share.specs.declared.view.TaskView.{TaskView}
use Rattle.work_share.specs.Numbers.{times, once_below, above, left}
use Rattle.work_share.specs.Counter.{drew, stopped, kept_half, given_half, united, nobody, live, Fits, Rule, Sound}
use Rattle.work_share.specs.Fair.{IsFair, Keeps}
use Rattle.work_share.specs.Steps.{drawing, looking}
use Rattle.std.specs.List.{sum_by}
use Rattle.std.proofs.lemmas.List.Sums.{sum_by_push}
use Rattle.work_share.proofs.Totals.{total_set, part_le, total_alone, times-append, times_other, below_yes, below_is, below_le, below_more, above_le, few_below, comes_nearer}

some_kept : (o : Option ℕ) → is_some o ≡ true → (k : ℕ) × (o ≡ Some k)
some_kept None e = absurd (true≢false (sym e))
some_kept (Some k) e = (k, refl)

here : (vs : List TaskView) (id : ℕ) (v w : TaskView) → get_elem? vs id ≡ some v → get_elem? (set vs id w) id ≡ some w
here [] id v w e = absurd (some-ne-none v (sym e))
here (x ∷ xs) zero v w e = refl
here (x ∷ xs) (suc id) v w e = here xs id v w e

module _ (count : ℕ) (words : List ℕ) (views : List TaskView) (id : ℕ) (v : TaskView) (rule : Rule count words views) (at : get_elem? views id ≡ some v) where
  seen : (x : ℕ) → 1 ≤ times x v.drawn → x < slice_index words 0
  seen x h = below_is x (slice_index words 0) (omega (arith, h, part_le (λ u. times x u.drawn) views id v at, rule.drawn x))

  once : (x : ℕ) → times x v.drawn ≤ 1
  once x = omega (arith, part_le (λ u. times x u.drawn) views id v at, rule.drawn x, below_le x (slice_index words 0))

  near : slice_index words 0 ≤ count + 64
  near = omega (arith, rule.few)

  all : v.share ≡ 64 → is_some v.kept ≡ true → (x : ℕ) → x < count → times x v.drawn ≡ 1
  all whole kept x lt =
      let k = some_kept v.kept kept in
      let past = (rule.each id v at).kept k.0 k.1 in
      let alone = total_alone (λ u. times x u.drawn) (λ u. u.share) views id v at (rule.shares ∙ sym whole) (λ j u e z. ap (times x) ((rule.each j u e).spent z).0) in
      let one = below_yes x (slice_index words 0) (omega (arith, lt, past.0, past.1)) in
      sym alone ∙ rule.drawn x ∙ one

  pub fair_of : v.count ≡ count → IsFair v
  fair_of counts =
      let bound : v.count + 64 ≡ count + 64 = ap (λ n. n + 64) counts in
      let below : (x : ℕ) → 1 ≤ times x v.drawn → x < v.count + 64 = λ x h. omega (arith, seen x h, near, bound) in
      record {
        once = once;
        below = below;
        kept = λ k e. omega (arith, ((rule.each id v at).kept k e).0, counts);
        few = few_below (v.count + 64) v.drawn once below;
        ended = λ x le h. (rule.each id v at).ended x (omega (arith, le, counts)) h;
        all = λ whole kept x lt. all whole kept x (omega (arith, lt, counts));
        share = omega (arith, part_le (λ u. u.share) views id v at, rule.shares);
      }

later : (count next : ℕ) (u : TaskView) → Fits count next u → Fits count (next + 1) u
later count next u f = record { spent = f.spent; kept = λ k h. ((f.kept k h).0, omega (arith, (f.kept k h).1)); ended = f.ended }

-- the next number is drawn by the seat v, which is w from then on
module _ (count : ℕ) (words : List ℕ) (views : List TaskView) (id : ℕ) (v : TaskView) (rule : Rule count words views) (at : get_elem? views id ≡ some v) (w : TaskView) where
  abbrev pub next : ℕ
  next = slice_index words 0

  abbrev pub Ends : Type 0
  Ends = ((next < count) × (w.kept ≡ None)) ⊎ ((count ≤ next) × (w.kept ≡ Some next))

  lives : v.kept ≡ None → w.share ≡ v.share → 1 ≤ v.share → Ends → sum_by live (set views id w) + (next + 1 - count) ≤ 64
  lives going share some_share (inl e) =
      let was : live v ≡ v.share = ap (λ o. cond (is_some o) 0 v.share) going in
      let is : live w ≡ w.share = ap (λ o. cond (is_some o) 0 w.share) e.1 in
      omega (arith, total_set live views id v w at, was, is, share, e.0, rule.few)
  lives going share some_share (inr e) =
      let was : live v ≡ v.share = ap (λ o. cond (is_some o) 0 v.share) going in
      let is : live w ≡ 0 = ap (λ o. cond (is_some o) 0 w.share) e.1 in
      omega (arith, total_set live views id v w at, was, is, some_share, e.0, rule.few)

  mine : v.kept ≡ None → w.share ≡ v.share → 1 ≤ v.share → w.drawn ≡ v.drawn ++ next ∷ [] → Ends → Fits count (next + 1) w
  mine going share some_share drawn (inl e) = record {
    spent = λ z. absurd (omega arith);
    kept = λ k h. absurd (true≢false (sym (ap is_some (sym e.1 ∙ h))));
    ended = λ x le h.
        let parts : times x w.drawn ≡ times x v.drawn + times x (next ∷ []) = ap (times x) drawn ∙ times-append x v.drawn (next ∷ []) in
        let other : times x (next ∷ []) ≡ 0 = times_other x next (λ is. omega (arith, e.0, le, is)) in
        let was : is_some v.kept ≡ true = (rule.each id v at).ended x le (omega (arith, parts, other, h)) in
        absurd (true≢false (sym was ∙ ap is_some going));
  }
  mine going share some_share drawn (inr e) = record {
    spent = λ z. absurd (omega arith);
    kept = λ k h. let is : next ≡ k = cc (e.1, h) in (omega (arith, e.0, is), omega (arith, is));
    ended = λ x le h. ap is_some e.1;
  }

  pub draws_rule : v.kept ≡ None → w.share ≡ v.share → 1 ≤ v.share → w.drawn ≡ v.drawn ++ next ∷ [] → Ends → Rule count (set words 0 (next + 1)) (set views id w)
  draws_rule going share some_share drawn ends =
      let word : slice_index (set words 0 (next + 1)) 0 ≡ next + 1 = get_or-set_same words 0 (next + 1) 0 (omega (arith, rule.wide)) in
      let fits = mine going share some_share drawn ends in
      record {
        wide = length-set words 0 (next + 1) ∙ rule.wide;
        drawn = λ x.
            let parts : times x w.drawn ≡ times x v.drawn + times x (next ∷ []) = ap (times x) drawn ∙ times-append x v.drawn (next ∷ []) in
            let sums = total_set (λ u. times x u.drawn) views id v w at in
            let goal : sum_by (λ u. times x u.drawn) (set views id w) ≡ once_below x (next + 1) = omega (arith, parts, sums, rule.drawn x, below_more x next) in
            goal ∙ ap (once_below x) (sym word);
        shares = omega (arith, total_set (λ u. u.share) views id v w at, share, rule.shares);
        each = λ j u e. subst (λ n. Fits count n u) (sym word) (⊎_elim (λ t. subst (λ y. Fits count (next + 1) y) t.1 fits) (λ t. later count next u (rule.each j u t.1)) (at_set views id j w u e));
        few = subst (λ n. sum_by live (set views id w) + (n - count) ≤ 64) (sym word) (lives going share some_share ends);
      }

-- a number that is passed on below 2 ^ 64
plain : (n : ℕ) → n + 1 < 2 ^ 64 → (n + 1) % 2 ^ 64 ≡ n + 1
plain n lt = mod-eq_of_lt lt

module _ {S : Type 0} (count slots id : ℕ) (m : Me S TaskView) (counts : m.0.count ≡ count) where
  drawn_as : (s : State S TaskView) (w : TaskView) → count < 2 ^ 32 → Rule count s.words s.views → get_elem? s.views id ≡ some m.0
      → w.count ≡ m.0.count → Rule count (set s.words 0 (slice_index s.words 0 + 1)) (set s.views id w)
      → Rule count (set s.words 0 ((slice_index s.words 0 + 1) % 2 ^ 64)) (set s.views id w) × (above m.0.drawn ≤ slice_index s.words 0) × IsFair w
  drawn_as s w small rule at same after =
      let word : (slice_index s.words 0 + 1) % 2 ^ 64 ≡ slice_index s.words 0 + 1 = plain (slice_index s.words 0) (omega (arith, near count s.words s.views id m.0 rule at, small)) in (
        subst (λ n. Rule count (set s.words 0 n) (set s.views id w)) (sym word) after,
        above_le (slice_index s.words 0) m.0.drawn (seen count s.words s.views id m.0 rule at),
        fair_of count (set s.words 0 (slice_index s.words 0 + 1)) (set s.views id w) id w after (here s.views id m.0 w at) (same ∙ counts),
      )

  pub draws : count < 2 ^ 32 → m.0.kept ≡ None → 1 ≤ m.0.share → Allows (Sound count) slots id m 0 (λ n. (n + 1) % 2 ^ 64) (drawing (step slots 0 1 0 none) m)
  draws small going some_share s rule homes at fits = ⊎_elim
      (λ (lt : slice_index s.words 0 < count).
      let w : TaskView = drew m.0 (slice_index s.words 0) in
      let after = draws_rule count s.words s.views id m.0 rule at w going refl some_share refl (inl (lt, going)) in
      let told = drawn_as s w small rule at refl after in
      let test : nat_lt (slice_index s.words 0) m.0.count ≡ true = lt-ltb (slice_index s.words 0) m.0.count (omega (arith, lt, counts)) in
      (w, keeps, tt, told.0, (sym (ap (λ b. cond b (drew m.0 (slice_index s.words 0)) (stopped m.0 (slice_index s.words 0))) test), refl, told.1, told.2)))
      (λ (le : count ≤ slice_index s.words 0).
      let w : TaskView = stopped m.0 (slice_index s.words 0) in
      let after = draws_rule count s.words s.views id m.0 rule at w going refl some_share refl (inr (le, refl)) in
      let told = drawn_as s w small rule at refl after in
      let test : nat_lt (slice_index s.words 0) m.0.count ≡ false = le-ltb (slice_index s.words 0) m.0.count (omega (arith, le, counts)) in
      (w, keeps, tt, told.0, (sym (ap (λ b. cond b (drew m.0 (slice_index s.words 0)) (stopped m.0 (slice_index s.words 0))) test), refl, told.1, told.2)))
      (cases_lt (slice_index s.words 0) count)

  pub looks : Allows (Sound count) slots id m 0 (λ n. n) (looking (step slots 0 0 0 none) m)
  looks s rule homes at fits =
      let words : set s.words 0 (slice_index s.words 0) ≡ s.words = set-get_or s.words 0 0 in
      let views : set s.views id m.0 ≡ s.views = set_again s.views id m.0 at in
      let after : Rule count (set s.words 0 (slice_index s.words 0)) (set s.views id m.0) = subst (λ vs. Rule count (set s.words 0 (slice_index s.words 0)) vs) (sym views) (subst (λ ws. Rule count ws s.views) (sym words) rule) in
      (m.0, keeps, tt, after, (refl, fair_of count s.words s.views id m.0 rule at counts))

live_halves : (v : TaskView) → live (kept_half v) + live (given_half v) ≡ live v
live_halves v = by (is_some v.kept)
  where
    by : (b : Bool) → cond b 0 (v.share - v.share / 2) + cond b 0 (v.share / 2) ≡ cond b 0 v.share
    by true = refl
    by false = omega arith

pub splits : {S : Type 0} (count id : ℕ) (v : TaskView) → 2 ≤ v.share → Splits {S = S} (Sound count) id v (kept_half v) (given_half v)
splits count id v two s rule at =
    let l : TaskView = kept_half v in
    let r : TaskView = given_half v in
    let mine = rule.each id v at in
    let half : 1 ≤ v.share / 2 = omega arith in
    let fits_l : Fits count (slice_index s.words 0) l = record { spent = λ z. absurd (omega arith); kept = mine.kept; ended = mine.ended } in
    let fits_r : Fits count (slice_index s.words 0) r = record { spent = λ z. absurd (omega arith); kept = mine.kept; ended = λ x le h. absurd (omega arith) } in
    record {
      wide = rule.wide;
      drawn = λ x. let push = sum_by_push (λ u. times x u.drawn) (set s.views id l) r in let sums = total_set (λ u. times x u.drawn) s.views id v l at in omega (arith, push, sums, rule.drawn x);
      shares = let push = sum_by_push (λ u. u.share) (set s.views id l) r in let sums = total_set (λ u. u.share) s.views id v l at in omega (arith, push, sums, rule.shares);
      each = λ j u e. ⊎_elim
          (λ old. ⊎_elim (λ t. subst (λ y. Fits count (slice_index s.words 0) y) t.1 fits_l) (λ t. rule.each j u t.1) (at_set s.views id j l u old))
          (λ is. subst (λ y. Fits count (slice_index s.words 0) y) is fits_r)
          (at_snoc (set s.views id l) r u j e);
      few = let push = sum_by_push live (set s.views id l) r in let sums = total_set live s.views id v l at in omega (arith, push, sums, live_halves v, rule.few);
    }

live_united : (v w : TaskView) → live (united v w) ≤ live v + live w
live_united v w = by v.kept w.kept
  where
    by : (o p : Option ℕ) → cond (is_some (option_or o p)) 0 (v.share + w.share) ≤ cond (is_some o) 0 v.share + cond (is_some p) 0 w.share
    by None None = omega arith
    by None (Some k) = omega arith
    by (Some k) p = omega arith

kept_either : (P : ℕ → Type 0) (o p : Option ℕ) → ((k : ℕ) → o ≡ Some k → P k) → ((k : ℕ) → p ≡ Some k → P k) → (k : ℕ) → option_or o p ≡ Some k → P k
kept_either P None p f g k e = g k e
kept_either P (Some x) p f g k e = f k e

some_either : (o p : Option ℕ) → (is_some o ≡ true) ⊎ (is_some p ≡ true) → is_some (option_or o p) ≡ true
some_either None p (inl e) = absurd (true≢false (sym e))
some_either None p (inr e) = e
some_either (Some x) p e = refl

pub joins : {S : Type 0} (count id : ℕ) (v : TaskView) (other : ℕ) (w : TaskView) → 1 ≤ v.share → Joins {S = S} (Sound count) id v other w (united v w) nobody
joins count id v other w some_share s rule at apart there =
    let n : ℕ = slice_index s.words 0 in
    let both : TaskView = united v w in
    let vs : List TaskView = set s.views id both in
    let was : get_elem? s.views other ≡ some w = sym (set_else s.views id other both apart) ∙ there in
    let mine = rule.each id v at in
    let theirs = rule.each other w was in
    let fits : Fits count n both = record {
      spent = λ z. absurd (omega arith);
      kept = kept_either (λ k. (count ≤ k) × (k < n)) v.kept w.kept mine.kept theirs.kept;
      ended = λ x le h. some_either v.kept w.kept (one_of x le mine.ended theirs.ended (omega (arith, h, times-append x v.drawn w.drawn)));
    } in
    let fits_nobody : Fits count n nobody = record { spent = λ z. (refl, refl); kept = λ k h. absurd (true≢false (sym (ap is_some h))); ended = λ x le h. absurd (omega arith) } in
    record {
      wide = rule.wide;
      drawn = λ x. let a = total_set (λ u. times x u.drawn) s.views id v both at in let b = total_set (λ u. times x u.drawn) vs other w nobody there in omega (arith, a, b, times-append x v.drawn w.drawn, rule.drawn x);
      shares = let a = total_set (λ u. u.share) s.views id v both at in let b = total_set (λ u. u.share) vs other w nobody there in omega (arith, a, b, rule.shares);
      each = λ j u e. ⊎_elim
          (λ t. subst (λ y. Fits count n y) t.1 fits_nobody)
          (λ old. ⊎_elim (λ t. subst (λ y. Fits count n y) t.1 fits) (λ t. rule.each j u t.1) (at_set s.views id j both u old.1))
          (at_set vs other j nobody u e);
      few = let a = total_set live s.views id v both at in let b = total_set live vs other w nobody there in omega (arith, a, b, live_united v w, rule.few);
    }
  where
    one_of : (x : ℕ) → count ≤ x → ((y : ℕ) → count ≤ y → 1 ≤ times y v.drawn → is_some v.kept ≡ true) → ((y : ℕ) → count ≤ y → 1 ≤ times y w.drawn → is_some w.kept ≡ true)
        → 1 ≤ times x v.drawn + times x w.drawn → (is_some v.kept ≡ true) ⊎ (is_some w.kept ≡ true)
    one_of x le f g h = ⊎_elim (λ lt. inr (g x le (omega arith))) (λ ge. inl (f x le ge)) (cases_lt (times x v.drawn) 1)

-- who keeps no number has not come to its end
pub going : (o : Option ℕ) → is_some o ≡ false → o ≡ None
going None e = refl
going (Some k) e = absurd (true≢false e)

-- who keeps a number goes on keeping it
pub keeps_on : (count : ℕ) (v : TaskView) → IsFair v → v.count ≡ count → is_some v.kept ≡ true → Keeps count v v
keeps_on count v fair counts kept = let k = some_kept v.kept kept in (k.0, omega (arith, fair.kept k.0 k.1, counts), inl (k.1, refl))

-- who drew a number below the count has fewer of them before it
pub drawn_nearer : (count n : ℕ) (v w : TaskView) → v.count ≡ count → n < count → w ≡ cond (nat_lt n v.count) (drew v n) (stopped v n) → above v.drawn ≤ n → left count w.drawn < left count v.drawn
drawn_nearer count n v w counts lt e le =
    let test : nat_lt n v.count ≡ true = lt-ltb n v.count (omega (arith, lt, counts)) in
    let is : w ≡ drew v n = e ∙ ap (λ b. cond b (drew v n) (stopped v n)) test in
    comes_nearer count n v.drawn w.drawn lt le (ap (λ (u : TaskView). u.drawn) is)
