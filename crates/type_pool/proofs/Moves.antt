-- The table's rule where one word and one view change.
use Rattle.std.proofs.Common.{◌≡◌, ◌≢◌, ℕ, zero, suc, ◌<◌, ◌≤◌, ◌⊎◌, inl, inr, ⊎_elim, List, [], ◌∷◌, length, set, sym, refl, ap, ◌∙◌, subst, arith}
use mathlib.Core.Option.{some, some-injective, some-ne-none}
use lib.ListN.{get_elem?}
use Rattle.atomic_table.proofs.Lists.{at_set, set_else, set_here}
use Rattle.pool_core.specs.Machine.{IsLeast}
use Rattle.type_pool.specs.declared.view.View.{View}
use Rattle.type_pool.specs.declared.rule.Size.{Size}
use Rattle.type_pool.specs.Pairs.{Has, HasOneEach, times}
use Rattle.std.specs.List.{sum_by}
use Rattle.type_pool.specs.Keeping.{Fits, IsBid, IsPlayed, is_word_of, Keeps}
use Rattle.type_pool.specs.Words.{least_word, name_word}
use Rattle.type_pool.specs.Standing.{no_bid}
use Rattle.type_pool.proofs.Words.{played_as}
use Rattle.type_pool.proofs.Totals.{total-set}
use native.Mathlib.Decide.{ℕ_discrete}
use mathlib.Core.Logic.{dite}

-- the least of the same numbers
pub same_least : (A B : ℕ → Type 0) (n : ℕ) → ((x : ℕ) → A x → B x) → ((x : ℕ) → B x → A x) → IsLeast no_bid A n → IsLeast no_bid B n
same_least A B n there back is = record {
  below = is.below;
  each = λ x made. is.each x (back x made);
  one = ⊎_elim (λ none. inl none) (λ made. inr (there n made)) is.one;
}

-- the bids of all seats, where one view changes
pub bid_before : (views : List View) (id : ℕ) (v w : View) (cell number : ℕ) → get_elem? views id ≡ some v → (Has w.bids cell number → Has v.bids cell number ⊎ IsBid views cell number)
    → IsBid (set views id w) cell number → IsBid views cell number
bid_before views id v w cell number at old bid =
    let u : View = bid.1 in
    ⊎_elim
    (λ (t : (bid.0 ≡ id) × (w ≡ u)). ⊎_elim (λ has. (id, v, at, has)) (λ other. other) (old (subst (λ (x : View). Has x.bids cell number) (sym t.1) bid.3)))
    (λ (t : (bid.0 ≢ id) × (get_elem? views bid.0 ≡ some u)). (bid.0, u, t.1, bid.3))
    (at_set views id bid.0 w u bid.2)

pub inside_list : (views : List View) (id : ℕ) (v : View) → get_elem? views id ≡ some v → id < length views
inside_list [] id v at = absurd (some-ne-none v (sym at))
inside_list (u ∷ views) zero v at = omega arith
inside_list (u ∷ views) (suc id) v at = let rest = inside_list views id v at in omega arith

pub bid_after : (views : List View) (id : ℕ) (v w : View) (cell number : ℕ) → get_elem? views id ≡ some v → (Has v.bids cell number → Has w.bids cell number)
    → IsBid views cell number → IsBid (set views id w) cell number
bid_after views id v w cell number at kept bid =
    let u : View = bid.1 in
    dite (ℕ_discrete bid.0 id)
    (λ same.
    let is : v ≡ u = some-injective v u (sym at ∙ subst (λ (k : ℕ). get_elem? views k ≡ some u) same bid.2) in
    (id, w, set_here views id w (inside_list views id v at), kept (subst (λ (x : View). Has x.bids cell number) (sym is) bid.3)))
    (λ off. (bid.0, u, set_else views id bid.0 w off ∙ bid.2, bid.3))

-- a seat that fits does so while filled cells stay
pub still_fits : (cells : ℕ) (words next : List ℕ) (v : View) → ((cell : ℕ) → cell < cells → name_word words cell ≢ 0 → name_word next cell ≡ name_word words cell)
    → Fits cells words v → Fits cells next v
still_fits cells words next v stays fits = record {
  idle = fits.idle;
  notes = λ cell name has.
      let old = fits.notes cell name has in
      let filled : name_word words cell ≢ 0 = λ none. (let is = old.1 in omega arith) in
      (old.0, stays cell old.0 filled ∙ old.1);
  bids = fits.bids;
}

pub one_each : (cells : ℕ) (words : List ℕ) (v : View) → Fits cells words v → HasOneEach v.notes
one_each cells words v fits cell a b is also = let p = (fits.notes cell a is).1 in let q = (fits.notes cell b also).1 in omega arith

-- the rule, once the words are others and one view is another
pub moved : (k : Size) (words next : List ℕ) (views : List View) (id : ℕ) (v w : View) → Keeps k words views → get_elem? views id ≡ some v
    → length next ≡ length words → w.share ≡ v.share
    → ((cell : ℕ) → cell < k.cells → name_word words cell ≢ 0 → name_word next cell ≡ name_word words cell)
    → Fits k.cells next w
    → ((cell : ℕ) → cell < k.cells → name_word next cell ≤ k.names)
    → ((cell : ℕ) → cell < k.cells → IsLeast no_bid (IsBid (set views id w) cell) (least_word next cell))
    → IsPlayed k.cells next (set views id w)
    → ((cell name : ℕ) → sum_by (λ (u : View). times cell name u.puts) (set views id w) ≡ is_word_of name (name_word next cell))
    → Keeps k next (set views id w)
moved k words next views id v w rule at long share stays fits named least played puts = record {
  wide = long ∙ rule.wide;
  shares = (let t = total-set (λ (u : View). u.share) views id v w at in let all = rule.shares in omega arith);
  each = λ j u here. ⊎_elim
      (λ (t : (j ≡ id) × (w ≡ u)). subst (Fits k.cells next) t.1 fits)
      (λ (t : (j ≢ id) × (get_elem? views j ≡ some u)). still_fits k.cells words next u stays (rule.each j u t.1))
      (at_set views id j w u here);
  named = named;
  least = least;
  played = played;
  puts = puts;
}

-- a view with the same share, the same bids and the same puts, which fits
pub record Watches (cells : ℕ) (words : List ℕ) (v w : View) : Type 0 where
  pub share : w.share ≡ v.share
  pub bids : w.bids ≡ v.bids
  pub puts : w.puts ≡ v.puts
  pub fits : Fits cells words w

-- it changes nothing of the rule
pub watched : (k : Size) (words : List ℕ) (views : List View) (id : ℕ) (v w : View) → Keeps k words views → get_elem? views id ≡ some v → Watches k.cells words v w → Keeps k words (set views id w)
watched k words views id v w rule at watches =
    moved k words words views id v w rule at refl watches.share (λ cell inside filled. refl) watches.fits rule.named
    (λ cell inside. same_least (IsBid views cell) (IsBid (set views id w) cell) (least_word words cell)
    (λ x bid. bid_after views id v w cell x at (λ has. subst (λ (l : List (ℕ × ℕ)). Has l cell x) (sym watches.bids) has) bid)
    (λ x bid. bid_before views id v w cell x at (λ has. inl (subst (λ (l : List (ℕ × ℕ)). Has l cell x) watches.bids has)) bid)
    (rule.least cell inside))
    (played_as k.cells words views (set views id w)
    (λ a b. (let t = total-set (λ (u : View). times a b u.puts) views id v w at in let same = ap (times a b) watches.puts in omega arith))
    (λ a b. (let t = total-set (λ (u : View). times a b u.bids) views id v w at in let same = ap (times a b) watches.bids in omega arith)) rule.played)
    (λ cell name.
    let t = total-set (λ (u : View). times cell name u.puts) views id v w at in
    let same = ap (times cell name) watches.puts in
    let is = rule.puts cell name in
    omega arith)
