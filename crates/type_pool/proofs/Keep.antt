-- Each kind of step keeps the table's rule, and tells its seat what it is to tell.
use Rattle.std.proofs.Common.{◌≡◌, ◌≢◌, ℕ, eqb, cond, Bool, ◌+◌, ◌-◌, ◌<◌, ◌≤◌, ◌&&◌, min, inl, inr, ⊎_elim, List, [], ◌∷◌, ◌++◌, length, set, sym, refl, ap, ◌∙◌, subst, arith, length-set, eq-eqb, ne_eqb}
use mathlib.Core.Option.{some, none, some-injective}
use mathlib.Core.Logic.{dite}
use native.Mathlib.Decide.{dec_le, ℕ_discrete}
use lib.ListN.{get_elem?}
use lib.Seq.{set-get_or}
use prog.Atomic.{either}
use Rattle.atomic_table.specs.Table.{Allows, Joins, keeps, Splits, step}
use Rattle.atomic_table.proofs.Lists.{at_longer, at_set, at_snoc, set_else, set_here}
use Rattle.pool_core.specs.Machine.{IsLeast}
use Rattle.pool_core.proofs.Runs.{tested}
use Rattle.type_pool.specs.declared.view.View.{View}
use Rattle.type_pool.specs.declared.rule.Size.{Size}
use Rattle.type_pool.specs.Pairs.{Has, HasOneEach, times}
use Rattle.type_pool.specs.Views.{bidden, given_half, kept_half, noted, put, spent, united}
use Rattle.type_pool.specs.Keeping.{Fits, IsBid, is_word_of, Keeps, Kept}
use Rattle.type_pool.specs.Words.{least_at, least_word, name_at, name_word}
use Rattle.type_pool.specs.Standing.{no_bid}
use Rattle.type_pool.specs.Told.{looked, Sitting, tried, underbid, weighed}
use Rattle.type_pool.proofs.PairLists.{has_either, has_left, has_right, times-append}
use Rattle.std.proofs.lemmas.List.Sums.{sum_by-append}
use Rattle.type_pool.proofs.Totals.{total-set}
use Rattle.type_pool.proofs.Words.{is_word, least_else, least_here, least_stays, name_else, name_here, name_stays, no_word, played_as, played_bid, played_name}
use Rattle.type_pool.proofs.Moves.{bid_after, bid_before, inside_list, moved, one_each, same_least, still_fits, watched, Watches}

-- a name that stands in a cell is noted
notes_name : (k : Size) (words : List ℕ) (views : List View) (id : ℕ) (v : View) (cell : ℕ) → Keeps k words views → get_elem? views id ≡ some v → cell < k.cells → 1 ≤ v.share → name_word words cell ≢ 0
    → Watches k.cells words v (noted v cell (name_word words cell - 1))
notes_name k words views id v cell rule at inside shared filled =
    let old = rule.each id v at in
    record {
      share = refl;
      bids = refl;
      puts = refl;
      fits = record {
        idle = λ none. absurd (omega arith);
        notes = λ c name has. ⊎_elim
            (λ (t : (cell ≡ c) × (name_word words cell - 1 ≡ name)). (subst (λ (x : ℕ). x < k.cells) t.0 inside, sym (ap (name_word words) t.0) ∙ omega (arith, t.1)))
            (λ later. old.notes c name later)
            has;
        bids = λ c number has. let note = old.bids c number has in (note.0, inr note.1);
      };
    }

-- a load of a cell
pub looks : (k : Size) (slots id : ℕ) (m : Sitting) (cell : ℕ) → m.0.names ≡ k.names → cell < k.cells → 1 ≤ m.0.share
    → Allows (Kept k) slots id m (name_at cell) (λ n. n) (looked (step slots (name_at cell) 0 0 none) m)
looks k slots id m cell names inside shared s rule wide at small =
    let found : ℕ = name_word s.words cell in
    let after : Bool → View = λ b. cond b m.0 (noted m.0 cell (found - 1)) in
    let sees : Watches k.cells s.words m.0 (after (eqb found 0)) =
    tested (λ b. Watches k.cells s.words m.0 (after b)) found 0
    (λ empty. record { share = refl; bids = refl; puts = refl; fits = rule.each id m.0 at })
    (λ filled. notes_name k s.words s.views id m.0 cell rule at inside shared filled) in
    let w : View = after (eqb found 0) in
    let kept : Keeps k s.words (set s.views id w) = watched k s.words s.views id m.0 w rule at sees in (
      w,
      keeps,
      tt,
      subst (λ (words : List ℕ). Keeps k words (set s.views id w)) (sym (set-get_or s.words (name_at cell) 0)) kept,
      (
        (let most = rule.named cell inside in omega arith),
        refl,
        one_each k.cells s.words w sees.fits,
        (λ c is. let same : cell ≡ c = omega arith in ap (λ (x : ℕ). cond (eqb found 0) m.0 (noted m.0 x (found - 1))) same),
      ),
    )

-- a name is put into an empty cell
puts_name : (k : Size) (words : List ℕ) (views : List View) (id : ℕ) (v : View) (cell name : ℕ) → Keeps k words views → get_elem? views id ≡ some v → cell < k.cells → 1 ≤ v.share → name < k.names → name_word words cell ≡ 0
    → Keeps k (set words (name_at cell) (name + 1)) (set views id (put v cell name)) × Fits k.cells (set words (name_at cell) (name + 1)) (put v cell name)
puts_name k words views id v cell name rule at inside shared known empty =
    let next : List ℕ = set words (name_at cell) (name + 1) in
    let w : View = put v cell name in
    let within : name_at cell < length words = (let wide = rule.wide in omega arith) in
    let here : name_word next cell ≡ name + 1 = name_here words cell (name + 1) within in
    let stays : (c : ℕ) → c < k.cells → name_word words c ≢ 0 → name_word next c ≡ name_word words c = λ c near filled. name_else words cell c (name + 1) (λ same. filled (ap (name_word words) same ∙ empty)) in
    let old : Fits k.cells next v = still_fits k.cells words next v stays (rule.each id v at) in
    let fits : Fits k.cells next w = record {
      idle = λ none. absurd (omega arith);
      notes = λ c n has. ⊎_elim
          (λ (t : (cell ≡ c) × (name ≡ n)). (subst (λ (x : ℕ). x < k.cells) t.0 inside, sym (ap (name_word next) t.0) ∙ here ∙ ap (λ (x : ℕ). x + 1) t.1))
          (λ later. old.notes c n later)
          has;
      bids = λ c number has. let note = old.bids c number has in (note.0, inr note.1);
    } in (
      moved k words next views id v w rule at (length-set words (name_at cell) (name + 1)) refl stays fits
          (λ c near. dite (ℕ_discrete c cell) (λ same. (let is : name_word next c ≡ name + 1 = ap (name_word next) same ∙ here in omega arith)) (λ off. (let is = name_else words cell c (name + 1) off in let most = rule.named c near in omega arith)))
          (λ c near. subst (λ (n : ℕ). IsLeast no_bid (IsBid (set views id w) c) n) (sym (least_stays words cell c (name + 1)))
          (same_least (IsBid views c) (IsBid (set views id w) c) (least_word words c) (λ x bid. bid_after views id v w c x at (λ has. has) bid) (λ x bid. bid_before views id v w c x at (λ has. inl has) bid) (rule.least c near)))
          (played_name k.cells words views (set views id w) id cell name inside within empty
          (λ a b. (let t = total-set (λ (u : View). times a b u.puts) views id v w at in omega arith))
          (λ a b. (let t = total-set (λ (u : View). times a b u.bids) views id v w at in omega arith)) rule.played)
          (λ c n.
          let t = total-set (λ (u : View). times c n u.puts) views id v w at in
          let is = rule.puts c n in
          dite (ℕ_discrete cell c)
          (λ same.
          let before : is_word_of n (name_word words c) ≡ 0 = no_word n (name_word words c) (λ e. (let none : name_word words c ≡ 0 = sym (ap (name_word words) same) ∙ empty in omega arith)) in
          let after : name_word next c ≡ name + 1 = sym (ap (name_word next) same) ∙ here in
          dite (ℕ_discrete name n)
          (λ e.
          let hit : times c n w.puts ≡ 1 + times c n v.puts = ap (λ b. cond b 1 0 + times c n v.puts) (ap (λ b. b && eqb name n) (eq-eqb cell c same) ∙ eq-eqb name n e) in
          let now : is_word_of n (name_word next c) ≡ 1 = is_word n (name_word next c) (after ∙ ap (λ (x : ℕ). x + 1) e) in
          omega arith)
          (λ ne.
          let miss : times c n w.puts ≡ 0 + times c n v.puts = ap (λ b. cond b 1 0 + times c n v.puts) (ap (λ b. b && eqb name n) (eq-eqb cell c same) ∙ ne_eqb name n ne) in
          let now : is_word_of n (name_word next c) ≡ 0 = no_word n (name_word next c) (λ e. ne (omega arith)) in
          omega arith))
          (λ off.
          let miss : times c n w.puts ≡ 0 + times c n v.puts = ap (λ b. cond b 1 0 + times c n v.puts) (ap (λ b. b && eqb name n) (ne_eqb cell c off)) in
          let now : is_word_of n (name_word next c) ≡ is_word_of n (name_word words c) = ap (is_word_of n) (name_else words cell c (name + 1) (λ e. off (sym e))) in
          omega arith)),
      fits,
    )

-- an exchange that brings a name to a cell
pub tries : (k : Size) (slots id : ℕ) (m : Sitting) (cell new : ℕ) → m.0.names ≡ k.names → cell < k.cells → 1 ≤ m.0.share → 1 ≤ new → new ≤ k.names
    → Allows (Kept k) slots id m (name_at cell) (λ n. either (eqb n 0) new n) (tried (step slots (name_at cell) 0 new none) m)
tries k slots id m cell new names inside shared some_name known s rule wide at small =
    let found : ℕ = name_word s.words cell in
    let after : Bool → View = λ b. cond b (put m.0 cell (new - 1)) (noted m.0 cell (found - 1)) in
    let word : Bool → ℕ = λ b. either b new found in
    let Goes : Bool → Type 0 = λ b. Keeps k (set s.words (name_at cell) (word b)) (set s.views id (after b)) × HasOneEach (after b).notes in
    let goes : Goes (eqb found 0) =
    tested Goes found 0
    (λ empty.
    let is : new - 1 + 1 ≡ new = omega arith in
    let p = puts_name k s.words s.views id m.0 cell (new - 1) rule at inside shared (omega arith) empty in
    (subst (λ (n : ℕ). Keeps k (set s.words (name_at cell) n) (set s.views id (put m.0 cell (new - 1)))) is p.0, one_each k.cells (set s.words (name_at cell) (new - 1 + 1)) (put m.0 cell (new - 1)) p.1))
    (λ filled.
    let w : View = noted m.0 cell (found - 1) in
    let sees = notes_name k s.words s.views id m.0 cell rule at inside shared filled in
    (subst (λ (words : List ℕ). Keeps k words (set s.views id w)) (sym (set-get_or s.words (name_at cell) 0)) (watched k s.words s.views id m.0 w rule at sees), one_each k.cells s.words w sees.fits)) in (
      after (eqb found 0),
      keeps,
      tt,
      goes.0,
      (
        (let most = rule.named cell inside in omega arith),
        refl,
        goes.1,
        (λ c is. let same : cell ≡ c = omega arith in ap (λ (x : ℕ). cond (eqb found 0) (put m.0 x (new - 1)) (noted m.0 x (found - 1))) same),
      ),
    )

-- a bid on a cell that the seat noted
pub underbids : (k : Size) (slots id : ℕ) (m : Sitting) (cell name number : ℕ) → cell < k.cells → 1 ≤ m.0.share → Has m.0.notes cell name
    → Allows (Kept k) slots id m (least_at cell) (λ n. min n number) (underbid (step slots (least_at cell) number 0 none) m)
underbids k slots id m cell name number inside shared note s rule wide at small =
    let v : View = m.0 in
    let w : View = bidden v cell number in
    let word : ℕ = min (least_word s.words cell) number in
    let next : List ℕ = set s.words (least_at cell) word in
    let within : least_at cell < length s.words = (let all = rule.wide in omega arith) in
    let here : least_word next cell ≡ word = least_here s.words cell word within in
    let stays : (c : ℕ) → name_word next c ≡ name_word s.words c = λ c. name_stays s.words cell c word in
    let old : Fits k.cells next v = still_fits k.cells s.words next v (λ c near filled. stays c) (rule.each id v at) in
    let fits : Fits k.cells next w = record {
      idle = λ none. absurd (omega arith);
      notes = old.notes;
      bids = λ c n has. ⊎_elim (λ (t : (cell ≡ c) × (number ≡ n)). (name, subst (λ (x : ℕ). Has v.notes x name) t.0 note)) (λ later. old.bids c n later) has;
    } in
    let lowest : (c : ℕ) → c < k.cells → IsLeast no_bid (IsBid (set s.views id w) c) (least_word next c) = λ c near. dite (ℕ_discrete c cell)
    (λ same. subst (λ (x : ℕ). IsLeast no_bid (IsBid (set s.views id w) x) (least_word next x)) (sym same)
    (subst (λ (n : ℕ). IsLeast no_bid (IsBid (set s.views id w) cell) n) (sym here)
    (let is = rule.least cell inside in
    record {
      below = (let b = is.below in omega arith);
      each = λ x bid. dite (ℕ_discrete number x) (λ e. omega arith)
          (λ ne. (let under = is.each x (bid_before s.views id v w cell x at (λ has. ⊎_elim (λ (t : (cell ≡ cell) × (number ≡ x)). absurd (ne t.1)) (λ later. inl later) has) bid) in omega arith));
      one = dite (dec_le (least_word s.words cell) number)
          (λ le. let won : least_word s.words cell ≡ word = omega arith in ⊎_elim (λ (e : least_word s.words cell ≡ no_bid). inl (sym won ∙ e))
          (λ bid. inr (subst (λ (n : ℕ). IsBid (set s.views id w) cell n) won (bid_after s.views id v w cell (least_word s.words cell) at (λ has. inr has) bid))) is.one)
          (λ gt. let won : number ≡ word = omega arith in inr (subst (λ (n : ℕ). IsBid (set s.views id w) cell n) won (id, w, set_here s.views id w (inside_list s.views id v at), inl (refl, refl))));
    })))
    (λ off. subst (λ (n : ℕ). IsLeast no_bid (IsBid (set s.views id w) c) n) (sym (least_else s.words cell c word off))
    (same_least (IsBid s.views c) (IsBid (set s.views id w) c) (least_word s.words c) (λ x bid. bid_after s.views id v w c x at (λ has. inr has) bid)
    (λ x bid. bid_before s.views id v w c x at (λ has. ⊎_elim (λ (t : (cell ≡ c) × (number ≡ x)). absurd (off (sym t.0))) (λ later. inl later) has) bid) (rule.least c near))) in (
      w,
      keeps,
      tt,
      moved k s.words next s.views id v w rule at (length-set s.words (least_at cell) word) refl (λ c near filled. stays c) fits
          (λ c near. subst (λ (n : ℕ). n ≤ k.names) (sym (stays c)) (rule.named c near))
          lowest
          (played_bid k.cells s.words s.views (set s.views id w) id cell number inside within
          (λ a b. (let t = total-set (λ (u : View). times a b u.puts) s.views id v w at in omega arith))
          (λ a b. (let t = total-set (λ (u : View). times a b u.bids) s.views id v w at in omega arith)) rule.played)
          (λ c n.
          let t = total-set (λ (u : View). times c n u.puts) s.views id v w at in
          let is = rule.puts c n in
          let same : is_word_of n (name_word next c) ≡ is_word_of n (name_word s.words c) = ap (is_word_of n) (stays c) in
          omega arith),
      (refl, (λ c is. let same : cell ≡ c = omega arith in ap (λ (x : ℕ). bidden v x number) same)),
    )

-- a load that changes nothing
pub weighs : (k : Size) (slots id : ℕ) (m : Sitting) (i : ℕ) → Allows (Kept k) slots id m i (λ n. n) (weighed (step slots i 0 0 none) m)
weighs k slots id m i s rule wide at small =
    let same : Watches k.cells s.words m.0 m.0 = record { share = refl; bids = refl; puts = refl; fits = rule.each id m.0 at } in
    let kept : Keeps k s.words (set s.views id m.0) = watched k s.words s.views id m.0 m.0 rule at same in (
      m.0,
      keeps,
      tt,
      subst (λ (words : List ℕ). Keeps k words (set s.views id m.0)) (sym (set-get_or s.words i 0)) kept,
      (refl, (let t = total-set (λ (u : View). u.share) s.views id m.0 spent at in let all = rule.shares in omega arith)),
    )

-- a seat in two
pub splits : (k : Size) (id : ℕ) (v : View) → 2 ≤ v.share → Splits (Kept k) id v (kept_half v) (given_half v)
splits k id v shared s rule at =
    let kept : View = kept_half v in
    let given : View = given_half v in
    let front : List View = set s.views id kept in
    let old = rule.each id v at in
    let keeps_on : Fits k.cells s.words kept = record { idle = λ none. absurd (omega arith); notes = old.notes; bids = old.bids } in
    let begins : Fits k.cells s.words given = record { idle = λ none. absurd (omega arith); notes = old.notes; bids = λ c number has. absurd has } in
    record {
      wide = rule.wide;
      shares = (let t = total-set (λ (u : View). u.share) s.views id v kept at in let more = sum_by-append (λ (u : View). u.share) front (given ∷ []) in let all = rule.shares in omega arith);
      each = λ j u here. ⊎_elim
          (λ (in_front : get_elem? front j ≡ some u). ⊎_elim
          (λ (t : (j ≡ id) × (kept ≡ u)). subst (Fits k.cells s.words) t.1 keeps_on)
          (λ (t : (j ≢ id) × (get_elem? s.views j ≡ some u)). rule.each j u t.1)
          (at_set s.views id j kept u in_front))
          (λ (last : given ≡ u). subst (Fits k.cells s.words) last begins)
          (at_snoc front given u j here);
      named = rule.named;
      least = λ c near. same_least (IsBid s.views c) (IsBid (front ++ given ∷ []) c) (least_word s.words c)
          (λ x bid. let moved_on = bid_after s.views id v kept c x at (λ has. has) bid in (moved_on.0, moved_on.1, at_longer front (given ∷ []) moved_on.0 moved_on.1 moved_on.2, moved_on.3))
          (λ x bid. ⊎_elim
          (λ (in_front : get_elem? front bid.0 ≡ some bid.1). bid_before s.views id v kept c x at (λ has. inl has) (bid.0, bid.1, in_front, bid.3))
          (λ (last : given ≡ bid.1). absurd (subst (λ (u : View). Has u.bids c x) (sym last) bid.3))
          (at_snoc front given bid.1 bid.0 bid.2))
          (rule.least c near);
      played = played_as k.cells s.words s.views (front ++ given ∷ [])
          (λ a b. (let t = total-set (λ (u : View). times a b u.puts) s.views id v kept at in let more = sum_by-append (λ (u : View). times a b u.puts) front (given ∷ []) in omega arith))
          (λ a b. (let t = total-set (λ (u : View). times a b u.bids) s.views id v kept at in let more = sum_by-append (λ (u : View). times a b u.bids) front (given ∷ []) in omega arith)) rule.played;
      puts = λ c n.
          let t = total-set (λ (u : View). times c n u.puts) s.views id v kept at in
          let more = sum_by-append (λ (u : View). times c n u.puts) front (given ∷ []) in
          let is = rule.puts c n in
          omega arith;
    }

-- two seats in one
pub joins : (k : Size) (id : ℕ) (v : View) (other : ℕ) (w : View) → 1 ≤ v.share → Joins (Kept k) id v other w (united v w) spent
joins k id v other w shared s rule at off there =
    let both : View = united v w in
    let middle : List View = set s.views id both in
    let after : List View = set middle other spent in
    let theirs : get_elem? s.views other ≡ some w = sym (set_else s.views id other both off) ∙ there in
    let mine = rule.each id v at in
    let its = rule.each other w theirs in
    let apart : id ≢ other = λ same. off (sym same) in
    let at_both : get_elem? after id ≡ some both = set_else middle other id spent apart ∙ set_here s.views id both (inside_list s.views id v at) in
    let fits : Fits k.cells s.words both = record {
      idle = λ none. absurd (omega arith);
      notes = λ c n has. ⊎_elim (λ left. mine.notes c n left) (λ right. its.notes c n right) (has_either v.notes w.notes c n has);
      bids = λ c n has. ⊎_elim (λ left. (let note = mine.bids c n left in (note.0, has_left v.notes w.notes c note.0 note.1))) (λ right. (let note = its.bids c n right in (note.0, has_right v.notes w.notes c note.0 note.1))) (has_either v.bids w.bids c n has);
    } in
    let idle : Fits k.cells s.words spent = record { idle = λ none. (refl, refl, refl); notes = λ c n has. absurd has; bids = λ c n has. absurd has } in
    record {
      wide = rule.wide;
      shares = (let t = total-set (λ (u : View). u.share) s.views id v both at in let u = total-set (λ (u : View). u.share) middle other w spent there in let all = rule.shares in omega arith);
      each = λ j u here. ⊎_elim
          (λ (t : (j ≡ other) × (spent ≡ u)). subst (Fits k.cells s.words) t.1 idle)
          (λ (t : (j ≢ other) × (get_elem? middle j ≡ some u)). ⊎_elim
          (λ (r : (j ≡ id) × (both ≡ u)). subst (Fits k.cells s.words) r.1 fits)
          (λ (r : (j ≢ id) × (get_elem? s.views j ≡ some u)). rule.each j u r.1)
          (at_set s.views id j both u t.1))
          (at_set middle other j spent u here);
      named = rule.named;
      least = λ c near. same_least (IsBid s.views c) (IsBid after c) (least_word s.words c)
          (λ x bid. dite (ℕ_discrete bid.0 id)
          (λ same.
          let is : v ≡ bid.1 = some-injective v bid.1 (sym at ∙ subst (λ (j : ℕ). get_elem? s.views j ≡ some bid.1) same bid.2) in
          (id, both, at_both, has_left v.bids w.bids c x (subst (λ (u : View). Has u.bids c x) (sym is) bid.3)))
          (λ not_first. dite (ℕ_discrete bid.0 other)
          (λ same.
          let is : w ≡ bid.1 = some-injective w bid.1 (sym theirs ∙ subst (λ (j : ℕ). get_elem? s.views j ≡ some bid.1) same bid.2) in
          (id, both, at_both, has_right v.bids w.bids c x (subst (λ (u : View). Has u.bids c x) (sym is) bid.3)))
          (λ not_second. (bid.0, bid.1, set_else middle other bid.0 spent not_second ∙ set_else s.views id bid.0 both not_first ∙ bid.2, bid.3))))
          (λ x bid. ⊎_elim
          (λ (t : (bid.0 ≡ other) × (spent ≡ bid.1)). absurd (subst (λ (u : View). Has u.bids c x) (sym t.1) bid.3))
          (λ (t : (bid.0 ≢ other) × (get_elem? middle bid.0 ≡ some bid.1)).
          bid_before s.views id v both c x at
          (λ has. ⊎_elim (λ left. inl left) (λ right. inr (other, w, theirs, right)) (has_either v.bids w.bids c x has))
          (bid.0, bid.1, t.1, bid.3))
          (at_set middle other bid.0 spent bid.1 bid.2))
          (rule.least c near);
      played = played_as k.cells s.words s.views after
          (λ a b. (let t = total-set (λ (u : View). times a b u.puts) s.views id v both at in let u = total-set (λ (u : View). times a b u.puts) middle other w spent there in let more = times-append a b v.puts w.puts in omega arith))
          (λ a b. (let t = total-set (λ (u : View). times a b u.bids) s.views id v both at in let u = total-set (λ (u : View). times a b u.bids) middle other w spent there in let more = times-append a b v.bids w.bids in omega arith)) rule.played;
      puts = λ c n.
          let t = total-set (λ (u : View). times c n u.puts) s.views id v both at in
          let u = total-set (λ (u : View). times c n u.puts) middle other w spent there in
          let more = times-append c n v.puts w.puts in
          let is = rule.puts c n in
          omega arith;
    }
