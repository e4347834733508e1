-- What a seat knows once it bid for one name, for one and another, and once it is joined to a seat that bid for others.
use Rattle.std.proofs.Common.{◌≡◌, ℕ, ◌<◌, ◌⊎◌, inl, inr, ⊎_elim, List, [], ◌∷◌, ◌++◌, length, sym, refl, ap, subst}
use Rattle.odr_names.specs.Numbered.{SamePath, bid_at}
use Rattle.type_names.specs.Names.{Named}
use Rattle.type_pool.specs.declared.view.View.{View}
use Rattle.type_pool.specs.declared.placing.Placing.TheVariants.{Cell, Crowded}
use Rattle.type_pool.specs.Pairs.{Has}
use Rattle.type_pool.specs.Seats.{Learns, Placed, PutsAtMost}
use Rattle.type_pool.specs.Standing.{probes}
use Rattle.type_pool.specs.Views.{bidden, given_half, kept_half, united}
use Rattle.type_pool.proofs.PairLists.{has_either, has_left, has_right}
use Rattle.type_pool.proofs.Places.{others_on, stands_on}
use Rattle.name_bids.specs.Bids.{HasBid, IsNotedAt, IsNotedCrowded}
use Rattle.name_bids.specs.Tables.{first_cell}

module _ (names : List Named) (cells : ℕ) where
  -- what notes show, more notes show
  pub noted_on : (old new : List (ℕ × ℕ)) (x cell : ℕ) → ((c n : ℕ) → Has old c n → Has new c n) → IsNotedAt names cells old x cell → IsNotedAt names cells new x cell
  noted_on old new x cell more at = stands_on (SamePath names) (Has old) (Has new) (first_cell names x cells) cells x cell more at

  pub crowded_on : (old new : List (ℕ × ℕ)) (x : ℕ) → ((c n : ℕ) → Has old c n → Has new c n) → IsNotedCrowded names cells old x → IsNotedCrowded names cells new x
  crowded_on old new x more crowded = others_on (SamePath names) (Has old) (Has new) (first_cell names x cells) cells x probes more crowded

  -- nothing was done
  pub bid_none : (v : View) (For : ℕ → Type 0) → ((x : ℕ) → For x → ⊥) → HasBid names cells v v For
  bid_none v For none = record {
    each = λ x is. absurd (none x is);
    only = λ c n has. inl has;
    puts = λ c n has. inl has;
    bids = λ c n has. has;
    notes = λ c n has. has;
  }

  -- one after the other
  pub bid_then : (old mid new : View) (D E : ℕ → Type 0) → HasBid names cells old mid D → HasBid names cells mid new E → HasBid names cells old new (λ x. D x ⊎ E x)
  bid_then old mid new D E first second = record {
    each = λ x is. ⊎_elim
        (λ (d : D x). ⊎_elim
        (λ (at : (cell : ℕ) × IsNotedAt names cells mid.notes x cell × Has mid.bids cell (bid_at names x)). inl (at.0, noted_on mid.notes new.notes x at.0 second.notes at.1, second.bids at.0 (bid_at names x) at.2))
        (λ (crowded : IsNotedCrowded names cells mid.notes x). inr (crowded_on mid.notes new.notes x second.notes crowded))
        (first.each x d))
        (λ (e : E x). second.each x e)
        is;
    only = λ c n has. ⊎_elim
        (λ (before : Has mid.bids c n). ⊎_elim
        (λ (old_one : Has old.bids c n). inl old_one)
        (λ (of : (x : ℕ) × D x × IsNotedAt names cells mid.notes x c × (n ≡ bid_at names x)). inr (of.0, inl of.1, noted_on mid.notes new.notes of.0 c second.notes of.2, of.3))
        (first.only c n before))
        (λ (of : (x : ℕ) × E x × IsNotedAt names cells new.notes x c × (n ≡ bid_at names x)). inr (of.0, inr of.1, of.2, of.3))
        (second.only c n has);
    puts = λ c n has. ⊎_elim
        (λ (before : Has mid.puts c n). ⊎_elim
        (λ (old_one : Has old.puts c n). inl old_one)
        (λ (at : (n < length names) × IsNotedAt names cells mid.notes n c). inr (at.0, noted_on mid.notes new.notes n c second.notes at.1))
        (first.puts c n before))
        (λ (at : (n < length names) × IsNotedAt names cells new.notes n c). inr at)
        (second.puts c n has);
    bids = λ c n has. second.bids c n (first.bids c n has);
    notes = λ c n has. second.notes c n (first.notes c n has);
  }

  -- the same names, said otherwise
  pub bid_as : (old new : View) (D E : ℕ → Type 0) → ((x : ℕ) → D x → E x) → ((x : ℕ) → E x → D x) → HasBid names cells old new D → HasBid names cells old new E
  bid_as old new D E to back bid = record {
    each = λ x is. bid.each x (back x is);
    only = λ c n has. ⊎_elim
        (λ (before : Has old.bids c n). inl before)
        (λ (of : (x : ℕ) × D x × IsNotedAt names cells new.notes x c × (n ≡ bid_at names x)). inr (of.0, to of.0 of.1, of.2, of.3))
        (bid.only c n has);
    puts = bid.puts;
    bids = bid.bids;
    notes = bid.notes;
  }

  -- a name was placed at a cell, and its bid was made there
  pub bid_cell : (old mid new : View) (x cell number : ℕ) → x < length names → Learns old mid → Placed (SamePath names) mid.notes (first_cell names x cells) cells x (Cell cell)
      → PutsAtMost x (Cell cell) old.puts mid.puts → new ≡ bidden mid cell number → number ≡ bid_at names x → HasBid names cells old new (λ y. y ≡ x)
  bid_cell old mid new x cell number within learns placed puts is its =
      subst (λ (v : View). HasBid names cells old v (λ y. y ≡ x)) (sym is) (subst (λ (n : ℕ). HasBid names cells old (bidden mid cell n) (λ y. y ≡ x)) (sym its) made) where
        at : (y : ℕ) → y ≡ x → IsNotedAt names cells mid.notes y cell
        at y same = subst (λ (y : ℕ). IsNotedAt names cells mid.notes y cell) (sym same) placed

        made : HasBid names cells old (bidden mid cell (bid_at names x)) (λ y. y ≡ x)
        made = record {
          each = λ y same. inl (cell, at y same, inl (refl, ap (bid_at names) (sym same)));
          only = λ c n has. ⊎_elim
              (λ (here : (cell ≡ c) × (bid_at names x ≡ n)). inr (x, refl, subst (λ (c : ℕ). IsNotedAt names cells mid.notes x c) here.0 placed, sym here.1))
              (λ (before : Has mid.bids c n). inl (subst (λ (bids : List (ℕ × ℕ)). Has bids c n) learns.bids before))
              has;
          puts = λ c n has. ⊎_elim
              (λ (same : mid.puts ≡ old.puts). inl (subst (λ (puts : List (ℕ × ℕ)). Has puts c n) same has))
              (λ (one : mid.puts ≡ (cell, x) ∷ old.puts). ⊎_elim
              (λ (here : (cell ≡ c) × (x ≡ n)). inr (subst (λ (n : ℕ). n < length names) here.1 within, subst (λ (n : ℕ). IsNotedAt names cells mid.notes n c) here.1 (subst (λ (c : ℕ). IsNotedAt names cells mid.notes x c) here.0 placed)))
              (λ (before : Has old.puts c n). inl before)
              (subst (λ (puts : List (ℕ × ℕ)). Has puts c n) one has))
              puts;
          bids = λ c n has. inr (subst (λ (bids : List (ℕ × ℕ)). Has bids c n) (sym learns.bids) has);
          notes = learns.notes;
        }

  -- a name was crowded
  pub bid_crowded : (old new : View) (x : ℕ) → Learns old new → Placed (SamePath names) new.notes (first_cell names x cells) cells x Crowded → PutsAtMost x Crowded old.puts new.puts → HasBid names cells old new (λ y. y ≡ x)
  bid_crowded old new x learns placed puts = record {
    each = λ y same. inr (subst (λ (y : ℕ). IsNotedCrowded names cells new.notes y) (sym same) placed);
    only = λ c n has. inl (subst (λ (bids : List (ℕ × ℕ)). Has bids c n) learns.bids has);
    puts = λ c n has. inl (subst (λ (puts : List (ℕ × ℕ)). Has puts c n) puts has);
    bids = λ c n has. subst (λ (bids : List (ℕ × ℕ)). Has bids c n) (sym learns.bids) has;
    notes = learns.notes;
  }

  -- two seats that were one, and are one again
  pub bid_united : (old left right : View) (D E : ℕ → Type 0) → HasBid names cells (kept_half old) left D → HasBid names cells (given_half old) right E → HasBid names cells old (united left right) (λ x. D x ⊎ E x)
  bid_united old left right D E first second = record {
    each = λ x is. ⊎_elim
        (λ (d : D x). ⊎_elim
        (λ (at : (cell : ℕ) × IsNotedAt names cells left.notes x cell × Has left.bids cell (bid_at names x)).
        inl (at.0, noted_on left.notes (left.notes ++ right.notes) x at.0 front at.1, has_left left.bids right.bids at.0 (bid_at names x) at.2))
        (λ (crowded : IsNotedCrowded names cells left.notes x). inr (crowded_on left.notes (left.notes ++ right.notes) x front crowded))
        (first.each x d))
        (λ (e : E x). ⊎_elim
        (λ (at : (cell : ℕ) × IsNotedAt names cells right.notes x cell × Has right.bids cell (bid_at names x)).
        inl (at.0, noted_on right.notes (left.notes ++ right.notes) x at.0 back at.1, has_right left.bids right.bids at.0 (bid_at names x) at.2))
        (λ (crowded : IsNotedCrowded names cells right.notes x). inr (crowded_on right.notes (left.notes ++ right.notes) x back crowded))
        (second.each x e))
        is;
    only = λ c n has. ⊎_elim
        (λ (of_left : Has left.bids c n). ⊎_elim
        (λ (before : Has old.bids c n). inl before)
        (λ (of : (x : ℕ) × D x × IsNotedAt names cells left.notes x c × (n ≡ bid_at names x)). inr (of.0, inl of.1, noted_on left.notes (left.notes ++ right.notes) of.0 c front of.2, of.3))
        (first.only c n of_left))
        (λ (of_right : Has right.bids c n). ⊎_elim
        (λ (before : Has [] c n). absurd before)
        (λ (of : (x : ℕ) × E x × IsNotedAt names cells right.notes x c × (n ≡ bid_at names x)). inr (of.0, inr of.1, noted_on right.notes (left.notes ++ right.notes) of.0 c back of.2, of.3))
        (second.only c n of_right))
        (has_either left.bids right.bids c n has);
    puts = λ c n has. ⊎_elim
        (λ (of_left : Has left.puts c n). ⊎_elim
        (λ (before : Has old.puts c n). inl before)
        (λ (at : (n < length names) × IsNotedAt names cells left.notes n c). inr (at.0, noted_on left.notes (left.notes ++ right.notes) n c front at.1))
        (first.puts c n of_left))
        (λ (of_right : Has right.puts c n). ⊎_elim
        (λ (before : Has [] c n). absurd before)
        (λ (at : (n < length names) × IsNotedAt names cells right.notes n c). inr (at.0, noted_on right.notes (left.notes ++ right.notes) n c back at.1))
        (second.puts c n of_right))
        (has_either left.puts right.puts c n has);
    bids = λ c n has. has_left left.bids right.bids c n (first.bids c n has);
    notes = λ c n has. front c n (first.notes c n has);
  } where
    front : (c n : ℕ) → Has left.notes c n → Has (left.notes ++ right.notes) c n
    front c n has = has_left left.notes right.notes c n has

    back : (c n : ℕ) → Has right.notes c n → Has (left.notes ++ right.notes) c n
    back c n has = has_right left.notes right.notes c n has
