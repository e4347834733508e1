-- Which names are bid for as tasks are drawn.
use Rattle.std.proofs.Common.{◌≡◌, ℕ, ◌+◌, ◌<◌, ◌≤◌, ◌⊎◌, inl, inr, ⊎_elim, List, [], ◌∷◌, ◌++◌, length, append-nil, append_assoc, sym, refl, ap, ◌∙◌, subst, arith}
use Rattle.std.specs.Prelude.{None, Some}
use Rattle.std.proofs.lemmas.Bool.{cases_eq, cases_lt}
use Rattle.odr_names.specs.Stretches.{AreOfObjects, IsFirstOf, object_at}
use Rattle.type_names.specs.Names.{Named}
use Rattle.type_pool.specs.declared.view.View.{View}
use Rattle.work_share.specs.declared.view.TaskView.{TaskView}
use Rattle.work_share.specs.Counter.{drew, stopped}
use Rattle.work_share.specs.Fair.{Keeps}
use Rattle.work_share.specs.Numbers.{above}
use Rattle.work_share.proofs.Totals.{times-append, times_here, times_other}
use Rattle.name_bids.specs.declared.bidding.ObjectCells.{ObjectCells}
use Rattle.name_bids.specs.Bids.{HasBid, IsOfObject, IsOfTasks}
use Rattle.name_bids.specs.Noting.{AreCellsOf, AreNoted, IsOneOf, IsPlacedAt}
use Rattle.name_bids.proofs.Bids.{bid_as, bid_none, bid_then}
use Rattle.name_bids.proofs.NotedCells.{noted_as, noted_both, noted_more, noted_one, placed_on}

-- ---- the names of an object, one after the other

-- those of an object before a number
abbrev pub IsOfObjectTo : List Named → ℕ → ℕ → ℕ → Type 0
IsOfObjectTo names object n x = (x < n) × IsOfObject names object x

module _ (names : List Named) (cells object first last : ℕ) (old : View) (from : IsFirstOf names object first) (to : IsFirstOf names (object + 1) last) where
  pub object_begun : HasBid names cells old old (IsOfObjectTo names object first)
  object_begun = bid_none names cells old (IsOfObjectTo names object first) (λ x is. absurd (omega (arith, from.before x is.0, is.1.1)))

  pub object_more : (mid new : View) (x : ℕ) → first ≤ x → x < last → HasBid names cells old mid (IsOfObjectTo names object x) → HasBid names cells mid new (λ y. y ≡ x) → HasBid names cells old new (IsOfObjectTo names object (x + 1))
  object_more mid new x low high so_far bid =
      bid_as names cells old new (λ y. IsOfObjectTo names object x y ⊎ (y ≡ x)) (IsOfObjectTo names object (x + 1))
      (λ y is. ⊎_elim
      (λ (before : IsOfObjectTo names object x y). (omega (arith, before.0), before.1))
      (λ (same : y ≡ x). subst (IsOfObjectTo names object (x + 1)) (sym same) (omega arith, (within, here)))
      is)
      (λ y is. elim (cases_lt y x) [ inl before ↦ inl (before, is.1) | inr behind ↦ inr (omega (arith, is.0, behind)) ])
      (bid_then names cells old mid new (IsOfObjectTo names object x) (λ y. y ≡ x) so_far bid) where
        within : x < length names
        within = omega (arith, high, to.within)

        here : object_at names x ≡ object
        here = omega (arith, from.behind x low within, to.before x high)

  pub object_done : (new : View) (x : ℕ) → last ≤ x → HasBid names cells old new (IsOfObjectTo names object x) → HasBid names cells old new (IsOfObject names object)
  object_done new x whole so_far =
      bid_as names cells old new (IsOfObjectTo names object x) (IsOfObject names object)
      (λ y is. is.1)
      (λ y is. elim (cases_lt y last) [ inl low ↦ (omega (arith, low, whole), is) | inr high ↦ absurd (omega (arith, to.behind y high is.0, is.1)) ])
      so_far

  -- so many names from the first one on are all of them
  pub object_whole : (own : ObjectCells) → own.first ≡ first → last ≤ own.first + length own.cells.items → (x : ℕ) → IsOfObject names object x → IsOneOf own x
  object_whole own begins ends x is = (
    elim (cases_lt x first) [ inl before ↦ absurd (omega (arith, from.before x before, is.1)) | inr behind ↦ omega (arith, behind, begins) ],
    elim (cases_lt x last) [ inl before ↦ omega (arith, before, ends) | inr behind ↦ absurd (omega (arith, to.behind x (omega (arith, behind)) is.0, is.1)) ],
  )

-- ---- the objects of the tasks that are drawn

-- a worker has drawn these so far
pub record HasClaimed (names : List Named) (cells : ℕ) (v w : View) (t u : TaskView) (drawn : List ℕ) : Type 0 where
  pub share : w.share ≡ v.share
  pub turn_share : u.share ≡ t.share
  pub more : u.drawn ≡ t.drawn ++ drawn
  pub bid : HasBid names cells v w (IsOfTasks names drawn)

module _ (names : List Named) (cells : ℕ) (v : View) (t : TaskView) where
  pub none_claimed : HasClaimed names cells v v t t []
  none_claimed = record {
    share = refl;
    turn_share = refl;
    more = sym (append-nil t.drawn);
    bid = bid_none names cells v (IsOfTasks names []) (λ x is. absurd (omega (arith, is.1)));
  }

  drawn_more : (drawn : List ℕ) (n x : ℕ) → IsOfTasks names drawn x → IsOfTasks names (drawn ++ n ∷ []) x
  drawn_more drawn n x is = (is.0, omega (arith, is.1, times-append is.0 drawn (n ∷ [])), is.2)

  drawn_here : (drawn : List ℕ) (n x : ℕ) → IsOfObject names (n + 1) x → IsOfTasks names (drawn ++ n ∷ []) x
  drawn_here drawn n x is = (n, omega (arith, times-append n drawn (n ∷ []), times_here n), is)

  drawn_cases : (drawn : List ℕ) (n x : ℕ) → IsOfTasks names (drawn ++ n ∷ []) x → IsOfTasks names drawn x ⊎ IsOfObject names (n + 1) x
  drawn_cases drawn n x is = elim (cases_eq is.0 n) [
    | inl same ↦ inr (is.2.0, is.2.1 ∙ ap (λ i. i + 1) same)
    | inr other ↦ inl (is.0, omega (arith, is.1, times-append is.0 drawn (n ∷ []), times_other is.0 n (λ e. other (sym e))), is.2)
  ]

  -- what is noted of the names of one task more
  pub noted_task : (w new : View) (drawn : List ℕ) (n : ℕ) (noted : List ObjectCells) (own : ObjectCells) → HasBid names cells w new (IsOfObject names (n + 1)) → AreCellsOf (length names) (IsPlacedAt names cells new.notes) own
      → ((x : ℕ) → IsOfObject names (n + 1) x → IsOneOf own x) → AreNoted (length names) (IsPlacedAt names cells w.notes) noted (IsOfTasks names drawn)
      → AreNoted (length names) (IsPlacedAt names cells new.notes) (noted ++ own ∷ []) (IsOfTasks names (drawn ++ n ∷ []))
  noted_task w new drawn n noted own bid its whole so_far =
      noted_as (length names) (IsPlacedAt names cells new.notes) (noted ++ own ∷ []) (λ x. IsOfTasks names drawn x ⊎ IsOfObject names (n + 1) x) (IsOfTasks names (drawn ++ n ∷ []))
      (λ x is. drawn_cases drawn n x is)
      (noted_both (length names) (IsPlacedAt names cells new.notes) noted (own ∷ []) (IsOfTasks names drawn) (IsOfObject names (n + 1))
      (noted_more (length names) (IsPlacedAt names cells w.notes) (IsPlacedAt names cells new.notes) noted (IsOfTasks names drawn) (λ x cell placed. placed_on names cells w.notes new.notes bid.notes x cell placed) so_far)
      (noted_one (length names) (IsPlacedAt names cells new.notes) own (IsOfObject names (n + 1)) its whole))

  -- one task more
  pub claimed_more : (w new : View) (u after : TaskView) (drawn : List ℕ) (n : ℕ) → HasClaimed names cells v w t u drawn → after ≡ drew u n → new.share ≡ w.share → HasBid names cells w new (IsOfObject names (n + 1))
      → HasClaimed names cells v new t after (drawn ++ n ∷ [])
  claimed_more w new u after drawn n so_far is share bid = record {
    share = share ∙ so_far.share;
    turn_share = ap (λ (v : TaskView). v.share) is ∙ so_far.turn_share;
    more = ap (λ (v : TaskView). v.drawn) is ∙ ap (λ (xs : List ℕ). xs ++ n ∷ []) so_far.more ∙ append_assoc t.drawn drawn (n ∷ []);
    bid = bid_as names cells v new (λ x. IsOfTasks names drawn x ⊎ IsOfObject names (n + 1) x) (IsOfTasks names (drawn ++ n ∷ []))
        (λ x is. ⊎_elim (λ (before : IsOfTasks names drawn x). drawn_more drawn n x before) (λ (here : IsOfObject names (n + 1) x). drawn_here drawn n x here) is)
        (λ x is. drawn_cases drawn n x is)
        (bid_then names cells v w new (IsOfTasks names drawn) (IsOfObject names (n + 1)) so_far.bid bid);
  }

  -- the last claim: a number that is no task's
  pub claimed_all : (w : View) (u after : TaskView) (count : ℕ) (drawn : List ℕ) → AreOfObjects names count → HasClaimed names cells v w t u drawn → Keeps count u after
      → (all : List ℕ) × HasClaimed names cells v w t after all × ((x : ℕ) → IsOfTasks names all x → IsOfTasks names drawn x)
  claimed_all w u after count drawn objects so_far keeps = ⊎_elim
      (λ (had : (u.kept ≡ Some keeps.0) × (after ≡ u)). (drawn, subst (λ (u : TaskView). HasClaimed names cells v w t u drawn) (sym had.1) so_far, λ x is. is))
      (λ (now : (u.kept ≡ None) × (above u.drawn ≤ keeps.0) × (after ≡ stopped u keeps.0)). (
        drawn ++ keeps.0 ∷ [],
        record {
          share = so_far.share;
          turn_share = ap (λ (v : TaskView). v.share) now.2 ∙ so_far.turn_share;
          more = ap (λ (v : TaskView). v.drawn) now.2 ∙ ap (λ (xs : List ℕ). xs ++ keeps.0 ∷ []) so_far.more ∙ append_assoc t.drawn drawn (keeps.0 ∷ []);
          bid = bid_as names cells v w (IsOfTasks names drawn) (IsOfTasks names (drawn ++ keeps.0 ∷ []))
              (λ x is. drawn_more drawn keeps.0 x is)
              no_more
              so_far.bid;
        },
        no_more,
      ))
      keeps.2
    where
      no_more : (x : ℕ) → IsOfTasks names (drawn ++ keeps.0 ∷ []) x → IsOfTasks names drawn x
      no_more x is = ⊎_elim
          (λ (before : IsOfTasks names drawn x). before)
          (λ (here : IsOfObject names (keeps.0 + 1) x). absurd (omega (arith, (objects x here.0).1, here.1, keeps.1)))
          (drawn_cases drawn keeps.0 x is)
