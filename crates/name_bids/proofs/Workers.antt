-- Workers beside each other, and all of them together.
use Rattle.std.proofs.Common.{◌≡◌, ℕ, ◌-◌, ◌<◌, ◌≤◌, ◌⊎◌, inl, inr, ⊎_elim, true, List, [], ◌++◌, length, append_assoc, sym, refl, ap, ◌∙◌, subst, arith}
use Rattle.std.specs.Prelude.{None, Some, is_some}
use Rattle.std.specs.declared.option.Option.{Option}
use Rattle.std.specs.Option.{option_or}
use Rattle.std.proofs.lemmas.Bool.{cases_lt}
use Rattle.odr_names.specs.Numbered.{bid_at}
use Rattle.odr_names.specs.Stretches.{object_at}
use Rattle.type_names.specs.Names.{Named}
use Rattle.type_pool.specs.declared.seat.PoolSeat.{PoolSeat}
use Rattle.type_pool.specs.declared.table.Pool.{Pool}
use Rattle.type_pool.specs.declared.view.View.{View}
use Rattle.pool_core.specs.declared.state.PoolState.{PoolState}
use Rattle.type_pool.specs.Ends.{Closes}
use Rattle.type_pool.specs.Standing.{no_bid}
use Rattle.type_pool.specs.Views as pool_views
use Rattle.work_share.specs.declared.counter.Tasks.{Tasks}
use Rattle.work_share.specs.declared.counter.TaskSeat.{TaskSeat}
use Rattle.work_share.specs.declared.view.TaskView.{TaskView}
use Rattle.work_share.specs.Counter as task_views
use Rattle.work_share.specs.Fair.{IsFair}
use Rattle.work_share.specs.Numbers.{times}
use Rattle.work_share.proofs.Totals.{times-append}
use Rattle.type_pool.proofs.PairLists.{has_left, has_right}
use Rattle.name_bids.specs.declared.bidding.ObjectCells.{ObjectCells}
use Rattle.name_bids.specs.Bids.{HasBid, IsOfTasks}
use Rattle.name_bids.specs.Noting.{AreNoted, IsPlacedAt}
use Rattle.name_bids.specs.Reading.{IsCellOf}
use Rattle.name_bids.specs.Tables.{IsTable}
use Rattle.name_bids.specs.Sharing.{Belong, HasEnded, HasWorked, seat_view, turn_view}
use Rattle.name_bids.proofs.Bids.{bid_as, bid_united}
use Rattle.name_bids.proofs.NotedCells.{noted_as, noted_both, noted_more, placed_in, placed_on}
use Rattle.name_bids.proofs.Tables.{is_table}

module _ (names : List Named) where
  of_both : (left right : List ℕ) (x : ℕ) → IsOfTasks names left x ⊎ IsOfTasks names right x → IsOfTasks names (left ++ right) x
  of_both left right x is = ⊎_elim
      (λ (it : IsOfTasks names left x). (it.0, omega (arith, it.1, times-append it.0 left right), it.2))
      (λ (it : IsOfTasks names right x). (it.0, omega (arith, it.1, times-append it.0 left right), it.2))
      is

  of_either : (left right : List ℕ) (x : ℕ) → IsOfTasks names (left ++ right) x → IsOfTasks names left x ⊎ IsOfTasks names right x
  of_either left right x it = elim (cases_lt 0 (times it.0 left)) [
    | inl some ↦ inl (it.0, omega (arith, some), it.2)
    | inr none ↦ inr (it.0, omega (arith, none, it.1, times-append it.0 left right), it.2)
  ]

  -- two workers whose seats were one, and are one again
  pub worked_both : (pool : Pool) (work : Tasks) (v : View) (t : TaskView) (seat other both : PoolSeat) (turn other_turn both_turn : TaskSeat) (noted more : List ObjectCells)
      → HasWorked names pool work (pool_views.kept_half v) (task_views.kept_half t) seat turn noted → HasWorked names pool work (pool_views.given_half v) (task_views.given_half t) other other_turn more
      → Belong pool work both both_turn → seat_view both ≡ pool_views.united (seat_view seat) (seat_view other) → turn_view both_turn ≡ task_views.united (turn_view turn) (turn_view other_turn)
      → HasWorked names pool work v t both both_turn (noted ++ more)
  worked_both pool work v t seat other both turn other_turn both_turn noted more first second belong is turn_is = record {
    belong = belong;
    seat_share = ap (λ (w : View). w.share) is ∙ omega (arith, first.seat_share, second.seat_share);
    turn_share = ap (λ (w : TaskView). w.share) turn_is ∙ omega (arith, first.turn_share, second.turn_share);
    ended = ap (λ (w : TaskView). is_some w.kept) turn_is ∙ either_ends (turn_view turn).kept (turn_view other_turn).kept first.ended;
    drawn = first.drawn ++ second.drawn;
    more = ap (λ (w : TaskView). w.drawn) turn_is ∙ joined t.drawn first.drawn second.drawn (turn_view turn).drawn (turn_view other_turn).drawn first.more second.more;
    bid = subst (λ (w : View). HasBid names pool.cells v w (IsOfTasks names (first.drawn ++ second.drawn))) (sym is)
        (bid_as names pool.cells v (pool_views.united (seat_view seat) (seat_view other)) (λ x. IsOfTasks names first.drawn x ⊎ IsOfTasks names second.drawn x) (IsOfTasks names (first.drawn ++ second.drawn))
        (λ x is. of_both first.drawn second.drawn x is)
        (λ x is. of_either first.drawn second.drawn x is)
        (bid_united names pool.cells v (seat_view seat) (seat_view other) (IsOfTasks names first.drawn) (IsOfTasks names second.drawn) first.bid second.bid));
    cells = subst (λ (w : View). AreNoted (length names) (IsPlacedAt names pool.cells w.notes) (noted ++ more) (IsOfTasks names (first.drawn ++ second.drawn))) (sym is)
        (noted_as (length names) (IsPlacedAt names pool.cells all_notes) (noted ++ more) (λ x. IsOfTasks names first.drawn x ⊎ IsOfTasks names second.drawn x) (IsOfTasks names (first.drawn ++ second.drawn))
        (λ x is. of_either first.drawn second.drawn x is)
        (noted_both (length names) (IsPlacedAt names pool.cells all_notes) noted more (IsOfTasks names first.drawn) (IsOfTasks names second.drawn)
        (noted_more (length names) (IsPlacedAt names pool.cells (seat_view seat).notes) (IsPlacedAt names pool.cells all_notes) noted (IsOfTasks names first.drawn)
        (λ x cell placed. placed_on names pool.cells (seat_view seat).notes all_notes (λ c n has. has_left (seat_view seat).notes (seat_view other).notes c n has) x cell placed) first.cells)
        (noted_more (length names) (IsPlacedAt names pool.cells (seat_view other).notes) (IsPlacedAt names pool.cells all_notes) more (IsOfTasks names second.drawn)
        (λ x cell placed. placed_on names pool.cells (seat_view other).notes all_notes (λ c n has. has_right (seat_view seat).notes (seat_view other).notes c n has) x cell placed) second.cells)));
  } where
    all_notes : List (ℕ × ℕ)
    all_notes = (seat_view seat).notes ++ (seat_view other).notes

    either_ends : (o p : Option ℕ) → is_some o ≡ true → is_some (option_or o p) ≡ true
    either_ends None p e = absurd (cc)
    either_ends (Some k) p e = refl

    joined : (old a b left right : List ℕ) → left ≡ old ++ a → right ≡ [] ++ b → left ++ right ≡ old ++ (a ++ b)
    joined old a b left right left_is right_is = ap (λ (xs : List ℕ). xs ++ right) left_is ∙ ap (λ (xs : List ℕ). (old ++ a) ++ xs) right_is ∙ append_assoc old a b

  -- ---- all names

  -- who has all shares and no task left has drawn the task of each name
  all_drawn : (pool : Pool) (seat : PoolSeat) (turn : TaskSeat) → HasEnded names pool seat turn → IsFair (turn_view turn) → (x : ℕ) → x < length names → IsOfTasks names (turn_view turn).drawn x
  all_drawn pool seat turn end fair x within =
      let object = end.objects x within in
      let i : ℕ = object_at names x - 1 in
      let once : times i (turn_view turn).drawn ≡ 1 = fair.all end.turn_share end.ended i (omega (arith, object.0, object.1)) in
      (i, omega (arith, once), (within, omega (arith, object.0)))

  pub ended_bid : (pool : Pool) (seat : PoolSeat) (turn : TaskSeat) → HasEnded names pool seat turn → IsFair (turn_view turn)
      → HasBid names pool.cells (pool_views.first_view pool.cells pool.names) (seat_view seat) (λ x. x < length names)
  ended_bid pool seat turn end fair =
      bid_as names pool.cells (pool_views.first_view pool.cells pool.names) (seat_view seat) (IsOfTasks names (turn_view turn).drawn) (λ x. x < length names)
      (λ x is. is.2.0)
      (λ x within. all_drawn pool seat turn end fair x within)
      end.bid

  -- what was noted of all names is so in the closed table
  pub closed_cells : (pool : Pool) (seat : PoolSeat) (turn : TaskSeat) (state : PoolState) (noted : List ObjectCells) → HasEnded names pool seat turn → IsFair (turn_view turn) → Closes pool.cells (seat_view seat) state
      → AreNoted (length names) (IsPlacedAt names pool.cells (seat_view seat).notes) noted (IsOfTasks names (turn_view turn).drawn) → AreNoted (length names) (IsCellOf names state.cells) noted (λ x. x < length names)
  closed_cells pool seat turn state noted end fair closes are =
      let counted : pool.cells ≡ length state.cells = sym closes.cells_length in
      noted_as (length names) (IsCellOf names state.cells) noted (IsOfTasks names (turn_view turn).drawn) (λ x. x < length names)
      (λ x within. all_drawn pool seat turn end fair x within)
      (noted_more (length names) (IsPlacedAt names (length state.cells) (seat_view seat).notes) (IsCellOf names state.cells) noted (IsOfTasks names (turn_view turn).drawn)
      (λ x cell placed. placed_in names (seat_view seat) state (subst (λ (n : ℕ). Closes n (seat_view seat) state) counted closes) x cell placed)
      (subst (λ (n : ℕ). AreNoted (length names) (IsPlacedAt names n (seat_view seat).notes) noted (IsOfTasks names (turn_view turn).drawn)) counted are))

  pub closed_table : (pool : Pool) (seat : PoolSeat) (turn : TaskSeat) (state : PoolState) → HasEnded names pool seat turn → IsFair (turn_view turn) → Closes pool.cells (seat_view seat) state
      → 64 ≤ pool.cells → ((x : ℕ) → x < length names → bid_at names x < no_bid) → IsTable names state
  closed_table pool seat turn state end fair closes some small =
      let counted : length state.cells ≡ pool.cells = closes.cells_length in
      let old : View = pool_views.first_view pool.cells pool.names in
      is_table names old (seat_view seat) state
      (subst (λ (n : ℕ). Closes n (seat_view seat) state) (sym counted) closes)
      (subst (λ (n : ℕ). HasBid names n old (seat_view seat) (λ x. x < length names)) (sym counted) (ended_bid pool seat turn end fair))
      refl refl (omega (arith, counted, some)) small (counted ∙ end.cells)

-- what was noted by all workers, for all tasks that were drawn
pub all_noted : (names : List Named) (pool : Pool) (work : Tasks) (v : View) (t : TaskView) (seat : PoolSeat) (turn : TaskSeat) (noted : List ObjectCells) (count : ℕ) → HasWorked names pool work v t seat turn noted
    → t ≡ task_views.fresh count → AreNoted (length names) (IsPlacedAt names pool.cells (seat_view seat).notes) noted (IsOfTasks names (turn_view turn).drawn)
all_noted names pool work v t seat turn noted count worked fresh =
    subst (λ (drawn : List ℕ). AreNoted (length names) (IsPlacedAt names pool.cells (seat_view seat).notes) noted (IsOfTasks names drawn)) (sym (worked.more ∙ ap (λ (t : TaskView). t.drawn ++ worked.drawn) fresh)) worked.cells
