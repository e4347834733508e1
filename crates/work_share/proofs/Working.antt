-- What workers do, one number after the other and one worker beside the other.
use Rattle.std.proofs.Common.{◌≡◌, ℕ, ◌+◌, ◌<◌, ◌≤◌, true, List, [], ◌∷◌, ◌++◌, length, sym, refl, ap, subst, ◌∙◌, arith}
use Rattle.std.specs.Prelude.{None, Some, Ok, Err, IfOk, is_some, slice_index_or}
use Rattle.std.specs.declared.result.Result.{Result}
use Rattle.std.specs.declared.option.Option.{Option}
use Rattle.std.specs.Option.{option_or}
use Rattle.std.specs.List.{All}
use Rattle.std.proofs.lemmas.List.Elements.{All-push, All-append}
use mathlib.Core.Logic.{⊎_elim}
use Rattle.work_share.specs.declared.counter.Tasks.{Tasks}
use Rattle.work_share.specs.declared.counter.TaskSeat.{TaskSeat}
use Rattle.work_share.specs.declared.done.Done.{Done}
use Rattle.work_share.specs.declared.view.TaskView.{TaskView}
use Rattle.work_share.specs.Numbers.{times, above}
use Rattle.work_share.specs.Counter.{stopped, united}
use Rattle.work_share.specs.Fair.{IsFair, Keeps}
use Rattle.work_share.specs.Seats.{known, Belongs}
use Rattle.work_share.specs.Results.{GivesAll}
use Rattle.work_share.specs.Worked.{items_of, Worked, InOrder}
use Rattle.work_share.specs.Shares.{Finished}
use Rattle.work_share.proofs.Totals.{times-append, times_other}
use Rattle.work_share.proofs.Places.{items_append}

module _ {O : Type 0} (gives : ℕ → O → Type 0) (count : ℕ) where
  pub worked_none : (drawn : List ℕ) → drawn ≡ [] → Worked gives count drawn []
  worked_none drawn e = record { right = λ k d lt. absurd (omega arith); each = λ x lt. ap (times x) (sym e) }

  pub worked_both : (drawn more : List ℕ) (done rest : List (Done O)) → Worked gives count drawn done → Worked gives count more rest → Worked gives count (drawn ++ more) (done ++ rest)
  worked_both drawn more done rest a b = record {
    right = All-append (λ (d : Done O). (d.item < count) × gives d.item d.out) done rest a.right b.right;
    each = λ x lt. ap (times x) (items_append done rest) ∙ omega (arith, times-append x (items_of done) (items_of rest), times-append x drawn more, a.each x lt, b.each x lt);
  }

  pub worked_more : (drawn : List ℕ) (done : List (Done O)) (n : ℕ) (out : O) → Worked gives count drawn done → n < count → gives n out
      → Worked gives count (drawn ++ n ∷ []) (done ++ record { item = n; out = out } ∷ [])
  worked_more drawn done n out old lt right =
      let d : Done O = record { item = n; out = out } in
      worked_both drawn (n ∷ []) done (d ∷ []) old
      (record {
        right = λ (k : ℕ) (e : Done O) at. one d k e (lt, right) at;
        each = λ x lt. refl;
      })
    where
      one : (d : Done O) (k : ℕ) (e : Done O) → (d.item < count) × gives d.item d.out → k < length (d ∷ []) → (λ (y : Done O). (y.item < count) × gives y.item y.out) (slice_index_or (d ∷ []) k e)
      one d k e good at = All-push (λ (y : Done O). (y.item < count) × gives y.item y.out) [] d (λ k d lt. absurd (omega arith)) good k e at

  pub worked_end : (drawn : List ℕ) (done : List (Done O)) (n : ℕ) → Worked gives count drawn done → count ≤ n → Worked gives count (drawn ++ n ∷ []) done
  worked_end drawn done n old le = record {
    right = old.right;
    each = λ x lt. omega (arith, old.each x lt, times-append x drawn (n ∷ []), times_other x n (λ e. omega (arith, e, lt, le)));
  }

-- two seats, split from one and joined again
pub finished_both : {O : Type 0} (gives : ℕ → O → Type 0) (t : Tasks) (share : ℕ) (left right both : TaskSeat) (done rest : List (Done O)) (a b : ℕ)
    → Finished gives t a left done → Finished gives t b right rest → a + b ≡ share → known both ≡ united (known left) (known right) → Belongs t both → Finished gives t share both (done ++ rest)
finished_both gives t share left right both done rest a b f g sum e belongs = record {
  belongs = belongs;
  same = ap (λ (v : TaskView). v.share) e ∙ omega (arith, sum, f.same, g.same);
  ended = ap (λ (v : TaskView). is_some v.kept) e ∙ either_ends (known left).kept (known right).kept f.ended;
  worked = subst (λ (v : TaskView). Worked gives t.count v.drawn (done ++ rest)) (sym e) (worked_both gives t.count (known left).drawn (known right).drawn done rest f.worked g.worked);
}
  where
    either_ends : (o p : Option ℕ) → is_some o ≡ true → is_some (option_or o p) ≡ true
    either_ends None p e = absurd (cc)
    either_ends (Some k) p e = refl

-- a worker whose last claim gave nothing
module _ {O : Type 0} (gives : ℕ → O → Type 0) (t : Tasks) (share : ℕ) (old new : TaskSeat) (done : List (Done O)) where
  pub finished_alone : (known old).share ≡ share → Worked gives t.count (known old).drawn done → Belongs t new → is_some (known new).kept ≡ true → Keeps t.count (known old) (known new)
      → Finished gives t share new done
  finished_alone same worked belongs ended keeps = ⊎_elim
      (λ (had : ((known old).kept ≡ Some keeps.0) × (known new ≡ known old)). record {
        belongs = belongs;
        same = ap (λ (v : TaskView). v.share) had.1 ∙ same;
        ended = ended;
        worked = subst (λ (v : TaskView). Worked gives t.count v.drawn done) (sym had.1) worked;
      })
      (λ (now : ((known old).kept ≡ None) × (above (known old).drawn ≤ keeps.0) × (known new ≡ stopped (known old) keeps.0)). record {
        belongs = belongs;
        same = ap (λ (v : TaskView). v.share) now.2 ∙ same;
        ended = ended;
        worked = subst (λ (v : TaskView). Worked gives t.count v.drawn done) (sym now.2) (worked_end gives t.count (known old).drawn done keeps.0 worked keeps.1);
      })
      keeps.2

-- all workers are back in a seat with all shares: each item below the count has its result
module _ {O : Type 0} (gives : ℕ → O → Type 0) (t : Tasks) (s : TaskSeat) (done : List (Done O)) (end : Finished gives t 64 s done) (fair : IsFair (known s)) where
  pub all_inside : All (λ (d : Done O). d.item < t.count) done
  all_inside k d lt = (end.worked.right k d lt).0

  pub each_has_one : (x : ℕ) → x < t.count → 1 ≤ times x (items_of done)
  each_has_one x lt =
      let once : times x (known s).drawn ≡ 1 = fair.all end.same end.ended x (subst (λ n. x < n) (sym end.belongs.1) lt) in
      omega (arith, once, end.worked.each x lt)

  pub gives_all : (outs : List O) → InOrder t.count done outs → GivesAll gives t.count outs
  gives_all outs order = (
    order.wide,
    λ k o at.
        let there = order.own k o at in
        let found : Done O = slice_index_or done there.0 (record { item = k; out = o }) in
        let right : (found.item < t.count) × gives found.item found.out = end.worked.right there.0 (record { item = k; out = o }) there.1 in
        (subst (λ (d : Done O). gives d.item d.out) there.2 right.1),
  )

pub if_ok : {T E : Type 0} (P Q : T → Type 0) (r : Result T E) → ((x : T) → P x → Q x) → IfOk r P → IfOk r Q
if_ok P Q (Ok x) f p = f x p
if_ok P Q (Err e) f p = p
