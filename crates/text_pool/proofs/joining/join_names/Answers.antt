use Rattle.std.proofs.Common.{◌≡◌, ◌∙◌, ◌+◌, ◌++◌, [], ◌∷◌, Err, List, ℕ, ap, arith, drop, fold, subst}
use Rattle.std.proofs.lemmas.Result.{err_from_is_err_and}
use Rattle.ds_base.specs.Texts.{with_text}
use Rattle.text_pool.specs.declared.error.TextError.TheVariants as errors
use Rattle.text_pool.specs.Joins.{IsJoining, place_in}
use Rattle.text_pool.proofs.Turns.{left, map_done, map_more}
use Rattle.text_pool.proofs.joining.join_names.Goals as goal

pub join_text-requires : goal.join_text-requires
join_text-requires c =
    let all = c.requires.0 in
    let rest = c.requires.1 in (
      all,
      drop (c.loop-i.i + 1) c.args.names.now ++ rest,
      subst (λ (ts : List (List ℕ)). IsJoining all (ts ++ rest) c.loop-i.shards c.loop-i.section) (left c.args.names.now c.loop-i.i c.name_at.result.now c.name_at.ensures)
          (c.loop-i.invariant all rest c.requires.2).0,
    )

pub returns-in_err-place-clause-long : goal.returns-in_err-place-clause-long
returns-in_err-place-clause-long c = λ all rest joining failed.
    let p = err_from_is_err_and c.from_residual-in_err-place.result c.from_residual-in_err-place.ensures.1 in
    let told = rw (p.1, p.2) at failed in
    let same : c.in_err-place.field-0.0 ≡ errors.Long = cc in
    c.in_err-place.ensures.long all (drop (c.loop-i.i + 1) c.args.names.now ++ rest)
    (subst (λ (ts : List (List ℕ)). IsJoining all (ts ++ rest) c.loop-i.shards c.loop-i.section) (left c.args.names.now c.loop-i.i c.name_at.result.now c.name_at.ensures) (c.loop-i.invariant all rest joining).0)
    (ap (λ e. Err e) same)

pub loop-i-preserved : goal.loop-i-preserved
loop-i-preserved c = λ all rest joining.
    let cut = left c.args.names.now c.loop-i.i c.name_at.result.now c.name_at.ensures in
    let more = drop (c.loop-i.i + 1) c.args.names.now ++ rest in
    let so_far = subst (λ (ts : List (List ℕ)). IsJoining all (ts ++ rest) c.loop-i.shards c.loop-i.section) cut (c.loop-i.invariant all rest joining).0 in (
      c.in_ok-place.ensures.joining all more so_far,
      map_more (place_in (fold with_text [] all)) c.args.names.now c.loop-i.i c.name_at.result.now c.loop-i.places c.push.new.self _ cut
          (c.in_ok-push.ensures.ok ∙ ap (λ (n : ℕ). c.loop-i.places ++ n ∷ []) (c.in_ok-place.ensures.place all more so_far)) (c.loop-i.invariant all rest joining).1,
    )

pub returns-clause-places : goal.returns-clause-places
returns-clause-places c = λ all rest joining.
    map_done (place_in (fold with_text [] all)) c.args.names.now c.loop-i.i c.loop-i.places _ (omega (arith, c.loop-i-test.false, c.len-i-end.ensures)) (c.loop-i.invariant all rest joining).1
