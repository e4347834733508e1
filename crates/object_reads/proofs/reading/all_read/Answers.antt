use Rattle.std.proofs.Common.{◌≡◌, ◌<◌, ◌≤◌, ◌+◌, ◌-◌, ℕ, ◌++◌, ◌∷◌, [], Result, Ok, Err, length, ap, sym, subst, ◌∙◌, arith, rules, length-append}
use Rattle.std.proofs.lemmas.Result.{err_from_is_err_and}
use Rattle.work_share.specs.Results.{GivesAll}
use Rattle.object_reads.specs.declared.objects.ReadObject.{ReadObject}
use Rattle.object_reads.specs.declared.target.Target.{Target}
use Rattle.object_reads.specs.Sources.{Source}
use Rattle.link_status.specs.declared.refusal.Refusal.{Refusal}
use Rattle.object_reads.specs.MadeNames.{HasNames, NamesAt}
use Rattle.object_reads.specs.Reading.{Going, ReadsAt}
use Rattle.object_reads.proofs.MadeNames.{names_more, names_none}
use Rattle.object_reads.proofs.ObjectsRead.{going_all, going_more, going_none_at, going_stops}
use Rattle.work_share.proofs.Turns.{all_taken, given_here, goes_on, inside_here}
use Rattle.object_reads.proofs.reading.all_read.Goals as goal

pub loop-out-init : goal.loop-out-init
loop-out-init c = (
  search rules,
  λ target first sources le given. rw (c.in_ok-seen.ensures, c.in_ok-marks.ensures) (going_none_at target first sources),
  ap length c.in_ok-seen.ensures,
  ap length c.in_ok-marks.ensures,
  λ named count given. rw (c.in_ok-seen.ensures, c.in_ok-marks.ensures, c.new-made.ensures) (names_none named),
)

pub returns-in_err-object-clause-read : goal.returns-in_err-object-clause-read
returns-in_err-object-clause-read c =
    let left = c.loop-out.out-iterator.rest.items in
    let all = c.into_iter-out-iterator.result.rest.items in
    let out : Result ReadObject Refusal = Err c.in_err-object.field-0.0 in
    let next : left ≡ out ∷ c.next.new.self.rest.items = c.in-Some.ensures.steps.0 ∙ ap (λ o. o ∷ c.next.new.self.rest.items) c.in_err-object.was in
    let same : all ≡ c.args.outs.items = c.into_iter-out-iterator.ensures.into_iter_gives.0 in
    let p = err_from_is_err_and c.from_residual-in_err-object.result c.from_residual-in_err-object.ensures.1 in
    λ target first sources le given.
    let reads : ℕ → Result ReadObject Refusal → Type 0 = λ k out. ReadsAt target sources (first + k) out in
    let count = length sources - first in
    let given' : GivesAll reads count all = subst (GivesAll reads count) (sym same) given in
    let here = given_here reads count all c.loop-out.yielded left c.next.new.self.rest.items out c.loop-out.invariant.0 next given' in
    let lt = inside_here reads count all c.loop-out.yielded left c.next.new.self.rest.items out c.loop-out.invariant.0 next given' in
    rw (p.1, p.2) (going_stops target first sources (first + length c.loop-out.yielded) c.loop-out.seen c.loop-out.marks (c.loop-out.invariant.1 target first sources le given') (omega (arith, lt)) c.in_err-object.field-0.0 here)

pub loop-out-preserved : goal.loop-out-preserved
loop-out-preserved c =
    let left = c.loop-out.out-iterator.rest.items in
    let all = c.into_iter-out-iterator.result.rest.items in
    let rest = c.next.new.self.rest.items in
    let yielded = c.loop-out.yielded in
    let out : Result ReadObject Refusal = Ok c.in_ok-object.object in
    let next : left ≡ out ∷ rest = c.in-Some.ensures.steps.0 ∙ ap (λ o. o ∷ rest) c.in_ok-object.was in (
      goes_on c.into_iter-out-iterator.result.rest.items c.loop-out.yielded c.loop-out.out-iterator.rest.items c.next.new.self.rest.items c.in-Some.out c.loop-out.invariant.0 c.in-Some.ensures.steps.0,
      λ target first sources le given.
          let reads : ℕ → Result ReadObject Refusal → Type 0 = λ k out. ReadsAt target sources (first + k) out in
          let count = length sources - first in
          let here = given_here reads count all yielded left rest out c.loop-out.invariant.0 next given in
          let lt = inside_here reads count all yielded left rest out c.loop-out.invariant.0 next given in
          let next_place : first + length yielded + 1 ≡ first + length (yielded ++ c.in-Some.out ∷ []) = omega (arith, length-append yielded (c.in-Some.out ∷ [])) in
          subst (λ (n : ℕ). Going target first sources n c.push.new.self c.push-in-loop-out.new.self) next_place
          (going_more target first sources (first + length yielded) c.loop-out.seen c.loop-out.marks (c.loop-out.invariant.1 target first sources le given) (omega (arith, lt)) c.in_ok-object.object c.push.new.self c.push-in-loop-out.new.self here c.in_ok-push.ensures.ok c.in_ok-push-2.ensures.ok),
      omega (arith, ap length c.in_ok-push.ensures.ok, c.loop-out.invariant.2, length-append c.loop-out.seen (c.in_ok-object.object.analysis ∷ []), length-append yielded (c.in-Some.out ∷ [])),
      omega (arith, ap length c.in_ok-push-2.ensures.ok, c.loop-out.invariant.3, length-append c.loop-out.marks (c.in_ok-object.object.live ∷ []), length-append yielded (c.in-Some.out ∷ [])),
      λ named count given.
          let object = c.in_ok-object.object in
          let here = given_here (NamesAt named) count all yielded left rest out c.loop-out.invariant.0 next given in
          let numbered = subst (λ (n : ℕ). HasNames named (n + 1) object.analysis object.live object.made) (sym c.loop-out.invariant.2) here in
          rw (c.in_ok-push.ensures.ok, c.in_ok-push-2.ensures.ok, c.in_ok-put_made.ensures)
          (names_more named c.loop-out.seen c.loop-out.marks c.loop-out.made object.analysis object.live object.made (c.loop-out.invariant.3 ∙ sym c.loop-out.invariant.2) (c.loop-out.invariant.4 named count given) numbered),
    )

pub returns-clause-read : goal.returns-clause-read
returns-clause-read c =
    let all = c.into_iter-out-iterator.result.rest.items in
    let same : all ≡ c.args.outs.items = c.into_iter-out-iterator.ensures.into_iter_gives.0 in
    let none : length c.loop-out.out-iterator.rest.items ≡ 0 = search rules in
    λ target first sources le given.
    let reads : ℕ → Result ReadObject Refusal → Type 0 = λ k out. ReadsAt target sources (first + k) out in
    let count = length sources - first in
    let given' : GivesAll reads count all = subst (GivesAll reads count) (sym same) given in
    let taken = all_taken reads count all c.loop-out.yielded c.loop-out.out-iterator.rest.items c.loop-out.invariant.0 none given' in
    going_all target first sources (first + length c.loop-out.yielded) c.loop-out.seen c.loop-out.marks (c.loop-out.invariant.1 target first sources le given') (omega (arith, taken, le))

pub returns-clause-names : goal.returns-clause-names
returns-clause-names c =
    let all = c.into_iter-out-iterator.result.rest.items in
    let same : all ≡ c.args.outs.items = c.into_iter-out-iterator.ensures.into_iter_gives.0 in
    λ named count given. c.loop-out.invariant.4 named count (subst (GivesAll (NamesAt named) count) (sym same) given)
