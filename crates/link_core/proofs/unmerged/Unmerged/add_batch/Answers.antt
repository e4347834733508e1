use Rattle.std.proofs.Common.{◌≡◌, ◌+◌, ◌<◌, ℕ, ◌∷◌, [], Result, Ok, Err, length, ap, sym, subst, ◌∙◌, arith, rules, length-append}
use Rattle.std.proofs.lemmas.Result.{err_from_is_err_and}
use Rattle.object_reads.specs.declared.objects.ReadObject.{ReadObject}
use Rattle.link_status.specs.declared.refusal.Refusal.{Refusal}
use Rattle.object_reads.specs.Reading.{ReadsAt}
use Rattle.link_core.specs.Unmerged.{MayAddBatch, SoFar}
use Rattle.work_share.proofs.Turns.{all_taken, given_here, goes_on, inside_here}
use Rattle.link_core.proofs.Unmerging.{added_one, may_add, stops}
use Rattle.link_core.proofs.unmerged.Unmerged.add_batch.Goals as goal

pub loop-out-init : goal.loop-out-init
loop-out-init c = (search rules, λ target start first count sources may. subst (λ (n : ℕ). SoFar target start sources n c.args.self.now) (omega arith) may.so_far)

pub add-requires : goal.add-requires
add-requires c =
    let left = c.loop-out.out-iterator.rest.items in
    let all = c.into_iter-out-iterator.result.rest.items in
    let rest = c.next.new.self.rest.items in
    let yielded = c.loop-out.yielded in
    let out : Result ReadObject Refusal = Ok c.in_ok-object.object in
    let next : left ≡ out ∷ rest = c.in-Some.ensures.steps.0 ∙ ap (λ o. o ∷ rest) c.in_ok-object.was in
    let same : all ≡ c.args.outs.items = c.into_iter-out-iterator.ensures.into_iter_gives.0 in
    let target = c.requires.0 in
    let start = c.requires.1 in
    let first = c.requires.2 in
    let count = c.requires.3 in
    let sources = c.requires.4 in
    let may : MayAddBatch target start sources first count c.args.self.now all = subst (MayAddBatch target start sources first count c.args.self.now) (sym same) c.requires.5 in
    let gives : ℕ → Result ReadObject Refusal → Type 0 = λ k o. ReadsAt target sources (first + k) o in
    let here = given_here gives count all yielded left rest out c.loop-out.invariant.0 next may.given in
    let lt = inside_here gives count all yielded left rest out c.loop-out.invariant.0 next may.given in
    let so_far = c.loop-out.invariant.1 target start first count sources may in
    (so_far.seen, so_far.marks, may_add target start sources (first + length yielded) c.loop-out.self so_far (omega (arith, lt, may.within)) may.few c.in_ok-object.object here)

pub returns-in_err-object : goal.returns-in_err-object
returns-in_err-object c =
    let left = c.loop-out.out-iterator.rest.items in
    let all = c.into_iter-out-iterator.result.rest.items in
    let rest = c.next.new.self.rest.items in
    let yielded = c.loop-out.yielded in
    let out : Result ReadObject Refusal = Err c.in_err-object.field-0.0 in
    let next : left ≡ out ∷ rest = c.in-Some.ensures.steps.0 ∙ ap (λ o. o ∷ rest) c.in_err-object.was in
    let same : all ≡ c.args.outs.items = c.into_iter-out-iterator.ensures.into_iter_gives.0 in
    let p = err_from_is_err_and c.from_residual.result c.from_residual.ensures.1 in
    λ target start first count sources given.
    let may : MayAddBatch target start sources first count c.args.self.now all = subst (MayAddBatch target start sources first count c.args.self.now) (sym same) given in
    let gives : ℕ → Result ReadObject Refusal → Type 0 = λ k o. ReadsAt target sources (first + k) o in
    let here = given_here gives count all yielded left rest out c.loop-out.invariant.0 next may.given in
    let lt = inside_here gives count all yielded left rest out c.loop-out.invariant.0 next may.given in
    rw (p.1, p.2) (stops target start sources (first + length yielded) c.loop-out.self (c.loop-out.invariant.1 target start first count sources may) (omega (arith, lt, may.within)) c.in_err-object.field-0.0 here)

pub loop-out-preserved : goal.loop-out-preserved
loop-out-preserved c =
    let left = c.loop-out.out-iterator.rest.items in
    let all = c.into_iter-out-iterator.result.rest.items in
    let rest = c.next.new.self.rest.items in
    let yielded = c.loop-out.yielded in
    let out : Result ReadObject Refusal = Ok c.in_ok-object.object in
    let next : left ≡ out ∷ rest = c.in-Some.ensures.steps.0 ∙ ap (λ o. o ∷ rest) c.in_ok-object.was in (
      goes_on all yielded left rest c.in-Some.out c.loop-out.invariant.0 c.in-Some.ensures.steps.0,
      λ target start first count sources may.
          let gives : ℕ → Result ReadObject Refusal → Type 0 = λ k o. ReadsAt target sources (first + k) o in
          let here = given_here gives count all yielded left rest out c.loop-out.invariant.0 next may.given in
          let lt = inside_here gives count all yielded left rest out c.loop-out.invariant.0 next may.given in
          let so_far = c.loop-out.invariant.1 target start first count sources may in
          let in_batch : first + length yielded < length sources = omega (arith, lt, may.within) in
          let one = added_one target start sources (first + length yielded) c.loop-out.self so_far in_batch may.few c.in_ok-object.object here c.add.new.self
          (c.in_ok-add.ensures so_far.seen so_far.marks (may_add target start sources (first + length yielded) c.loop-out.self so_far in_batch may.few c.in_ok-object.object here)) in
          subst (λ (n : ℕ). SoFar target start sources n c.add.new.self) (omega (arith, length-append yielded (c.in-Some.out ∷ []))) one,
    )

pub returns : goal.returns
returns c =
    let all = c.into_iter-out-iterator.result.rest.items in
    let same : all ≡ c.args.outs.items = c.into_iter-out-iterator.ensures.into_iter_gives.0 in
    let none : length c.loop-out.out-iterator.rest.items ≡ 0 = search rules in
    λ target start first count sources given.
    let may : MayAddBatch target start sources first count c.args.self.now all = subst (MayAddBatch target start sources first count c.args.self.now) (sym same) given in
    let taken = all_taken (λ k o. ReadsAt target sources (first + k) o) count all c.loop-out.yielded c.loop-out.out-iterator.rest.items c.loop-out.invariant.0 none may.given in
    subst (λ (n : ℕ). SoFar target start sources n c.loop-out.self) (omega (arith, taken)) (c.loop-out.invariant.1 target start first count sources may)
