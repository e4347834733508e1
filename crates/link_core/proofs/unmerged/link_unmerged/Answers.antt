use Rattle.std.proofs.Common.{◌≡◌, ◌<◌, ◌+◌, ◌-◌, ◌^◌, ℕ, List, Option, false, length, refl, sym, subst, ◌∙◌, arith}
use Rattle.std.specs.List.{All}
use Rattle.std.specs.Prelude.{IfSome}
use Rattle.std.proofs.lemmas.Result.{err_from_is_err_and}
use Rattle.object_reads.specs.Sources.{Source, listed}
use Rattle.object_reads.specs.Reading.{HoldsFrom}
use Rattle.object_reads.proofs.Analysing.{listed_long}
use Rattle.object_reads.proofs.ObjectsRead.{going_all}
use Rattle.link_core.specs.declared.bundle.Linked.{Linked}
use Rattle.link_core.specs.Linked.{no_memory, part_of}
use Rattle.link_core.specs.Unmerged.{IsWhole, SoFar}
use Rattle.link_core.proofs.Bundling.{left_all, left_read, own_read, part_made, part_refused}
use Rattle.link_core.proofs.Unmerging.{added_batch, linked_so_far, may_add_batch, none_left, so_far_none, so_far_on}
use Rattle.link_core.proofs.unmerged.link_unmerged.Goals as goal

pub returns-in_err-closed-clause-links : goal.returns-in_err-closed-clause-links
returns-in_err-closed-clause-links g c =
    let p = err_from_is_err_and c.from_residual.result c.from_residual.ensures.1 in
    λ all holds. rw (p.1, p.2) no_memory

pub returns-in_err-closed-clause-left : goal.returns-in_err-closed-clause-left
returns-in_err-closed-clause-left g c =
    let p = err_from_is_err_and c.from_residual.result c.from_residual.ensures.1 in
    λ all holds. rw (p.1, p.2) tt

pub loop-first-init : goal.loop-first-init
loop-first-init g c =
    let it = c.args.sources.now in
    (omega arith, it.order, λ all holds. (holds, so_far_none c.target_of-target.result it.first (listed it all) c.new-linked.result c.new-linked.ensures), none_left c.new-linked.result c.new-linked.ensures)

pub read_next-requires-clause-held : goal.read_next-requires-clause-held
read_next-requires-clause-held g c κs lives =
    let now = (c.loop-first.invariant.2 c.requires.files.0 c.requires.files.1).0 in
    subst (λ (n : ℕ). All (λ (k : Option ℕ). IfSome k (λ m. m < n)) c.args.sources.now.numbers.now) (c.requires.files.1.long ∙ sym now.long) c.requires.held

pub read_next-requires-clause-files : goal.read_next-requires-clause-files
read_next-requires-clause-files g c κs lives = (c.requires.files.0, (c.loop-first.invariant.2 c.requires.files.0 c.requires.files.1).0)

pub returns-in_err-batch-clause-links : goal.returns-in_err-batch-clause-links
returns-in_err-batch-clause-links g c =
    let p = err_from_is_err_and c.from_residual-in_err-batch.result c.from_residual-in_err-batch.ensures.1 in
    λ all holds. rw (p.1, p.2) no_memory

pub returns-in_err-batch-clause-left : goal.returns-in_err-batch-clause-left
returns-in_err-batch-clause-left g c =
    let p = err_from_is_err_and c.from_residual-in_err-batch.result c.from_residual-in_err-batch.ensures.1 in
    λ all holds. rw (p.1, p.2) tt

pub add_batch-requires : goal.add_batch-requires
add_batch-requires g c =
    let it = c.args.sources.now in
    let target = c.target_of-target.result in
    let first = c.loop-first.first in
    let count = c.in_ok-batch.batch.end - first in
    let all = c.requires.files.0 in
    let sources = listed it all in
    let long = listed_long it.objects.now all it.numbers.now it.end it.each it.within in
    let few : length sources < it.first + 2 ^ 16 = omega (arith, it.few, long) in
    let so_far = c.loop-first.invariant.2 all c.requires.files.1 in
    let batch = c.in_ok-batch.ensures all so_far.0 in
    let may = may_add_batch target it.first sources first c.in_ok-batch.batch c.loop-first.linked few batch.0 so_far.1 in
    (target, it.first, first, count, sources, may)

pub returns-in_err-add_batch-clause-links : goal.returns-in_err-add_batch-clause-links
returns-in_err-add_batch-clause-links g c = λ all holds.
    let it = c.args.sources.now in
    let target = c.target_of-target.result in
    let first = c.loop-first.first in
    let count = c.in_ok-batch.batch.end - first in
    let sources = listed it all in
    let long = listed_long it.objects.now all it.numbers.now it.end it.each it.within in
    let few : length sources < it.first + 2 ^ 16 = omega (arith, it.few, long) in
    let so_far = c.loop-first.invariant.2 all holds in
    let batch = c.in_ok-batch.ensures all so_far.0 in
    let may = may_add_batch target it.first sources first c.in_ok-batch.batch c.loop-first.linked few batch.0 so_far.1 in
    let p = err_from_is_err_and c.from_residual-in_err-add_batch.result c.from_residual-in_err-add_batch.ensures.1 in
    let part = part_of c.args.program.now it all in
    let own = own_read part target it.first sources c.target_of-target.ensures refl refl in
    rw (p.1, p.2) (part_refused false part c.args.front target it.first sources own c.in_err-add_batch.field-0.0 (c.in_err-add_batch.ensures target it.first first count sources may))

pub returns-in_err-add_batch-clause-left : goal.returns-in_err-add_batch-clause-left
returns-in_err-add_batch-clause-left g c = λ all holds.
    let it = c.args.sources.now in
    let target = c.target_of-target.result in
    let first = c.loop-first.first in
    let count = c.in_ok-batch.batch.end - first in
    let sources = listed it all in
    let long = listed_long it.objects.now all it.numbers.now it.end it.each it.within in
    let few : length sources < it.first + 2 ^ 16 = omega (arith, it.few, long) in
    let so_far = c.loop-first.invariant.2 all holds in
    let batch = c.in_ok-batch.ensures all so_far.0 in
    let may = may_add_batch target it.first sources first c.in_ok-batch.batch c.loop-first.linked few batch.0 so_far.1 in
    let p = err_from_is_err_and c.from_residual-in_err-add_batch.result c.from_residual-in_err-add_batch.ensures.1 in
    rw (p.1, p.2) (left_read Linked target it.first sources _ c.in_err-add_batch.field-0.0 (c.in_err-add_batch.ensures target it.first first count sources may))

pub draft_others-requires-clause-drawn : goal.draft_others-requires-clause-drawn
draft_others-requires-clause-drawn g c κs lives =
    let it = c.args.sources.now in
    let target = c.target_of-target.result in
    let first = c.loop-first.first in
    let count = c.in_ok-batch.batch.end - first in
    let all = c.requires.files.0 in
    let sources = listed it all in
    let long = listed_long it.objects.now all it.numbers.now it.end it.each it.within in
    let few : length sources < it.first + 2 ^ 16 = omega (arith, it.few, long) in
    let so_far = c.loop-first.invariant.2 all c.requires.files.1 in
    let batch = c.in_ok-batch.ensures all so_far.0 in
    let may = may_add_batch target it.first sources first c.in_ok-batch.batch c.loop-first.linked few batch.0 so_far.1 in
    let so_far' = c.in_ok-add_batch.ensures target it.first first count sources may in
    (so_far'.seen, so_far'.marks, linked_so_far target it.first sources (first + count) c.add_batch.new.self so_far')

pub returns-in_err-draft_others-clause-links : goal.returns-in_err-draft_others-clause-links
returns-in_err-draft_others-clause-links g c =
    let p = err_from_is_err_and c.from_residual-in_err-draft_others.result c.from_residual-in_err-draft_others.ensures.1 in
    λ all holds. rw (p.1, p.2) no_memory

pub returns-in_err-draft_others-clause-left : goal.returns-in_err-draft_others-clause-left
returns-in_err-draft_others-clause-left g c =
    let p = err_from_is_err_and c.from_residual-in_err-draft_others.result c.from_residual-in_err-draft_others.ensures.1 in
    λ all holds. rw (p.1, p.2) tt

pub loop-first-preserved : goal.loop-first-preserved
loop-first-preserved g c =
    let given = c.requires.files in
    let it = c.args.sources.now in
    let target = c.target_of-target.result in
    let first = c.loop-first.first in
    let count = c.in_ok-batch.batch.end - first in
    let next = c.in_ok-batch.batch.end in
    let linked = c.draft_others.new.self in
    let on : (all : List (List ℕ)) → HoldsFrom it.first it.numbers.now all c.args.files.now
    → HoldsFrom next it.numbers.now all c.read_next.new.files × SoFar target it.first (listed it all) next linked × (linked.many ≡ false → length linked.drafts.outs.items ≡ length linked.shape.units) = λ all holds.
    let sources = listed it all in
    let long = listed_long it.objects.now all it.numbers.now it.end it.each it.within in
    let few : length sources < it.first + 2 ^ 16 = omega (arith, it.few, long) in
    let so_far = c.loop-first.invariant.2 all holds in
    let batch = c.in_ok-batch.ensures all so_far.0 in
    let may = may_add_batch target it.first sources first c.in_ok-batch.batch c.loop-first.linked few batch.0 so_far.1 in
    let here = added_batch target it.first sources first c.in_ok-batch.batch c.add_batch.new.self batch.0 (c.in_ok-add_batch.ensures target it.first first count sources may) in
    let whole = c.in_ok-draft_others.ensures here.seen here.marks (linked_so_far target it.first sources c.in_ok-batch.batch.end c.add_batch.new.self here) in
    (batch.1, so_far_on target it.first sources c.in_ok-batch.batch.end c.add_batch.new.self c.draft_others.new.self here whole, whole.all) in
    let long = listed_long it.objects.now given.0 it.numbers.now it.end it.each it.within in
    let read = (c.in_ok-batch.ensures given.0 (c.loop-first.invariant.2 given.0 given.1).0).0 in
    (omega (arith, c.loop-first.invariant.0, read.some), omega (arith, read.within, long), λ all holds. let now = on all holds in (now.0, now.1), (on given.0 given.1).2)

pub file-requires-clause-whole : goal.file-requires-clause-whole
file-requires-clause-whole g c κs lives =
    let it = c.args.sources.now in
    let all = c.requires.files.0 in
    let so_far = (c.loop-first.invariant.2 all c.requires.files.1).1 in
    (so_far.seen, so_far.marks, record { are = linked_so_far c.target_of-target.result it.first (listed it all) c.loop-first.first c.loop-first.linked so_far; all = c.loop-first.invariant.3 })

pub returns-clause-links : goal.returns-clause-links
returns-clause-links g c = λ all holds.
    let it = c.args.sources.now in
    let target = c.target_of-target.result in
    let sources = listed it all in
    let so_far = (c.loop-first.invariant.2 all holds).1 in
    let whole : length sources ≡ c.loop-first.first = omega (arith, c.loop-first.invariant.1, c.loop-first-test.false, listed_long it.objects.now all it.numbers.now it.end it.each it.within) in
    let read = going_all target it.first sources c.loop-first.first so_far.seen so_far.marks so_far.going whole in
    let is_whole : IsWhole so_far.seen so_far.marks c.loop-first.linked = record { are = linked_so_far target it.first sources c.loop-first.first c.loop-first.linked so_far; all = c.loop-first.invariant.3 } in
    part_made false (part_of c.args.program.now it all) c.args.front so_far.seen so_far.marks c.file.result (own_read (part_of c.args.program.now it all) target it.first sources c.target_of-target.ensures refl refl ∙ read.exact) read.live (c.file.ensures so_far.seen so_far.marks is_whole)

pub returns-clause-left : goal.returns-clause-left
returns-clause-left g c = λ all holds.
    let it = c.args.sources.now in
    let end : c.loop-first.first ≡ it.end = omega (arith, c.loop-first.invariant.1, c.loop-first-test.false) in
    left_all _ c.file.result (subst (λ (n : ℕ). HoldsFrom n it.numbers.now all c.loop-first.files) end (c.loop-first.invariant.2 all holds).0)
