use Rattle.std.proofs.Common.{ℕ, ◌≡◌, ◌+◌, ◌∙◌, Ok, Err, drop, get_or, sym, ap, arith}
use Rattle.std.proofs.lemmas.Bool.{eq-eqb, ne_eqb}
use Rattle.std.proofs.lemmas.List.{drop_all, drop_more}
use Rattle.std.proofs.lemmas.Result.{err_from_is_err_and}
use Rattle.accel_tables.specs.Found.{number_in, offset_place}
use Rattle.accel_tables.specs.Hash.{hash_of}
use Rattle.accel_tables.proofs.Walking.{lists_end, lists_more, lists_other, offset_fault}
use Rattle.accel_tables.proofs.WalkingOn.{list_refused}
use Rattle.accel_tables.proofs.finding.read_lists.Goals as goal

pub loop-hash-preserved-then-hash-wanted : goal.loop-hash-preserved-then-hash-wanted
loop-hash-preserved-then-hash-wanted c =
    let s = c.args.search.now in
    let i : ℕ = c.loop-hash.hash-index in
    let hash : ℕ = get_or c.args.hashes.now i 0 in
    record {
      place = omega (arith, c.loop-hash.invariant.place);
      all = sym (lists_other s.table.now s.strings.now s.name.now c.args.counts _ (drop (i + 1) c.args.hashes.now) c.loop-hash.entries c.loop-hash.i hash (drop_more c.args.hashes.now i 0 c.loop-hash-test.true)
          (ne_eqb hash (hash_of s.name.now) (λ e. c.if-hash-wanted.true (e ∙ sym c.name_hash-wanted.ensures))))
          ∙ c.loop-hash.invariant.all;
    }

pub returns-in_err-place : goal.returns-in_err-place
returns-in_err-place c =
    let s = c.args.search.now in
    let i : ℕ = c.loop-hash.hash-index in
    let hash : ℕ = get_or c.args.hashes.now i 0 in
    let p = err_from_is_err_and c.from_residual.result c.from_residual.ensures.1 in
    let read : number_in 4 s.table.now (offset_place c.args.counts c.loop-hash.i) ≡ Err c.in_err-place.field-0.0 = ap (λ (place : ℕ). number_in 4 s.table.now place) (sym c.offset_place.ensures) ∙ c.in_err-place.ensures.read in
    rw (p.1, p.2) (sym c.loop-hash.invariant.all ∙ offset_fault s.table.now s.strings.now s.name.now c.args.counts _ (drop (i + 1) c.args.hashes.now) c.loop-hash.entries c.loop-hash.i hash c.in_err-place.field-0.0
    (drop_more c.args.hashes.now i 0 c.loop-hash-test.true) (eq-eqb hash (hash_of s.name.now) (c.if-hash-wanted.false ∙ c.name_hash-wanted.ensures)) read)

pub returns-in_err-read_list : goal.returns-in_err-read_list
returns-in_err-read_list c =
    let s = c.args.search.now in
    let i : ℕ = c.loop-hash.hash-index in
    let hash : ℕ = get_or c.args.hashes.now i 0 in
    let p = err_from_is_err_and c.from_residual-in_err-read_list.result c.from_residual-in_err-read_list.ensures.1 in
    let read : number_in 4 s.table.now (offset_place c.args.counts c.loop-hash.i) ≡ Ok c.from.result = ap (λ (place : ℕ). number_in 4 s.table.now place) (sym c.offset_place.ensures) ∙ c.in_ok-place.ensures.read ∙ ap (λ (n : ℕ). Ok n) (sym c.from.ensures) in
    rw p.1 (list_refused s.table.now s.strings.now s.name.now c.args.counts _ (drop (i + 1) c.args.hashes.now) _ c.loop-hash.entries _ c.loop-hash.i hash c.from.result c.in_err-read_list.field-0.0 _ p.2
    (drop_more c.args.hashes.now i 0 c.loop-hash-test.true) (eq-eqb hash (hash_of s.name.now) (c.if-hash-wanted.false ∙ c.name_hash-wanted.ensures)) read c.loop-hash.invariant.all c.in_err-read_list.ensures)

pub loop-hash-preserved : goal.loop-hash-preserved
loop-hash-preserved c =
    let s = c.args.search.now in
    let i : ℕ = c.loop-hash.hash-index in
    let hash : ℕ = get_or c.args.hashes.now i 0 in
    let read : number_in 4 s.table.now (offset_place c.args.counts c.loop-hash.i) ≡ Ok c.from.result = ap (λ (place : ℕ). number_in 4 s.table.now place) (sym c.offset_place.ensures) ∙ c.in_ok-place.ensures.read ∙ ap (λ (n : ℕ). Ok n) (sym c.from.ensures) in
    record {
      place = omega (arith, c.loop-hash.invariant.place);
      all = sym (lists_more s.table.now s.strings.now s.name.now c.args.counts _ (drop (i + 1) c.args.hashes.now) c.loop-hash.entries c.read_list.new.entries c.loop-hash.i hash c.from.result (drop_more c.args.hashes.now i 0 c.loop-hash-test.true)
          (eq-eqb hash (hash_of s.name.now) (c.if-hash-wanted.false ∙ c.name_hash-wanted.ensures)) read c.in_ok-read_list.ensures)
          ∙ c.loop-hash.invariant.all;
    }

pub returns : goal.returns
returns c =
    let s = c.args.search.now in
    sym c.loop-hash.invariant.all ∙ lists_end s.table.now s.strings.now s.name.now c.args.counts _ c.loop-hash.entries c.loop-hash.i (drop_all c.loop-hash.hash-index c.args.hashes.now (omega (arith, c.loop-hash-test.false)))
