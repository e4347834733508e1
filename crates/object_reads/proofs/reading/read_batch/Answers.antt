use Rattle.std.proofs.Common.{◌≤◌, ◌<◌, ◌-◌, ◌^◌, ℕ, List, length, ap, sym, subst, arith}
use Rattle.std.specs.List.{All}
use Rattle.object_reads.specs.Reading.{AreHeld}
use Rattle.object_reads.proofs.Holding.{held_from, lent_all, read_held}
use Rattle.object_reads.proofs.reading.read_batch.Goals as goal

abbrev AreSmall : List (List ℕ) → Type 0
AreSmall files = All (λ file. length file < 2 ^ 32) files

pub returns-clause-read : goal.returns-clause-read
returns-clause-read g c = λ all holds.
    let sources = c.args.sources.now in
    let batch = c.args.batch in
    let are = subst (AreHeld batch.first sources.numbers.now all) (sym c.as_slice-2.ensures) holds.held in
    rw c.into_vec.ensures
    (read_held all c.as_slice-2.result.now batch.named c.args.target batch.first sources.end sources.objects.now sources.numbers.now are (batch.end - batch.first) c.in_ok-outs.outs c.in_ok-outs.ensures)

pub returns-clause-left : goal.returns-clause-left
returns-clause-left g c = λ all holds.
    let source = c.args.sources.now.numbers.now in
    let first = c.args.batch.first in
    let end = c.args.batch.end in
    let left = c.args.files.now.left in
    let value = c.as_mut_slice.ensures.value in
    let lent = lent_all c.drop_files.new.left left (omega (arith, c.drop_files.auto.left, ap length value)) in
    record {
      held = subst (AreHeld end source all) (sym lent) (c.drop_files.ensures.held all (subst (AreHeld end source all) (sym value) (held_from first end source all left c.requires.order.0 holds.held)));
      long = omega (arith, ap length lent, c.drop_files.auto.left, ap length value, holds.long);
      small = subst AreSmall (sym lent) (c.drop_files.ensures.small (subst AreSmall (sym value) holds.small));
      last = holds.last;
    }
