use Rattle.std.proofs.Common.{ℕ, ◌+◌, ap, ◌∙◌, arith}
use Rattle.std.proofs.lemmas.List.{length-append}
use Rattle.ds_base.proofs.Items.{items_more}
use Rattle.ds_base.specs.Reading.{number_at}
use Rattle.line_read.proofs.header.read_lengths.Goals as goal

pub loop-preserved : goal.loop-preserved
loop-preserved c =
    record {
      so_far = rw c.in_ok-push.ensures.ok (items_more (number_at 1) c.args.count c.loop.counter c.loop.lengths c.loop.cursor _ _ _ (omega arith) c.in_ok-u8.ensures c.loop.invariant.so_far);
      read = rw c.in_ok-push.ensures.ok (length-append c.loop.lengths _ ∙ ap (λ (n : ℕ). n + 1) c.loop.invariant.read);
    }
