use Rattle.std.proofs.Common.{◌≡◌, true, false, nat_eq, sym, ◌∙◌}
use lib.Pointwise.{pointwise}
use Rattle.ds_files.proofs.Finding.{find_from}
use Rattle.ds_files.proofs.memory_files.find_file.Goals as goal

pub returns-then-eq : goal.returns-then-eq
returns-then-eq c =
    let same : pointwise nat_eq c.args.name.now c.loop-key-item.result.0 ≡ true = cc in
    let found = find_from c.args.name.now c.args.stored.now c.loop-key.key-index c.loop-key-item.result true c.loop-key-test.true c.loop-key-item.is same in
    cc

pub loop-key-preserved : goal.loop-key-preserved
loop-key-preserved c =
    let other : pointwise nat_eq c.args.name.now c.loop-key-item.result.0 ≡ false = cc in
    sym (find_from c.args.name.now c.args.stored.now c.loop-key.key-index c.loop-key-item.result false c.loop-key-test.true c.loop-key-item.is other) ∙ c.loop-key.invariant
