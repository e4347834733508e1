use Rattle.ds_base.proofs.Walking.{drop_one}
use Rattle.link_program.specs.Holding.{held_of}
use Rattle.link_program.proofs.Holding.{ends_held, stops_here}
use Rattle.link_program.proofs.files.read_files.Goals as goal

pub returns-in-Err : goal.returns-in-Err
returns-in-Err g c =
    c.loop-k.invariant _ _ (stops_here _ _ c.loop-k.k c.args.objects.now c.index-objects-k.result (held_of c.loop-k.held) _ _ _
    (drop_one c.args.objects.now c.loop-k.k c.index-objects-k.result c.loop-k-test.true c.index-objects-k.is) c.in-Err.ensures)

pub returns : goal.returns
returns g c = c.loop-k.invariant _ _ (ends_held _ _ c.loop-k.k c.args.objects.now _ _ c.loop-k-test.false)
