use Rattle.batch_cache.proofs.Apart.{end_shorter}
use Rattle.batch_cache.proofs.shelf.make_room.Goals as goal

pub loop-all-preserved : goal.loop-all-preserved
loop-all-preserved c = end_shorter c.args.all.now.items c.loop-all.all.items c.loop-all.invariant c.remove.new.self.items c.remove.ensures.items
