use Rattle.std.specs.Prelude.{is_ok}
use Rattle.batch_cache.proofs.Apart.{apart_pushed}
use Rattle.batch_cache.proofs.shelf.put.Goals as goal

pub returns-then-len-most-clause-apart : goal.returns-then-len-most-clause-apart
returns-then-len-most-clause-apart c = apart_pushed (is_ok c.push-put.result) c.args.all.now.items c.push-put.new.self.items c.args.kept c.push-put.ensures.items c.requires.other c.requires.apart
