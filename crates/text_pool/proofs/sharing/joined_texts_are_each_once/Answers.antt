use Rattle.std.proofs.Common.{[]}
use Rattle.text_pool.proofs.FirstUses.{once-append}
use Rattle.text_pool.proofs.sharing.joined_texts_are_each_once.Goals as goal

pub returns : goal.returns
returns c = once-append []
