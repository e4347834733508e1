use Rattle.std.proofs.Common.{◌≡◌, ◌++◌, drop}
use Rattle.std.specs.Vec.Iter.{into_iter_items}
use Rattle.dsymlink.proofs.words_of.Given as goal

-- the words so far before those that are left
abbrev pub invariant-loop-word : goal.invariant-loop-word
invariant-loop-word l = l.words.items ++ into_iter_items l.word-iterator ≡ drop 1 (into_iter_items l.fn.args)
