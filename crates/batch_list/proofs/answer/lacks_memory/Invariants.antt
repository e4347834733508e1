use Rattle.std.proofs.Common.{◌≡◌, drop}
use Rattle.std.specs.List.{list_any}
use Rattle.batch_list.specs.Answers as spec
use Rattle.batch_list.proofs.answer.lacks_memory.Given as goal

-- for none of those so far memory ran out
abbrev pub invariant-loop-it : goal.invariant-loop-it
invariant-loop-it l = list_any spec.lacked_memory (drop l.it-index l.told) ≡ list_any spec.lacked_memory l.told
