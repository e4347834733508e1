use Rattle.std.proofs.Common.{◌≡◌, option_map, drop}
use Rattle.std.specs.List.{find}
use Rattle.batch_list.specs.Answers as spec
use Rattle.batch_list.proofs.answer.first_refused.Given as goal

-- none of those so far is refused
abbrev pub invariant-loop-it : goal.invariant-loop-it
invariant-loop-it l = find spec.is_refused (drop l.it-index l.told) ≡ find spec.is_refused l.told
