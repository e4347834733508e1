use Rattle.std.proofs.Common.{◌≡◌, ◌++◌}
use Rattle.link_cli.proofs.FilesMade.{as_given}
use Rattle.link_cli.proofs.making.all_made.Given as goal

-- those that were taken are made, and the others are left
abbrev pub invariant-loop-out : goal.invariant-loop-out
invariant-loop-out l = as_given l.files.items ++ l.out-iterator.rest.items ≡ l.fn.outs
