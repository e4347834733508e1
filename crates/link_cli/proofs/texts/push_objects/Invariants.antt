use Rattle.std.proofs.Common.{◌≡◌, ◌+◌, ◌++◌, drop}
use Rattle.link_cli.specs.Texts.{objects_text}
use Rattle.link_cli.proofs.texts.push_objects.Given as goal

-- the texts so far before those of the objects that are left
abbrev pub invariant-loop-k : goal.invariant-loop-k
invariant-loop-k l = l.text ++ objects_text (l.k + 1) (drop l.k l.objects) ≡ l.fn.text ++ objects_text 1 l.objects
