use Rattle.std.proofs.Common.{◌≡◌, ◌++◌, drop, map}
use Rattle.link_program.specs.Seen.{number_in}
use Rattle.link_program.proofs.files.numbers_of.Given as goal

-- the numbers so far before those of the objects that are left
abbrev pub invariant-loop-object : goal.invariant-loop-object
invariant-loop-object l = l.numbers ++ map (λ o. number_in l.held o.file) (drop l.object-index l.objects) ≡ map (λ o. number_in l.held o.file) l.objects
