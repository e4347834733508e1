use Rattle.std.proofs.Common.{◌+◌, Result, drop}
use Rattle.link_program.specs.declared.files.Stopped.{Stopped}
use Rattle.link_program.specs.Files.{World, world, Held, none_held, ReadsFiles}
use Rattle.link_program.specs.Holding.{held_of}
use Rattle.link_program.proofs.files.read_files.Given as goal

-- what comes of the objects that are left comes of all
abbrev pub invariant-loop-k : goal.invariant-loop-k
invariant-loop-k g l =
    (after : World) (answer : Result Held Stopped)
    → ReadsFiles l.keep_going (l.k + 1) (drop l.k l.objects) (held_of l.held) (world (g.F.Files.files l.files) (g.F.Files.counts l.files)) after answer
    → ReadsFiles l.keep_going 1 l.objects (none_held l.most) (world (g.F.Files.files l.fn.files) (g.F.Files.counts l.fn.files)) after answer
