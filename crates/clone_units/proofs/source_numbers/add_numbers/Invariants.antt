use Rattle.std.proofs.Common.{◌≡◌, ◌++◌, drop, map}
use Rattle.clone_units.specs.Sourced.{files_seen}
use Rattle.link_graph.specs.PoolFiles.{listed_file, number_of}
use Rattle.clone_units.proofs.source_numbers.add_numbers.Given as goal

-- the numbers so far and those that are left
abbrev pub invariant-loop-i : goal.invariant-loop-i
invariant-loop-i l =
    l.numbers ++ map (λ file. number_of (files_seen l.files) (listed_file l.seen l.unit l.lines file)) (drop l.i l.lines.files)
    ≡ l.fn.numbers ++ map (λ file. number_of (files_seen l.files) (listed_file l.seen l.unit l.lines file)) l.lines.files
