use Rattle.std.proofs.Common.{◌≡◌, ◌++◌}
use Rattle.indexmap.specs.IndexMap.{values}
use Rattle.link_program.proofs.files.contents_of.Given as goal

-- the files so far before those that are left
abbrev pub invariant-loop-bytes : goal.invariant-loop-bytes
invariant-loop-bytes l = l.contents ++ l.bytes-iterator ≡ values l.fn.held
