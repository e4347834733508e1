use Rattle.std.proofs.Common.{◌≡◌, map, take}
use Rattle.universal.specs.Choice.{slice_for}
use Rattle.object_reads.specs.Opening.{opened_as}
use Rattle.object_reads.proofs.opening.open_files.Given as goal

-- the files so far are opened
abbrev pub invariant-loop-file : goal.invariant-loop-file
invariant-loop-file l = map opened_as l.opened ≡ map (slice_for l.arch) (take l.file-index l.files)
