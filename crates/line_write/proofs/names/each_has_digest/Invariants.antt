use Rattle.std.proofs.Common.{◌≡◌, drop, is_some}
use Rattle.std.specs.List.{list_all}
use Rattle.line_write.proofs.names.each_has_digest.Given as goal

abbrev pub invariant-loop-i : goal.invariant-loop-i
invariant-loop-i l = list_all (λ file. is_some file.digest) (drop l.i l.files) ≡ list_all (λ file. is_some file.digest) l.files
