use Rattle.std.proofs.Common.{◌≡◌, ◌++◌, take}
use Rattle.sample_objects.specs.ObjectFile.{relocs_bytes}
use Rattle.sample_objects.proofs.relocation.append_relocs.Given as goal

abbrev pub invariant-loop-reloc : goal.invariant-loop-reloc
invariant-loop-reloc l = l.out ≡ l.fn.out ++ relocs_bytes (take l.reloc-index l.relocs)
