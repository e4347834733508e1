use Rattle.std.proofs.Common.{◌≡◌, ◌≤◌, ◌+◌, ◌*◌, ◌^◌, ◌++◌, drop, length}
use Rattle.std.specs.List.{flat_map}
use Rattle.macho_read.specs.Spelling.{section_bytes}
use Rattle.sample_objects.specs.ObjectFile.{debug_sections}
use Rattle.sample_objects.proofs.commands.append_debug_sections.Given as goal

abbrev pub invariant-loop-part : goal.invariant-loop-part
invariant-loop-part l = record {
  put : l.out ++ flat_map section_bytes (debug_sections l.places l.offset (drop l.part-index l.sized)) ≡ l.fn.out ++ flat_map section_bytes (debug_sections l.places l.places.offset l.sized);
  room : l.offset ≤ (l.part-index + 1) * 2 ^ 64;
  within : l.part-index ≤ length l.sized;
}
