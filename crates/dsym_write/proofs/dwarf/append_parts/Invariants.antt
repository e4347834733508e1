use Rattle.std.proofs.Common.{◌≡◌, ◌+◌, ◌++◌, drop, map}
use Rattle.dsym_write.specs.Pieces.{records_from, total, with_size}
use Rattle.dsym_write.proofs.dwarf.append_parts.Given as goal

abbrev pub invariant-loop-section : goal.invariant-loop-section
invariant-loop-section l = record {
  put : l.out ++ records_from l.addr l.offset (map (with_size l.layout) (drop l.section-index l.sections)) ≡ l.fn.out ++ records_from l.fn.addr l.fn.offset (map (with_size l.layout) l.sections);
  above : l.addr + total (map (with_size l.layout) (drop l.section-index l.sections)) ≡ l.fn.addr + total (map (with_size l.layout) l.sections);
  small : l.offset + total (map (with_size l.layout) (drop l.section-index l.sections)) ≡ l.fn.offset + total (map (with_size l.layout) l.sections);
}
