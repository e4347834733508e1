-- How long records are whose names have at most 16 bytes.
use Rattle.std.proofs.Common.{◌≡◌, ◌≤◌, ◌++◌, length, arith, length-append}
use Rattle.macho_read.specs.declared.image.Section.{Section}
use Rattle.macho_read.specs.Spelling.{padded, section_bytes, section_fields, spelled}
use Rattle.macho_write.proofs.Padding.{length-padded}

pub length-section : (s : Section) → length s.name ≤ 16 → length s.segment ≤ 16 → length (section_bytes s) ≡ 80
length-section s name segment =
    omega (
      arith,
      length-append (padded s.name ++ padded s.segment) (spelled (section_fields s)),
      length-append (padded s.name) (padded s.segment),
      length-padded s.name name,
      length-padded s.segment segment,
    )
