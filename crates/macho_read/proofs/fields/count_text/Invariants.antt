use Rattle.std.proofs.Common.{◌≡◌, ◌+◌, drop}
use Rattle.macho_read.specs.Fields.{text_len}
use Rattle.macho_read.proofs.fields.count_text.Given as goal

-- what is counted from here on makes with what was passed what is counted in all
abbrev pub invariant-loop-i : goal.invariant-loop-i
invariant-loop-i l = l.i + text_len (drop l.i l.bytes) ≡ text_len l.bytes
