use Rattle.std.proofs.Common.{append_assoc}
use Rattle.macho_write.proofs.records.append_segment.Goals as goal

pub returns : goal.returns
returns c = rw (c.in_ok-append_words.ensures, c.in_ok-append_longs.ensures, c.in_ok-append_name.ensures, c.from-3.ensures, c.from-2.ensures, c.from.ensures) (simp append_assoc)
