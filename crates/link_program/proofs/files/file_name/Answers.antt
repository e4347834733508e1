use Rattle.std.proofs.lemmas.Str.{IsUtf8-from_is_utf8}
use Rattle.link_program.proofs.files.file_name.Goals as goal

pub unreachable-requires : goal.unreachable-requires
unreachable-requires c = c.in-Err.ensures.cases.0 (rw c.as_slice.ensures (IsUtf8-from_is_utf8 _ c.requires))
