use Rattle.std.proofs.Common.{arith}
use Rattle.dwarf_types.specs.LineTable.{file_bytes}
use Rattle.dwarf_types.specs.SeenLines.{file_seen}
use Rattle.line_write.proofs.Pieces.{pieces_done, pieces_next}
use Rattle.line_write.proofs.tables.append_files.Goals as goal

pub loop-i-preserved : goal.loop-i-preserved
loop-i-preserved c = λ f. pieces_next file_bytes c.args.files.now c.loop-i.i (file_seen c.file.result) _ _ _ (omega (arith, c.loop-i-test.true, c.len-i-end.ensures)) c.file.ensures.item (c.in_ok-append_file.ensures f) (c.loop-i.invariant f)

pub returns : goal.returns
returns c = λ f. pieces_done file_bytes c.args.files.now c.loop-i.i _ _ (omega (arith, c.loop-i-test.false, c.len-i-end.ensures)) (c.loop-i.invariant f)
