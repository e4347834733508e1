use Rattle.std.proofs.Common.{◌≡◌, ℕ, List, [], ◌++◌, false, append_assoc}
use Rattle.ds_base.specs.MachONumbers.{MH_DSYM}
use Rattle.macho_read.specs.ImageSpelling.{command_of}
use Rattle.macho_read.specs.Spelling.{command_bytes}
use Rattle.macho_write.specs.Records.{commands_text, header_bytes, segment_commands, symbol_table, uuid_command}
use Rattle.dsym_write.specs.Pieces.{commands_count, dwarf_text}
use Rattle.dsym_write.proofs.commands.commands_of.Goals as goal

five_in_turn : (o a b c d e p1 p2 p3 p4 p5 : List ℕ) → o ≡ [] → a ≡ o ++ p1 → b ≡ a ++ p2 → c ≡ b ++ p3 → d ≡ c ++ p4 → e ≡ d ++ p5 → e ≡ p1 ++ (p2 ++ (p3 ++ (p4 ++ p5)))
five_in_turn o a b c d e p1 p2 p3 p4 p5 eo ea eb ec ed ee = rw (ee, ed, ec, eb, ea, eo) (simp append_assoc)

pub returns : goal.returns
returns c =
    let program = c.args.program.now in
    let p = c.args.places in
    let header = rw c.count_commands-count.ensures at c.in_ok-append_header.ensures in
    let segments = rw (c.as_slice-2.ensures, c.as_slice.ensures) at c.in_ok-append_segments.ensures in
    five_in_turn _ _ _ _ _ _ (header_bytes program.cpu program.sub MH_DSYM (commands_count program) p.commands) (commands_text (uuid_command program.uuid))
    (command_bytes (command_of (symbol_table p.symoff p.nsyms p.strsize))) (commands_text (segment_commands false program.segments program.sections)) (dwarf_text p c.args.layout.now)
    c.new-out.ensures header c.in_ok-append_uuid.ensures c.in_ok-append_symtab.ensures segments c.in_ok-append_dwarf.ensures
