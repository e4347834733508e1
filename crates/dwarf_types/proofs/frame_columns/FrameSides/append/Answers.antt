use Rattle.std.proofs.Common.{rules, ◌≡◌, ◌++◌, length, map}
use Rattle.dwarf_types.specs.declared.frame_columns.FrameSides.{FrameSides}
use Rattle.dwarf_types.specs.FrameColumns.{run_moved}
use Rattle.dwarf_types.proofs.FrameRows.{cies_behind}
use Rattle.dwarf_types.proofs.frame_columns.FrameSides.append.Goals as goal

pub returns-clause-cies : goal.returns-clause-cies
returns-clause-cies c =
    let new : FrameSides = record { cies = c.extend_from_slice-2.new.self; bytes = c.extend_from_slice.new.self } in
    let cies : new.cies.items ≡ c.args.self.now.cies.items ++ map (run_moved (length c.args.self.now.bytes.items)) c.args.other.now.cies.items = search rules in
    let bytes : new.bytes.items ≡ c.args.self.now.bytes.items ++ c.args.other.now.bytes.items = search rules in
    cies_behind c.args.self.now c.args.other.now new cies bytes c.requires.own c.requires.other
