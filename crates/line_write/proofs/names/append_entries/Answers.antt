use Rattle.line_write.proofs.Naming.{named_more}
use Rattle.line_write.proofs.names.append_entries.Goals as goal

pub returns : goal.returns
returns c =
    named_more c.args.out.now c.append_directories.new.out c.append_files.new.out _ _ c.args.names.now c.append_directories.new.names c.append_files.new.names _ _
    c.in_ok-append_directories.ensures c.in_ok-append_files.ensures
