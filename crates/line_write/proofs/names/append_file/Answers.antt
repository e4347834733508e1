use Rattle.std.proofs.Common.{[], ◌∷◌}
use Rattle.line_write.proofs.Naming.{named_before}
use Rattle.line_write.proofs.names.append_file.Goals as goal

pub returns : goal.returns
returns c =
    named_before c.args.out.now c.append_place.new.out c.append_numbers.new.out c.args.names.now c.append_place.new.names (c.args.file.name.now ∷ []) _ _ c.in_ok-append_place.ensures c.in_ok-append_numbers.ensures
