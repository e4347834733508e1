use Rattle.std.proofs.Common.{◌≡◌, ◌+◌, length, ap, ◌∙◌, arith}
use Rattle.sample_objects.proofs.ProgramCommands.{whole}
use Rattle.sample_objects.proofs.linked_file.program_file.Goals as goal

pub returns : goal.returns
returns c =
    let large : c.len.result + c.from.result ≡ length c.as_slice.result.now + 24 = omega (arith, c.len.ensures, c.from.ensures, ap length c.as_slice.ensures) in
    let behind : c.from-2.result + (c.len.result + c.from.result) ≡ 32 + (c.len.result + c.from.result) = omega (arith, c.from-2.ensures) in
    whole c.args.image.now c.as_slice.result.now c.as_slice-2.result.now _ _ _ _ _ (c.as_slice.ensures ∙ c.in_ok-first.ensures) (c.as_slice-2.ensures ∙ c.in_ok-symbols.ensures) c.count_commands-count.ensures large behind c.len-2.ensures
    c.strings_size.ensures.size _ _ _ _ _ c.new-out.ensures c.in_ok-append_header.ensures c.in_ok-extend.ensures.ok c.in_ok-append_symtab.ensures c.in_ok-extend-2.ensures.ok
