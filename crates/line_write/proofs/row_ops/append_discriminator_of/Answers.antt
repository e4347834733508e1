use Rattle.std.proofs.Common.{◌++◌, ◌∙◌, ap, sym}
use Rattle.appending.proofs.Places.{append_more}
use Rattle.line_write.proofs.Operations.{discriminator_parts}
use Rattle.line_write.proofs.row_ops.append_discriminator_of.Goals as goal

pub returns : goal.returns
returns c =
    append_more _ _ _ _ _ c.in_ok-append_extended.ensures c.in_ok-append_uleb.ensures.ok
    ∙ ap (λ bytes. c.args.out.now ++ bytes) (sym (discriminator_parts c.args.n c.uleb_len.result c.uleb_len.ensures.is))
