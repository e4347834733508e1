use Rattle.macho_write.proofs.Padding.{padded_is}
use Rattle.macho_write.proofs.fields.append_name.Goals as goal

pub returns : goal.returns
returns c = padded_is c.args.out.now c.args.name.now _ _ _ _ c.min-len.ensures c.in_ok-extend.ensures.ok c.bytes_from.ensures.is c.in_ok-extend-2.ensures.ok
