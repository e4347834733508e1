use Rattle.std.proofs.Common.{◌∙◌, arith, sym}
use Rattle.std.proofs.lemmas.Option.{slice_get_past, slice_get-get_or}
use Rattle.macho_read.proofs.TextEnds.{first_is}
use Rattle.macho_read.proofs.ends.zero_from.Goals as goal

pub returns-then-i-zeros : goal.returns-then-i-zeros
returns-then-i-zeros c =
    sym (first_is c.args.zeros.now c.args.place c.first_index-i.result c.first_index-i.ensures.within c.first_index-i.ensures.before ∙ slice_get_past c.args.zeros.now c.first_index-i.result (omega (arith, c.if-i-zeros.true)))

pub returns : goal.returns
returns c =
    sym (first_is c.args.zeros.now c.args.place c.first_index-i.result c.first_index-i.ensures.within c.first_index-i.ensures.before ∙ slice_get-get_or c.args.zeros.now c.first_index-i.result 0 (omega (arith, c.if-i-zeros.false, c.first_index-i.ensures.within)))
