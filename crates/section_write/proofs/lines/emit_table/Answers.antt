use Rattle.std.proofs.Common.{◌≡◌, ◌∙◌, Some, ap, get_or, length, refl, slice_get, sym}
use Rattle.std.proofs.lemmas.Option.{slice_get_read}
use Rattle.unit_draft.specs.Drafted.{IsDraft}
use Rattle.layout.specs.Pass.{nothing}
use Rattle.section_write.proofs.Drafts.{its_draft}
use Rattle.section_write.proofs.UnitByUnit.{unit_of}
use Rattle.section_write.proofs.lines.emit_table.Goals as goal

pub emit_lines-requires-clause-settled : goal.emit_lines-requires-clause-settled
emit_lines-requires-clause-settled c =
    let drafts = c.args.layout.now.drafts in
    let draft = c.index-drafts-unit.result in
    let there : slice_get drafts c.args.unit ≡ Some draft = slice_get_read drafts (length drafts) c.args.unit draft refl c.requires.within (c.index-drafts-unit.is ∙ ap (λ ds. get_or ds c.args.unit draft) c.drafts.ensures) in
    (its_draft c.args.layout.now c.args.unit draft c.requires.measured c.requires.within there).lines_settled

pub emit_lines-requires-clause-fits : goal.emit_lines-requires-clause-fits
emit_lines-requires-clause-fits c = λ f.
    let drafts = c.args.layout.now.drafts in
    let draft = c.index-drafts-unit.result in
    let there : slice_get drafts c.args.unit ≡ Some draft = slice_get_read drafts (length drafts) c.args.unit draft refl c.requires.within (c.index-drafts-unit.is ∙ ap (λ ds. get_or ds c.args.unit draft) c.drafts.ensures) in
    let is : IsDraft c.args.unit (unit_of c.requires.measured.graph c.args.unit) draft = its_draft c.args.layout.now c.args.unit draft c.requires.measured c.requires.within there in
    c.requires.size draft there ∙ is.lines_size nothing ∙ sym (is.lines_size f)

pub returns : goal.returns
returns c = λ graph it measured here.
    let drafts = c.args.layout.now.drafts in
    let draft = c.index-drafts-unit.result in
    let there : slice_get drafts c.args.unit ≡ Some draft = slice_get_read drafts (length drafts) c.args.unit draft refl c.requires.within (c.index-drafts-unit.is ∙ ap (λ ds. get_or ds c.args.unit draft) c.drafts.ensures) in
    c.emit_lines.ensures.graph graph c.args.unit it here (measured.3.each c.args.unit it draft here there) (c.outside_of-outside.ensures graph it draft measured here there)
