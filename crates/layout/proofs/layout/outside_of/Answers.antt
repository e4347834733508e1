use Rattle.std.proofs.Common.{◌∙◌, ap, get_or, refl}
use Rattle.layout.specs.declared.placing.PartPlaces.{PartPlaces}
use Rattle.layout.specs.Laid.{Laid}
use Rattle.layout.proofs.Outsides.{outside_is}
use Rattle.layout.proofs.layout.outside_of.Goals as goal

pub returns : goal.returns
returns c = λ graph it draft measured here there.
    let layout : Laid = c.args.layout.now in
    let u = c.args.unit in
    let none : PartPlaces = record { table = 0; lines = 0; ranges = 0; locations = 0 } in
    let seen = c.layout.view_is in
    outside_is graph layout u it draft (get_or c.as_slice.result.now u none) none c.index-as_slice-unit.result c.index-as_slice-unit-2.result _ measured.0 measured.3 here there
    (ap (λ ps. get_or ps u none) (c.as_slice.ensures ∙ ap (λ (l : Laid). l.parts) seen))
    (c.index-as_slice-unit.is ∙ ap (λ ts. get_or ts u c.index-as_slice-unit.result) (c.as_slice-2.ensures ∙ ap (λ (l : Laid). l.text_places) seen))
    (c.index-as_slice-unit-2.is ∙ ap (λ ts. get_or ts u c.index-as_slice-unit-2.result) (c.as_slice-4.ensures ∙ ap (λ (l : Laid). l.line_text_places) seen))
    refl refl refl refl c.as_slice-3.ensures c.as_slice-5.ensures (c.as_slice-6.ensures ∙ ap (λ (l : Laid). l.starts) seen) (c.as_slice-7.ensures ∙ ap (λ (l : Laid). l.drafts) seen) (ap (λ (l : Laid). l.ends.info) seen)
