use Rattle.layout.specs.declared.text.TextsOf.TheVariants as owners
use Rattle.layout.proofs.TextRuns.{makes_texts}
use Rattle.layout.proofs.layout.place_drafts.Goals as goal

pub place_with-requires-clause-texts : goal.place_with-requires-clause-texts
place_with-requires-clause-texts g c = makes_texts owners.Entries c.args.drafts c.as_slice.result.now c.as_slice.ensures c.texts_in-texts.result c.texts_in-texts.ensures.ok c.texts_in-texts.ensures.long

pub place_with-requires-clause-line_texts : goal.place_with-requires-clause-line_texts
place_with-requires-clause-line_texts g c = makes_texts owners.Lines c.args.drafts c.as_slice-2.result.now c.as_slice-2.ensures c.texts_in-line_texts.result c.texts_in-line_texts.ensures.ok c.texts_in-line_texts.ensures.long
