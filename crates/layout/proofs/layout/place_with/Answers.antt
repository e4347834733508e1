use Rattle.std.proofs.Common.{◌∙◌, ap, fold, sym}
use Rattle.layout.specs.declared.text.TextsOf.TheVariants as owners
use Rattle.layout.specs.Pass.{behind_draft, is_long, no_starts}
use Rattle.layout.proofs.Whole.{long_texts, stopped_early}
use Rattle.layout.proofs.layout.place_with.Goals as goal

pub returns-in-Some : goal.returns-in-Some
returns-in-Some c = λ graph are same.
    let drafts = c.args.drafts in
    stopped_early graph drafts are c.ends_of.result (c.ends_of.ensures.is ∙ ap (fold behind_draft no_starts) c.as_slice.ensures)
    c.size_of_texts.result c.size_of_texts-2.result
    (ap (λ n. is_long n) c.size_of_texts.ensures ∙ long_texts owners.Entries drafts c.args.texts c.in_ok-texts.texts c.requires.texts c.in_ok-texts.ensures)
    (ap (λ n. is_long n) c.size_of_texts-2.ensures ∙ long_texts owners.Lines drafts c.args.line_texts c.in_ok-line_texts.line_texts c.requires.line_texts c.in_ok-line_texts.ensures)
    _ (sym c.first_limit.ensures ∙ c.in-Some.is)
