use Rattle.std.proofs.Common.{◌≡◌, ◌∙◌, Bor, Err, List, ℕ, ap, map}
use Rattle.std.proofs.lemmas.Result.{err_from_is_err_and}
use Rattle.text_pool.specs.declared.error.TextError.TheVariants as errors
use Rattle.layout.specs.Pass.{names_in}
use Rattle.layout.proofs.TextRuns.{long_are, texts_are}
use Rattle.layout.proofs.text.texts_in.Goals as goal

pub returns-in_err-section-clause-long : goal.returns-in_err-section-clause-long
returns-in_err-section-clause-long g c = λ failed.
    let p = err_from_is_err_and c.from_residual-in_err-section.result c.from_residual-in_err-section.ensures.1 in
    let told = rw (p.1, p.2) at failed in
    let same : c.in_err-section.field-0.0 ≡ errors.Long = cc in
    let parts : List (List (List ℕ)) = map (λ (names : Bor (List (List ℕ))). names.now) c.as_slice.result.now in
    let are : parts ≡ map (names_in c.args.of) c.args.drafts.now = ap (λ (ns : List (Bor (List (List ℕ)))). map (λ (names : Bor (List (List ℕ))). names.now) ns) c.as_slice.ensures.value ∙ c.in_ok-names.ensures in
    long_are c.args.of c.args.drafts.now parts are (c.in_err-section.ensures.long (ap (λ e. Err e) same))

pub returns-clause-ok : goal.returns-clause-ok
returns-clause-ok g c =
    let parts : List (List (List ℕ)) = map (λ (names : Bor (List (List ℕ))). names.now) c.as_slice.result.now in
    let are : parts ≡ map (names_in c.args.of) c.args.drafts.now = ap (λ (ns : List (Bor (List (List ℕ)))). map (λ (names : Bor (List (List ℕ))). names.now) ns) c.as_slice.ensures.value ∙ c.in_ok-names.ensures in
    texts_are c.args.of c.args.drafts.now parts are c.in_ok-section.field-0 c.in_ok-section.ensures.ok
