use Rattle.std.proofs.Common.{◌≡◌, ◌∙◌, ◌++◌, ℕ, ap, fold, length, None, refl, subst, sym}
use Rattle.dwarf_types.specs.Frames.{frames_bytes}
use Rattle.layout.specs.declared.sizes.Sizes.{Sizes}
use Rattle.layout.specs.declared.starts.Starts.{Starts}
use Rattle.layout.specs.Pass.{behind_draft, first_long, no_starts, none_placed, sized, with_draft}
use Rattle.layout.proofs.Whole.{all_laid, long_by, placing_whole, stopped_late}
use Rattle.layout.proofs.layout.place_behind.Goals as goal

-- what was measured is not too long
abbrev first_short : Sizes → Sizes → Type 0
first_short sizes told = sizes ≡ told → first_long (long_by sizes) ≡ None → first_long (long_by told) ≡ None

short_is : (sizes told : Sizes) → first_short sizes told
short_is sizes told e short = subst (λ (s : Sizes). first_long (long_by s) ≡ None) e short

module _ (ends ends' : Starts) (texts texts' lines lines' aranges aranges' frames frames' : ℕ) where
  sized_same : ends ≡ ends' → texts ≡ texts' → lines ≡ lines' → aranges ≡ aranges' → frames ≡ frames' → sized ends texts lines aranges frames ≡ sized ends' texts' lines' aranges' frames'
  sized_same a b c d e = rw (a, b, c, d, e) refl

pub returns-in-Some : goal.returns-in-Some
returns-in-Some c = λ graph are same.
    let drafts = c.args.drafts in
    let s = c.args.sizes in
    let placing = c.in_ok-placing.placing in
    let described = c.append_frames.new.out in
    let all = sized_same _ _ _ _ _ _ _ _ _ _ (ap (λ (t : Sizes). t.ends) c.requires.sizes) (ap (λ (t : Sizes). t.texts) c.requires.sizes) (ap (λ (t : Sizes). t.line_texts) c.requires.sizes) c.len.ensures c.len-2.ensures in
    stopped_late graph drafts are (fold behind_draft no_starts drafts) refl c.args.texts c.args.line_texts c.requires.texts c.requires.line_texts placing (c.in_ok-placing.ensures ∙ ap (fold with_draft none_placed) c.as_slice.ensures)
    c.args.frames.now same described (c.in_ok-append_frames.ensures ∙ ap (λ bytes. bytes ++ frames_bytes c.args.frames.now) c.new-described.ensures)
    _ (ap (λ (t : Sizes). first_long (long_by t)) (sym all) ∙ sym c.first_limit.ensures ∙ c.in-Some.is)

pub invariant_of-result : goal.invariant_of-result
invariant_of-result c =
    let drafts = c.args.drafts in
    placing_whole drafts (fold behind_draft no_starts drafts) refl (length c.args.texts.section) (length c.args.line_texts.section) (short_is c.args.sizes _ c.requires.sizes c.requires.short)
    c.in_ok-placing.placing (c.in_ok-placing.ensures ∙ ap (fold with_draft none_placed) c.as_slice.ensures) c.args.texts c.args.line_texts c.requires.texts c.requires.line_texts

pub returns : goal.returns
returns c = λ graph are same.
    let drafts = c.args.drafts in
    let placing = c.in_ok-placing.placing in
    let described = c.append_frames.new.out in
    let all = sized_same _ _ _ _ _ _ _ _ _ _ (ap (λ (t : Sizes). t.ends) c.requires.sizes) (ap (λ (t : Sizes). t.texts) c.requires.sizes) (ap (λ (t : Sizes). t.line_texts) c.requires.sizes) c.len.ensures c.len-2.ensures in
    all_laid graph drafts are (fold behind_draft no_starts drafts) refl c.args.texts c.args.line_texts c.requires.texts c.requires.line_texts placing (c.in_ok-placing.ensures ∙ ap (fold with_draft none_placed) c.as_slice.ensures)
    c.args.frames.now same described (c.in_ok-append_frames.ensures ∙ ap (λ bytes. bytes ++ frames_bytes c.args.frames.now) c.new-described.ensures)
    (ap (λ (t : Sizes). first_long (long_by t)) (sym all) ∙ sym c.first_limit.ensures ∙ c.in_default.is)
