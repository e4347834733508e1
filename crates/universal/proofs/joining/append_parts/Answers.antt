use Rattle.std.proofs.Common.{◌≡◌, ◌∙◌, ap, get_or, take_all, arith}
use Rattle.universal.specs.declared.parts.Thin.{Thin}
use Rattle.universal.specs.Joined.{unheaded}
use Rattle.universal.proofs.Pages.{part_more}
use Rattle.universal.proofs.joining.append_parts.Goals as goal

pub loop-part-preserved : goal.loop-part-preserved
loop-part-preserved c =
    let d : Thin = c.part-item.result in
    let its : c.as_slice.result.now ≡ (get_or c.args.parts.now c.loop-part.part-index d).bytes = c.as_slice.ensures ∙ ap (λ (p : Thin). p.bytes) c.part-item.is in
    part_more c.args.parts.now c.loop-part.part-index d c.loop-part.file c.fill_page.new.file c.extend.new.self c.as_slice.result.now c.loop-part-test.true its c.loop-part.invariant c.in_ok-fill_page.ensures.ok c.in_ok-extend.ensures.ok

pub returns : goal.returns
returns c = c.loop-part.invariant ∙ ap unheaded (take_all c.loop-part.part-index c.args.parts.now (omega (arith, c.loop-part-test.false)))
