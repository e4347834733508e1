use Rattle.std.proofs.Common.{◌∙◌, refl}
use Rattle.link_cli.specs.Answer.{not_made}
use Rattle.link_cli.proofs.LinkSteps.{replaces_as, plist_unwritten_as, image_unwritten_as, written_as}
use Rattle.link_cli.proofs.output.write_bundle.Goals as goal

pub returns-in_default : goal.returns-in_default
returns-in_default g c = rw c.no_memory.ensures (not_made refl)

pub returns-in-Err : goal.returns-in-Err
returns-in-Err g c =
    let made = c.in-Ok.ensures in
    plist_unwritten_as _ _ _ _ _ _ _ _ _ _ c.in-Err.error _ (c.as_str.ensures.value ∙ made.plist) made.plist_unwritten c.unwritten.ensures c.in-Err.ensures.failed c.in-Err.ensures.called c.in-Err.ensures.later

pub returns-in-Ok-replace : goal.returns-in-Ok-replace
returns-in-Ok-replace g c =
    let made = c.in-Ok.ensures in
    written_as _ _ _ _ _ _ _ _ (g.F.Files.files c.replace.new.self) _ _ (g.F.Files.counts c.replace.new.self) _
    (replaces_as _ _ _ _ _ _ (g.F.Files.counts c.args.files.now) (g.F.Files.counts c.replace.new.self) (c.as_str.ensures.value ∙ made.plist) c.as_slice.ensures c.in_default-replace.ensures.done c.in_default-replace.ensures.quiet c.in_default-replace.ensures.later)
    (c.as_str-2.ensures.value ∙ made.image) c.as_slice-2.ensures made.done c.in-Ok-replace.ensures.done c.in-Ok-replace.ensures.quiet c.in-Ok-replace.ensures.later

pub returns-in-Err-replace : goal.returns-in-Err-replace
returns-in-Err-replace g c =
    let made = c.in-Ok.ensures in
    image_unwritten_as _ _ _ _ _ _ _ (g.F.Files.files c.replace.new.self) _ _ (g.F.Files.counts c.replace.new.self) _ c.in-Err-replace.error _ (c.as_str-2.ensures.value ∙ made.image)
    made.image_unwritten c.unwritten-in-Err-replace.ensures
    (replaces_as _ _ _ _ _ _ (g.F.Files.counts c.args.files.now) (g.F.Files.counts c.replace.new.self) (c.as_str.ensures.value ∙ made.plist) c.as_slice.ensures c.in_default-replace.ensures.done c.in_default-replace.ensures.quiet c.in_default-replace.ensures.later)
    c.in-Err-replace.ensures.failed c.in-Err-replace.ensures.called c.in-Err-replace.ensures.later
