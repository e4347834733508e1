use Rattle.std.proofs.Common.{◌≡◌, None, Some}
use Rattle.layout.specs.Lengths.{long_unit}
use Rattle.layout.proofs.OfDrafts.{none_long}
use Rattle.link_core.proofs.image.layout_of.Goals as goal

pub unreachable-requires : goal.unreachable-requires
unreachable-requires g c =
    let it = c.requires.drafted in
    let none : long_unit it.graph ≡ None = none_long it.graph c.args.drafts it.are in
    let long : long_unit it.graph ≡ Some c.in-Err-Unit.field-0-0 = rw (c.in-Err-Unit.is, c.in-Err-Unit.field-0-is) at (c.place_drafts.ensures it.graph it.are it.its_frames) in
    cc (none, long)
