use Rattle.std.proofs.Common.{◌≡◌, ◌∙◌, ap, sym, length, List, []}
use Rattle.patches.specs.declared.hole.OwnPatch.{OwnPatch}
use Rattle.patches.specs.declared.hole.OuterPatch.{OuterPatch}
use Rattle.patches.specs.Filling.{Holey, fill_own, fill_outer, filled}
use Rattle.patches.specs.Numbers.{patched}
use Rattle.patches.proofs.Lowest.{lent}
use Rattle.patches.proofs.buffer.Buffer.patch.Goals as goal

pub returns : goal.returns
returns g c = λ f.
    let was = c.self.inside.bytes.items in
    let none : c.self.inside.own.items ≡ [] = ap (λ (h : Holey). h.own) c.self.view_is ∙ c.requires.settled in
    let filling = g.N.OuterNumbers.number c.args.outside.now in
    let room = c.as_mut_slice.ensures.value in
    lent was c.fill_all_outer.new.room _ (c.fill_all_outer.auto.room ∙ ap length room ∙ sym c.self.inside.bytes.ok.0) ∙ c.fill_all_outer.ensures
    ∙ ap (λ (ps : List OuterPatch). fill_outer filling ps c.as_mut_slice.result.now) c.as_slice.ensures.value
    ∙ ap (fill_outer filling c.self.inside.outer.items) room
    ∙ ap (λ (owns : List OwnPatch). fill_outer filling c.self.inside.outer.items (fill_own f.own owns was)) (sym none)
    ∙ ap (λ (h : Holey). filled h (patched f filling)) c.self.view_is
