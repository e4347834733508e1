use Rattle.std.proofs.Common.{◌∙◌, ap, sym, length}
use Rattle.patches.specs.Filling.{Filling, filled}
use Rattle.patches.proofs.Fills.{length-filled}
use Rattle.patches.proofs.buffer.Buffer.emit.Goals as goal

pub copy_from_slice-requires : goal.copy_from_slice-requires
copy_from_slice-requires g c =
    let f : Filling = record { own = λ _. 0; outer = λ _. 0 } in
    let len = ap (λ h. length (filled h f)) (sym c.self.view_is) ∙ length-filled _ _ _ c.self.invariant f in
    c.requires.fits f ∙ len ∙ ap length (sym c.as_slice.ensures.value)
