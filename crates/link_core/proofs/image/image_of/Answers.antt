use Rattle.std.proofs.Common.{◌≡◌, ℕ, List, Ok, Err, take, ap, subst, ◌∙◌}
use Rattle.std.proofs.lemmas.Result.{err_from_is_err_and}
use Rattle.link_core.specs.Passes.{Images}
use Rattle.link_core.proofs.image.image_of.Goals as goal

pub returns-in_err-image : goal.returns-in_err-image
returns-in_err-image g c =
    let p = err_from_is_err_and c.from_residual-in_err-image.result c.from_residual-in_err-image.ensures.1 in
    let kept : take c.len-start.result c.room_behind-room.result.items ≡ c.args.front = ap (λ (n : ℕ). take n c.room_behind-room.result.items) c.len-start.ensures ∙ c.room_behind-room.ensures.front in
    λ graph are frames. rw (p.1, p.2)
    (subst (λ (front : List ℕ). Images front c.args.program.now.image.now graph (Err c.in_err-image.field-0.0)) kept (c.in_err-image.ensures graph (c.in_ok-layout.ensures graph are frames)))

pub returns : goal.returns
returns g c =
    let kept : take c.len-start.result c.room_behind-room.result.items ≡ c.args.front = ap (λ (n : ℕ). take n c.room_behind-room.result.items) c.len-start.ensures ∙ c.room_behind-room.ensures.front in
    λ graph are frames. subst (λ (front : List ℕ). Images front c.args.program.now.image.now graph (Ok c.in_ok-image.image)) kept (c.in_ok-image.ensures graph (c.in_ok-layout.ensures graph are frames))
