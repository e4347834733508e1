use Rattle.std.proofs.Common.{◌≡◌, ◌∙◌, ap, drop, length}
use Rattle.std.proofs.lemmas.List.{take_at}
use Rattle.ds_base.specs.Room.{put}
use Rattle.universal.specs.Joined.{head, places}
use Rattle.universal.proofs.Rooms.{made}
use Rattle.universal.proofs.joining.write_head.Goals as goal

pub returns-clause-joined : goal.returns-clause-joined
returns-clause-joined c =
    let file = c.args.file.now in
    let room = c.put_head.new.room in
    let same : length room ≡ length file = c.put_head.auto.room ∙ ap length c.as_mut_slice.ensures.value in
    λ thin some map_is was.
    made file _ c.args.parts.now thin c.requires.few (take_at room (drop (length room) file) (length file) same ∙ c.put_head.ensures ∙ ap (λ xs. put xs 0 (head (places c.args.parts.now))) c.as_mut_slice.ensures.value) some map_is was
