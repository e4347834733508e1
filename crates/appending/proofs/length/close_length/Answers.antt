use Rattle.std.proofs.Common.{◌≡◌, ◌-◌, ◌∙◌, ap, length}
use Rattle.byteorder.specs.Endian.{little_bytes}
use Rattle.ds_base.specs.Room.{put}
use Rattle.appending.proofs.Places.{lent}
use Rattle.appending.proofs.length.close_length.Goals as goal

pub returns : goal.returns
returns c =
    let out = c.args.out.now in
    let at = c.args.at in
    let same : length c.put_lowest.new.room ≡ length out = c.put_lowest.auto.room ∙ ap length c.as_mut_slice.ensures.value in
    lent out c.put_lowest.new.room same
    ∙ (c.put_lowest.ensures ∙ ap (λ n. put c.as_mut_slice.result.now at (little_bytes 4 (n - at - 4))) c.len.ensures ∙ ap (λ room. put room at (little_bytes 4 (length out - at - 4))) c.as_mut_slice.ensures.value)
