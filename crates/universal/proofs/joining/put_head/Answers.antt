use Rattle.std.proofs.Common.{ℕ, ◌∙◌, ap, sym, length, arith}
use Rattle.byteorder.specs.Endian.{big_bytes}
use Rattle.ds_base.specs.Room.{put}
use Rattle.universal.specs.Records.{head_size}
use Rattle.universal.specs.Joined.{places}
use Rattle.universal.proofs.Pages.{length_placed}
use Rattle.universal.proofs.Rooms.{head_written}
use Rattle.universal.proofs.joining.put_head.Goals as goal

pub returns : goal.returns
returns c =
    let parts = c.args.parts.now in
    head_written c.args.room.now c.put_number.new.room c.put_number-2.new.room c.put_records.new.room (places parts) (omega (arith, c.requires.fits))
    (c.put_number.ensures ∙ ap (λ (n : ℕ). put c.args.room.now 0 (big_bytes 4 n)) c.from.ensures)
    (c.put_number-2.ensures ∙ ap (λ (n : ℕ). put c.put_number.new.room 4 (big_bytes 4 n)) (sym (length_placed (head_size (length parts)) parts)))
    c.put_records.ensures
