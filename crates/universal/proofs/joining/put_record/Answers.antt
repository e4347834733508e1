use Rattle.std.proofs.Common.{ℕ, ◌+◌, ◌∙◌, ap}
use Rattle.byteorder.specs.Endian.{big_bytes}
use Rattle.ds_base.specs.Room.{put}
use Rattle.universal.specs.Joined.{slice_from}
use Rattle.universal.proofs.Rooms.{record_written}
use Rattle.universal.proofs.joining.put_record.Goals as goal

pub returns : goal.returns
returns c =
    let at = c.args.at in
    record_written c.args.room.now c.put_number.new.room c.put_number-2.new.room c.put_number-3.new.room c.put_number-4.new.room c.put_number-5.new.room at (slice_from c.args.part c.args.offset) c.requires.fits
    (c.put_number.ensures ∙ ap (λ (n : ℕ). put c.args.room.now at (big_bytes 4 n)) c.from.ensures)
    (c.put_number-2.ensures ∙ ap (λ (n : ℕ). put c.put_number.new.room (at + 4) (big_bytes 4 n)) c.from-2.ensures)
    c.put_number-3.ensures
    (c.put_number-4.ensures ∙ ap (λ (n : ℕ). put c.put_number-3.new.room (at + 12) (big_bytes 4 n)) c.from-3.ensures)
    c.put_number-5.ensures
