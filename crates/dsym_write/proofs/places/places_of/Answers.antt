use Rattle.std.proofs.Common.{subst, sym}
use Rattle.std.specs.List.{All}
use Rattle.dsym_write.specs.Pieces.{HasRoomAbove}
use Rattle.dsym_write.proofs.RoomAbove.{room_above}
use Rattle.dsym_write.proofs.places.places_of.Goals as goal

pub first_address-requires : goal.first_address-requires
first_address-requires c = subst (All HasRoomAbove) (sym c.as_slice.ensures) (room_above c.args.program.now c.requires.sound c.requires.kind)
