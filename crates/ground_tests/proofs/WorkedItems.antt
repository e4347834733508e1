-- Items from the front, and items written into a room, with the lowest byte first.
use Rattle.std.proofs.Common.{◌≡◌, ℕ, List, [], ◌∷◌, Result, Ok, Err, refl}
use Rattle.byteorder.specs.Endian.{little_bytes}
use Rattle.ds_base.specs.declared.fault.Fault.{Fault}
use Rattle.ds_base.specs.declared.fault.Kind.TheVariants as kinds
use Rattle.ds_base.specs.declared.fault.Part.TheVariants as parts
use Rattle.ds_base.specs.Reading.{◌>>=◌, number_at, text_at}
use Rattle.ds_base.specs.Room.{put}
use Rattle.ds_base.specs.Spot.{Spot, start}

-- what items compute with
reading : Unit {0}
unfolding number_at text_at
reading = tt

-- an item, and the place of the next
abbrev read : {A : Type 0} → Result (A × Spot) Fault → Result (A × ℕ) Fault
read item = item >>= λ found. Ok (found.0, found.1.place)

abbrev truncated : Fault
truncated = record { kind = kinds.Truncated; section = parts.Symbols; place = 0 }

-- a number of two bytes and one of eight, behind which another byte stands, and one that is cut off
numbers :
    (read (number_at 2 (start parts.Symbols (0x34 ∷ 0x12 ∷ 0x01 ∷ []))) ≡ Ok (0x1234, 2))
    × (read (number_at 8 (start parts.Symbols (0x01 ∷ 0x02 ∷ 0x03 ∷ 0x04 ∷ 0x05 ∷ 0x06 ∷ 0x07 ∷ 0x08 ∷ 0x6f ∷ []))) ≡ Ok (0x0807060504030201, 8))
    × (read (number_at 2 (start parts.Symbols (0x34 ∷ []))) ≡ Err truncated)
unfolding reading
numbers = (refl, refl, refl)

-- a text, behind whose zero another byte stands, an empty one, and one that doesn't end
texts :
    (read (text_at (start parts.Symbols (0x6f ∷ 0x6b ∷ 0x00 ∷ 0x09 ∷ []))) ≡ Ok (0x6f ∷ 0x6b ∷ [], 3))
    × (read (text_at (start parts.Symbols (0x00 ∷ []))) ≡ Ok ([], 1))
    × (read (text_at (start parts.Symbols (0x6f ∷ 0x6b ∷ []))) ≡ Err truncated)
unfolding reading
texts = (refl, refl, refl)

-- ten bytes, of which those stay that aren't written
abbrev room : List ℕ
room = 0xee ∷ 0xee ∷ 0xee ∷ 0xee ∷ 0xee ∷ 0xee ∷ 0xee ∷ 0xee ∷ 0xee ∷ 0xee ∷ []

written_items :
    (put room 1 (little_bytes 2 0x1234) ≡ 0xee ∷ 0x34 ∷ 0x12 ∷ 0xee ∷ 0xee ∷ 0xee ∷ 0xee ∷ 0xee ∷ 0xee ∷ 0xee ∷ [])
    × (put room 5 (little_bytes 4 0x12345678) ≡ 0xee ∷ 0xee ∷ 0xee ∷ 0xee ∷ 0xee ∷ 0x78 ∷ 0x56 ∷ 0x34 ∷ 0x12 ∷ 0xee ∷ [])
    × (put room 2 (little_bytes 8 0x0807060504030201) ≡ 0xee ∷ 0xee ∷ 0x01 ∷ 0x02 ∷ 0x03 ∷ 0x04 ∷ 0x05 ∷ 0x06 ∷ 0x07 ∷ 0x08 ∷ [])
    × (put room 9 (0x6b ∷ []) ≡ 0xee ∷ 0xee ∷ 0xee ∷ 0xee ∷ 0xee ∷ 0xee ∷ 0xee ∷ 0xee ∷ 0xee ∷ 0x6b ∷ [])
written_items = (refl, refl, refl, refl)
