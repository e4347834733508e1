-- The lowest bytes of a number.
use Rattle.std.proofs.Common.{◌≡◌, ◌≤◌, ◌+◌, ◌++◌, ◌∙◌, ℕ, zero, suc, ◌∷◌, List, length, take, drop, ap, refl, arith}
use Rattle.std.proofs.lemmas.List.{take_at}
use Rattle.std.specs.Int.{byte_at, bytes_low_first}
use Rattle.ds_base.specs.Room.{put}

-- fewer bytes are the first of more
pub take_lowest : (k m i n : ℕ) → k ≤ m → take k (bytes_low_first i m n) ≡ bytes_low_first i k n
take_lowest zero m i n le = refl
take_lowest (suc k) zero i n le = absurd (omega (arith, le))
take_lowest (suc k) (suc m) i n le = ap (λ (bytes : List ℕ). byte_at i n ∷ bytes) (take_lowest k m (suc i) n (omega (arith, le)))

-- what stands at the front of a room
pub take_front : (room bytes new : List ℕ) (len : ℕ) → new ≡ put room 0 bytes → length bytes ≡ len → take len new ≡ bytes
take_front room bytes new len is same = ap (take len) is ∙ take_at bytes (drop (0 + length bytes) room) len same

-- a list that was lent, and came back as long as it was
pub lent : (was became : List ℕ) (len : ℕ) → length became ≡ len → take len (became ++ drop (length became) was) ≡ became
lent was became len same = take_at became (drop (length became) was) len same
