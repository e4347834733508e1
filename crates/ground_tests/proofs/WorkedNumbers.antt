-- LEB numbers: the examples of the standard (DWARF 4, section 7.6, figures 22 and 23), padded ones, and the limits.
use Rattle.std.proofs.Common.{◌≡◌, ℕ, ◌-◌, ◌^◌, false, ℤ, pos, negsuc, List, [], ◌∷◌, Result, Ok, Err, refl}
use Rattle.ds_base.specs.declared.fault.Fault.{Fault}
use Rattle.ds_base.specs.declared.fault.Kind.{Kind}
use Rattle.ds_base.specs.declared.fault.Kind.TheVariants as kinds
use Rattle.ds_base.specs.declared.fault.Part.TheVariants as parts
use Rattle.ds_base.specs.Leb.{leb_digits, sleb, uleb}
use Rattle.ds_base.specs.Reading.{◌>>=◌, leb_at, sleb_at, uleb_at}
use Rattle.ds_base.specs.Spot.{start}

-- what numbers compute with
reading : Unit {0}
unfolding leb_at sleb_at uleb_at sleb uleb
reading = tt

-- what the first bytes mean as a number, without and with a sign
abbrev unsigned : List ℕ → Result ℕ Fault
unsigned bytes = uleb_at (start parts.Info bytes) >>= λ read. Ok read.0

abbrev signed : List ℕ → Result ℤ Fault
signed bytes = sleb_at (start parts.Info bytes) >>= λ read. Ok read.0

-- a number is spelled by these bytes, and they mean it
abbrev IsUleb : ℕ → List ℕ → Type 0
IsUleb n bytes = (uleb n ≡ bytes) × (unsigned bytes ≡ Ok n)

abbrev IsSleb : ℤ → List ℕ → Type 0
IsSleb n bytes = (sleb n ≡ bytes) × (signed bytes ≡ Ok n)

unsigned_numbers :
    IsUleb 2 (0x02 ∷ [])
    × IsUleb 127 (0x7f ∷ [])
    × IsUleb 128 (0x80 ∷ 0x01 ∷ [])
    × IsUleb 129 (0x81 ∷ 0x01 ∷ [])
    × IsUleb 130 (0x82 ∷ 0x01 ∷ [])
    × IsUleb 12857 (0xb9 ∷ 0x64 ∷ [])
    × IsUleb (2 ^ 64 - 1) (0xff ∷ 0xff ∷ 0xff ∷ 0xff ∷ 0xff ∷ 0xff ∷ 0xff ∷ 0xff ∷ 0xff ∷ 0x01 ∷ [])
unfolding reading
unsigned_numbers = ((refl, refl), (refl, refl), (refl, refl), (refl, refl), (refl, refl), (refl, refl), (refl, refl))

-- 2, 127, 128 and 129, the least and the greatest of 64 bits, and in between these numbers below zero
signed_numbers :
    IsSleb (pos 2) (0x02 ∷ [])
    × IsSleb (negsuc 1) (0x7e ∷ [])
    × IsSleb (pos 127) (0xff ∷ 0x00 ∷ [])
    × IsSleb (negsuc 126) (0x81 ∷ 0x7f ∷ [])
    × IsSleb (pos 128) (0x80 ∷ 0x01 ∷ [])
    × IsSleb (negsuc 127) (0x80 ∷ 0x7f ∷ [])
    × IsSleb (pos 129) (0x81 ∷ 0x01 ∷ [])
    × IsSleb (negsuc 128) (0xff ∷ 0x7e ∷ [])
    × IsSleb (pos (2 ^ 63 - 1)) (0xff ∷ 0xff ∷ 0xff ∷ 0xff ∷ 0xff ∷ 0xff ∷ 0xff ∷ 0xff ∷ 0xff ∷ 0x00 ∷ [])
    × IsSleb (negsuc (2 ^ 63 - 1)) (0x80 ∷ 0x80 ∷ 0x80 ∷ 0x80 ∷ 0x80 ∷ 0x80 ∷ 0x80 ∷ 0x80 ∷ 0x80 ∷ 0x7f ∷ [])
unfolding reading
signed_numbers = ((refl, refl), (refl, refl), (refl, refl), (refl, refl), (refl, refl), (refl, refl), (refl, refl), (refl, refl), (refl, refl), (refl, refl))

padded_numbers :
    (unsigned (0x80 ∷ 0x80 ∷ 0x00 ∷ []) ≡ Ok 0)
    × (unsigned (0xff ∷ 0x80 ∷ 0x00 ∷ []) ≡ Ok 127)
    × (signed (0xff ∷ 0xff ∷ 0x7f ∷ []) ≡ Ok (negsuc 0))
unfolding reading
padded_numbers = (refl, refl, refl)

-- in four digits
abbrev IsPadded : ℕ → List ℕ → Type 0
IsPadded n bytes = (leb_digits false 4 n ≡ bytes) × (unsigned bytes ≡ Ok n)

four_digits :
    IsPadded 0 (0x80 ∷ 0x80 ∷ 0x80 ∷ 0x00 ∷ [])
    × IsPadded 0x35 (0xb5 ∷ 0x80 ∷ 0x80 ∷ 0x00 ∷ [])
    × IsPadded (2 ^ 28 - 1) (0xff ∷ 0xff ∷ 0xff ∷ 0x7f ∷ [])
unfolding reading
four_digits = ((refl, refl), (refl, refl), (refl, refl))

-- ---- faults at the first byte

abbrev fault : Kind → Fault
fault kind = record { kind = kind; section = parts.Info; place = 0 }

numbers_past_64_bits :
    (unsigned (0xff ∷ 0xff ∷ 0xff ∷ 0xff ∷ 0xff ∷ 0xff ∷ 0xff ∷ 0xff ∷ 0xff ∷ 0x02 ∷ []) ≡ Err (fault kinds.LebTooWide))
    × (signed (0x80 ∷ 0x80 ∷ 0x80 ∷ 0x80 ∷ 0x80 ∷ 0x80 ∷ 0x80 ∷ 0x80 ∷ 0x80 ∷ 0x01 ∷ []) ≡ Err (fault kinds.LebTooWide))
    × (signed (0xff ∷ 0xff ∷ 0xff ∷ 0xff ∷ 0xff ∷ 0xff ∷ 0xff ∷ 0xff ∷ 0xff ∷ 0x7e ∷ []) ≡ Err (fault kinds.LebTooWide))
unfolding reading
numbers_past_64_bits = (refl, refl, refl)

numbers_without_an_end :
    (unsigned [] ≡ Err (fault kinds.Truncated))
    × (unsigned (0x80 ∷ 0xff ∷ []) ≡ Err (fault kinds.Truncated))
    × (signed [] ≡ Err (fault kinds.Truncated))
    × (signed (0x80 ∷ 0xff ∷ []) ≡ Err (fault kinds.Truncated))
unfolding reading
numbers_without_an_end = (refl, refl, refl, refl)
