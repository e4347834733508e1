-- LEB numbers as they are written are spelled so.
use Rattle.std.proofs.Common.{◌<◌, ◌^◌, ℕ, ℤ, false, IsTrue, arith}
use Rattle.ds_base.specs.Leb.{fits_i64, leb_digits, sleb, uleb}
use Rattle.ds_base.proofs.LebShortest.{digits_spelled, sleb_shortest, uleb_shortest}
use Rattle.ds_base.proofs.LebValues.{value-four_digits}
use Rattle.dwarf_types.specs.Spelled.{IsSleb, IsUleb}

pub is_uleb : (n : ℕ) → n < 2 ^ 64 → IsUleb (uleb n) n
is_uleb n lt = let w = uleb_shortest n lt in record { spelled = w.spelled; value = w.value; fits = lt }

pub is_sleb : (z : ℤ) → IsTrue (fits_i64 z) → IsSleb (sleb z) z
is_sleb z fits = let w = sleb_shortest z fits in record { spelled = w.spelled; value = w.value; fits = fits }

-- in four digits, as the place of a base type is written
pub is_leb : (n : ℕ) → n < 2 ^ 28 → IsUleb (leb_digits false 4 n) n
is_leb n lt = record { spelled = digits_spelled false 4 n (omega arith); value = value-four_digits n lt; fits = omega (arith, lt) }
