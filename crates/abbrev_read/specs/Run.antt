-- How the codes so far are kept, so that one which stands twice is found at once. No meaning is said here.
use Rattle.std.specs.Prelude.{ℕ, ◌&&◌, ◌||◌, Bool, nat_le, nat_lt}
use Rattle.std.specs.Ordering.{nat_cmp}
use Rattle.std.specs.BTreeSet.{contains}
use Rattle.abbrev_read.specs.declared.codes.Codes.{Codes}

-- the codes seen have this one: it is in the run from 1, or stands apart
abbrev pub has_code : Codes → ℕ → Bool
has_code codes code = (nat_lt 0 code && nat_le code codes.run) || contains nat_cmp codes.apart code
