-- Numbers in a header (ar.h): decimal digits, padded with spaces.
use Rattle.std.specs.Prelude.{ℕ, ◌+◌, ◌-◌, ◌*◌, ◌==◌, ◌&&◌, not, Bool, List, take, drop, Option, Some, None, if◌then◌else◌}
use Rattle.std.specs.List.{fold, list_all, prefix_len}
use Rattle.std.specs.Char.{is_ascii_digit}

abbrev pub are_spaces : List ℕ → Bool
are_spaces bytes = list_all (λ b. b == 32) bytes

-- the number that decimal digits spell, the highest first
abbrev pub decimal : List ℕ → ℕ
decimal digits = fold (λ number digit. 10 * number + (digit - 48)) 0 digits

-- how many digits a field begins with
abbrev pub digit_count : List ℕ → ℕ
digit_count field = prefix_len is_ascii_digit field

-- the number of a field: it begins with a digit, and behind its digits are spaces alone
unfoldable pub number_of : List ℕ → Option ℕ
number_of field =
    if not (digit_count field == 0) && are_spaces (drop (digit_count field) field) then Some (decimal (take (digit_count field) field)) else None
