-- Lists behind the header of their section.
use Rattle.std.proofs.Common.{◌≡◌, ◌≢◌, ◌==◌, ℕ, ◌+◌, Bool, true, false, List, [], ◌++◌, length, if◌then◌else◌, refl, arith, length-append}
use Rattle.dwarf_types.specs.Lists.{behind_header, lists_header}

abbrev behind : Bool → List ℕ → List ℕ
behind none lists = if none then [] else lists_header (length lists) ++ lists

some_by : (none : Bool) (lists : List ℕ) → length (behind none lists) ≢ 0 → (behind none lists ≡ lists_header (length lists) ++ lists) × (length (behind none lists) ≡ 12 + length lists)
some_by true lists some = absurd (some refl)
some_by false lists some = (refl, omega (arith, length-append (lists_header (length lists)) lists))

-- where there are bytes, there are lists
pub some_lists : (lists : List ℕ) → length (behind_header lists) ≢ 0 → (behind_header lists ≡ lists_header (length lists) ++ lists) × (length (behind_header lists) ≡ 12 + length lists)
some_lists lists = some_by (length lists == 0) lists
