-- Which codes a table has declared.
use Rattle.std.specs.Prelude.{ℕ, Bool, List, nat_eq}
use Rattle.std.specs.List.{list_any}
use Rattle.dwarf_types.specs.declared.abbrev.Abbrev.{Abbrev}

-- some declaration has the code
abbrev pub is_declared : ℕ → List Abbrev → Bool
is_declared code table = list_any (λ a. nat_eq a.code code) table
