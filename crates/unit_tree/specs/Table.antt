-- How abbreviation tables are kept, so that a declaration is found by its code at once. No meaning is said here.
use Rattle.std.specs.Prelude.{◌≡◌, ◌<◌, ◌≤◌, ◌+◌, ◌==◌, ℕ, List, length, drop, slice_index_or, Option, Some, Result, Ok}
use Rattle.std.specs.List.{position_from}
use Rattle.std.specs.BTreeMap.{BTreeMap, get}
use Rattle.std.specs.Ordering.{nat_cmp}
use Rattle.ds_base.specs.declared.fault.Fault.{Fault}
use Rattle.ds_base.specs.Reading.{◌>>=◌}
use Rattle.dwarf_types.specs.declared.abbrev.Abbrev.{Abbrev}
use Rattle.abbrev_read.specs.Reading.{table_at}

-- so many declarations have the codes 1, 2, 3 and so on
pub record IsRun (table : List Abbrev) (run : ℕ) : Type 0 where
  pub fits : run ≤ length table
  pub codes : (i : ℕ) (d : Abbrev) → i < run → (slice_index_or table i d).code ≡ i + 1

-- the map has the first place of each code behind those
abbrev pub AreApart : List Abbrev → ℕ → BTreeMap ℕ ℕ → Type 0
AreApart table run apart = (code : ℕ) → get nat_cmp apart code ≡ position_from (λ a. a.code == code) run (drop run table)

-- each table that is kept stands at its place of the section
abbrev pub AreRead : List ℕ → BTreeMap ℕ (List Abbrev) → Type 0
AreRead bytes tables = (offset : ℕ) (table : List Abbrev) → get nat_cmp tables offset ≡ Some table → table_at bytes offset ≡ Ok table

-- what a look-up finds once the table was read
abbrev pub found_at : List ℕ → ℕ → Result (Option (List Abbrev)) Fault
found_at bytes offset = table_at bytes offset >>= λ table. Ok (Some table)
