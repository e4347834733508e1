-- Data lists as they are written: the hash of each, and where each begins.
use Rattle.std.specs.Prelude.{◌≡◌, ℕ, List, map}
use Rattle.std.specs.List.{flat_map}
use Rattle.accel_tables.specs.declared.rows.Row.{Row}
use Rattle.accel_tables.specs.Table.{key_of, list_bytes, starts_from}

-- of the rows of each hash
pub record AreLists (rows : List (List Row)) (hashes starts bytes : List ℕ) : Type 0 where
  pub hashes_are : hashes ≡ map (key_of (λ r. r.hash)) rows
  pub starts_are : starts ≡ starts_from 0 (map list_bytes rows)
  pub data_is : bytes ≡ flat_map list_bytes rows
