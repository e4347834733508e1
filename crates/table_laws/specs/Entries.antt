-- What is entered in a table, and what is to be found there.
use Rattle.std.specs.Prelude.{◌≡◌, ◌<◌, ℕ, ◌^◌, Bool, false, List, map, Some}
use Rattle.std.specs.List.{filter}
use Rattle.std.specs.Option.{option_map_or}
use Rattle.std.specs.Str.{bytes_eq}
use Rattle.ds_base.specs.InOrder.{in_order}
use Rattle.ds_base.specs.Reading.{text_of}
use Rattle.accel_tables.specs.declared.rows.Row.{Row}
use Rattle.accel_tables.specs.Hash.{hash_of}

-- numbers by size, each once
abbrev pub rising : List ℕ → List ℕ
rising places = in_order (λ place. place) places

-- ---- rows

-- whether a name is the text at a place of a string section
abbrev pub is_spelled : List ℕ → List ℕ → ℕ → Bool
is_spelled strings name place = option_map_or (λ text. bytes_eq text name) (text_of strings place) false

-- The text of a row ends in the string section, and its hash is that of the text. Its places have four bytes, and its text doesn't stand at 0, which as a place ends a data list.
pub record IsRow (strings : List ℕ) (r : Row) : Type 0 where
  pub text : List ℕ
  pub spelled : text_of strings r.text ≡ Some text
  pub hashed : r.hash ≡ hash_of text
  pub some : 0 < r.text
  pub text_fits : r.text < 2 ^ 32
  pub entry_fits : r.entry < 2 ^ 32

-- where the entries of a name stand
abbrev pub places_of : List ℕ → List ℕ → List Row → List ℕ
places_of strings name rows = rising (map (λ r. r.entry) (filter (λ r. is_spelled strings name r.text) rows))

-- ---- names with the places of their entries

-- the row of a name and a place, by where the text of each name stands
abbrev pub row_under : (List ℕ → ℕ) → List ℕ × ℕ → Row
row_under text pair = record { hash = hash_of pair.0; text = text pair.0; entry = pair.1 }

-- the same of a name and a place
pub record IsPair (text : List ℕ → ℕ) (strings : List ℕ) (pair : List ℕ × ℕ) : Type 0 where
  pub spelled : text_of strings (text pair.0) ≡ Some pair.0
  pub some : 0 < text pair.0
  pub text_fits : text pair.0 < 2 ^ 32
  pub entry_fits : pair.1 < 2 ^ 32

-- the places under a name
abbrev pub places_under : List ℕ → List (List ℕ × ℕ) → List ℕ
places_under name pairs = rising (map (λ pair. pair.1) (filter (λ pair. bytes_eq pair.0 name) pairs))
