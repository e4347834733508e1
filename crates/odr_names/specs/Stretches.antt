-- Where the names of an object stand in a book: together, behind those of earlier objects.
use Rattle.std.specs.Prelude.{ℕ, ◌-◌, ◌<◌, ◌≤◌, List, length, slice_get}
use Rattle.std.specs.Option.{option_map_or}
use Rattle.odr_names.specs.declared.path_book.Row.{Row}
use Rattle.type_names.specs.Names.{Named}

-- the object of a name
abbrev pub object_at : List Named → ℕ → ℕ
object_at names x = option_map_or (λ name. name.object) (slice_get names x) 0

-- the object of the last row, or 0
abbrev pub last_object : List Row → ℕ
last_object rows = option_map_or (λ row. row.object) (slice_get rows (length rows - 1)) 0

-- each name is of one of so many objects, which are counted from 1
abbrev pub AreOfObjects : List Named → ℕ → Type 0
AreOfObjects names count = (x : ℕ) → x < length names → (1 ≤ object_at names x) × (object_at names x ≤ count)

-- the names before this one are of objects before that of the number, and no others are
pub record IsFirstOf (names : List Named) (object first : ℕ) : Type 0 where
  pub within : first ≤ length names
  pub before : (x : ℕ) → x < first → object_at names x < object
  pub behind : (x : ℕ) → first ≤ x → x < length names → object ≤ object_at names x
