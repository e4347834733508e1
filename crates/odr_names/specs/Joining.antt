-- The names of each object, made by itself, and their rows behind one another.
use Rattle.std.specs.Prelude.{◌≡◌, ℕ, ◌+◌, ◌-◌, ◌^◌, ◌<◌, List, [], length, map, take, slice_get, Some}
use Rattle.odr_names.specs.declared.one_object.ObjectNames.{ObjectNames}
use Rattle.odr_names.specs.declared.path_book.Row.{Row}
use Rattle.odr_names.specs.Book.{AreRows, row_name}
use Rattle.odr_names.specs.Entering.{AreEntered}
use Rattle.type_names.specs.declared.pooled.TypeNames.{TypeNames}
use Rattle.type_names.specs.Heads.{Object}
use Rattle.type_names.specs.Names.{names}
use Rattle.type_names.specs.Pooled.{AreNames}

-- what is told of the names of object n, and its rows: those of its pooled entries, behind none
pub record AreNamesOf (n : ℕ) (o : Object) (own : ObjectNames) : Type 0 where
  pub told : AreNames o own.names
  pub few : length own.rows.items < 2 ^ 25
  pub entered : (objects : List Object) → slice_get objects (n - 1) ≡ Some o → AreEntered objects n o [] own.rows.items

-- those of each of the first n objects; objects are numbered from 1
pub record AreNamesTo (objects : List Object) (own : List ObjectNames) (n : ℕ) : Type 0 where
  pub len : length own ≡ n
  pub each : (i : ℕ) (o : Object) (one : ObjectNames) → slice_get objects i ≡ Some o → slice_get own i ≡ Some one → AreNamesOf (i + 1) o one

-- those of each object
abbrev pub AreAllNames : List Object → List ObjectNames → Type 0
AreAllNames objects own = AreNamesTo objects own (length objects)

-- ---- on the way

-- the names of the first i objects are joined
pub record AreJoinedTo (objects : List Object) (told : List TypeNames) (rows : List Row) (i : ℕ) : Type 0 where
  pub len : length told ≡ i
  pub each : (j : ℕ) (o : Object) (t : TypeNames) → slice_get objects j ≡ Some o → slice_get told j ≡ Some t → AreNames o t
  pub are_rows : AreRows objects rows
  pub names : map (row_name objects) rows ≡ names (take i objects)
