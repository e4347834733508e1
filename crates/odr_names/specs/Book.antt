-- The book of names: rows that each stand for a pooled entry and lead to the row above.
use Rattle.std.specs.Prelude.{◌≡◌, ◌↔◌, ℕ, ◌+◌, ◌-◌, ◌*◌, ◌^◌, ◌<◌, ◌≤◌, ◌==◌, Bool, List, [], ◌∷◌, ◌++◌, length, slice_get, Option, Some, None, is_some, if◌then◌else◌}
use Rattle.std.specs.List.Sorted.{IsNonDecreasingBy}
use Rattle.std.specs.Option.{ForSome, option_and_then, option_map_or}
use Rattle.dwarf_types.specs.declared.analysis.Analysis.{Analysis}
use Rattle.dwarf_types.specs.declared.entry.Entry.{Entry}
use Rattle.odr_names.specs.declared.path_book.Objects.{Objects}
use Rattle.odr_names.specs.declared.path_book.Row.{Row}
use Rattle.odr_names.specs.Innermost.{innermost}
use Rattle.odr_names.specs.Numbered.{objects_of}
use Rattle.odr_names.specs.Pieces.{IsSpelled}
use Rattle.type_names.specs.declared.pooled.TypeNames.{TypeNames}
use Rattle.type_names.specs.Entries.{is_declaration}
use Rattle.type_names.specs.Heads.{Object, entries_of}
use Rattle.type_names.specs.Names.{Named}
use Rattle.type_names.specs.Objects.{object_of}
use Rattle.type_names.specs.Paths.{Piece, ordinal_of, path_of, piece_of}
use Rattle.type_names.specs.Pooled.{AreNames}
use Rattle.type_names.specs.Start.{path_hash}
use Rattle.type_names.specs.Tree.{parent_of}

-- ---- objects

abbrev pub objects_in : Objects → List Object
objects_in os = objects_of os.seen.now os.live.now

-- what was told of each object's names
pub record AreTold (os : Objects) : Type 0 where
  pub live_len : length os.live.now ≡ length os.seen.now
  pub names_len : length os.names.items ≡ length os.seen.now
  pub each : (i : ℕ) (seen : Analysis) (live : List Bool) (names : TypeNames) → slice_get os.seen.now i ≡ Some seen → slice_get os.live.now i ≡ Some live → slice_get os.names.items i ≡ Some names → AreNames (object_of seen live) names

-- ---- rows

-- the number of the row of the entry above that of row x, where that is not the unit
abbrev pub row_above : ℕ → Row → Option ℕ
row_above x row = if row.up == 0 then None else Some (x - row.up)

-- the object of a row; objects are counted from 1
abbrev pub row_object : List Object → Row → Option Object
row_object objects row = slice_get objects (row.object - 1)

abbrev pub row_path : List Object → Row → List Piece
row_path objects row = option_map_or (λ o. path_of row.object o row.entry) (row_object objects row) []

abbrev pub row_parent : List Object → Row → Option ℕ
row_parent objects row = option_and_then (λ o. parent_of (entries_of o) row.entry) (row_object objects row)

abbrev pub row_piece : List Object → Row → Option Piece
row_piece objects row = option_and_then (λ o. piece_of row.object o row.entry) (row_object objects row)

abbrev pub row_bid : Row → ℕ
row_bid row = (if row.declared then 2 ^ 63 else 0) + row.object * 2 ^ 32 + row.entry

abbrev pub row_name : List Object → Row → Named
row_name objects row = record { object = row.object; entry = row.entry; parent = row_parent objects row; path = row_path objects row; bid = row_bid row }

abbrev pub path_in : List Object → List Row → ℕ → List Piece
path_in objects rows x = option_map_or (row_path objects) (slice_get rows x) []

abbrev pub path_above : List Object → List Row → Option ℕ → List Piece
path_above objects rows above = option_map_or (path_in objects rows) above []

-- the row stands for an entry of an object
pub record IsRowOf (objects : List Object) (row : Row) : Type 0 where
  pub object : Object
  pub entry : Entry
  pub its_object : row_object objects row ≡ Some object
  pub stands : slice_get (entries_of object) row.entry ≡ Some entry
  pub counted : (1 ≤ row.object) × (row.object < 2 ^ 16)
  pub few : row.entry < 2 ^ 24
  pub declared : row.declared ≡ is_declaration entry
  pub spelled : IsSpelled object row.entry
  pub ordinal : row.ordinal ≡ ordinal_of row.object object row.entry entry

-- row p is that of the parent of the entry of this row
abbrev pub IsRowOfParent : List Object → List Row → Row → ℕ → Type 0
IsRowOfParent objects rows row p = (up : Row) → slice_get rows p ≡ Some up → (up.object ≡ row.object) × (row_parent objects row ≡ Some up.entry)

-- its path is that of the row above, which stands before it and is that of its parent, and its piece
pub record IsLinked (objects : List Object) (rows : List Row) (x : ℕ) (row : Row) : Type 0 where
  pub piece : Piece
  pub its_piece : row_piece objects row ≡ Some piece
  pub before : row.up ≤ x
  pub above : ForSome (row_above x row) (IsRowOfParent objects rows row)
  pub path : row_path objects row ≡ path_above objects rows (row_above x row) ++ piece ∷ []
  pub hash : row.hash ≡ path_hash (row_path objects row)
  pub private : row.private ≡ is_some (innermost (row_path objects row))

pub record AreRows (objects : List Object) (rows : List Row) : Type 0 where
  pub of_entries : (x : ℕ) (row : Row) → slice_get rows x ≡ Some row → IsRowOf objects row
  pub linked : (x : ℕ) (row : Row) → slice_get rows x ≡ Some row → IsLinked objects rows x row

pub record IsBook (os : Objects) (rows : List Row) : Type 0 where
  pub told : AreTold os
  pub few_objects : length os.seen.now < 2 ^ 16
  pub few : length rows < 2 ^ 25
  pub are_rows : AreRows (objects_in os) rows
  -- rows stand in the order of their objects
  pub in_order : IsNonDecreasingBy (λ row. row.object) rows

-- rows a and b have one path where the rows that are left to compare have, which are above them
pub record Compared (objects : List Object) (rows : List Row) (a b : ℕ) (left right : Option ℕ) : Type 0 where
  pub left_in : ForSome left (λ x. x < length rows)
  pub right_in : ForSome right (λ y. y < length rows)
  pub same : (path_in objects rows a ≡ path_in objects rows b) ↔ (path_above objects rows left ≡ path_above objects rows right)
