-- The pooled entries of an object, entered into the book.
use Rattle.std.specs.Prelude.{◌≡◌, ℕ, ◌+◌, ◌-◌, ◌<◌, ◌≤◌, ◌==◌, ◌||◌, Bool, true, false, List, [], ◌∷◌, ◌++◌, length, map, take, slice_get, slice_index_or, Option, Some, None, is_some, if◌then◌else◌}
use Rattle.std.specs.List.{enumerate_from, filter_map}
use Rattle.std.specs.Option.{option_map_or}
use Rattle.dwarf_types.specs.declared.entry.Entry.{Entry}
use Rattle.odr_names.specs.declared.path_book.Row.{Row}
use Rattle.odr_names.specs.Book.{AreRows, path_in, row_name}
use Rattle.type_names.specs.Entries.{is_declaration}
use Rattle.type_names.specs.Heads.{Object, entries_of, is_live, is_pooled}
use Rattle.type_names.specs.Tree.{parent_of}
use Rattle.type_names.specs.Names.{Named, named_of, names_in}
use Rattle.type_names.specs.Paths.{Piece, ordinal_of, parts_of, path_of}
use Rattle.type_names.specs.Start.{hash_from, piece_bytes}

-- the hash of the path of the row above, or of no path
abbrev pub hash_above : List Row → Option ℕ → ℕ
hash_above rows parent = option_map_or (λ p. option_map_or (λ row. row.hash) (slice_get rows p) 0) parent 0

-- whether the path of the row above has a piece that only its own object and entry tell apart
abbrev pub private_above : List Row → Option ℕ → Bool
private_above rows parent = option_map_or (λ p. option_map_or (λ row. row.private) (slice_get rows p) false) parent false

abbrev pub piece_at : ℕ → Object → ℕ → Entry → Piece
piece_at n o k e = record { parts = parts_of n o k e; ordinal = ordinal_of n o k e }

-- how many rows before row x that of its parent stands, or 0
abbrev pub rows_up : ℕ → Option ℕ → ℕ
rows_up x parent = option_map_or (λ p. x - p) parent 0

-- the row of entry k of object n behind these rows, one of which is that of its parent, if it has one
abbrev pub new_row : ℕ → Object → ℕ → Entry → List Row → Option ℕ → Row
new_row n o k e rows parent = record {
  hash = hash_from (hash_above rows parent) (piece_bytes (piece_at n o k e));
  entry = k;
  ordinal = ordinal_of n o k e;
  up = rows_up (length rows) parent;
  object = n;
  declared = is_declaration e;
  private = is_some (piece_at n o k e).parts.private || private_above rows parent;
}

-- a pooled entry has one row more, and others have none
abbrev pub IsEntered : Bool → Row → List Row → List Row → Option ℕ → Type 0
IsEntered true row old new number = (number ≡ Some (length old)) × (new ≡ old ++ row ∷ [])
IsEntered false row old new number = (number ≡ None) × (new ≡ old)

-- entry k of object n is entered
abbrev pub Enters : ℕ → Object → ℕ → Entry → Option ℕ → List Row → List Row → Option ℕ → Type 0
Enters n o k e parent old new number = IsEntered (is_pooled o k) (new_row n o k e old parent) old new number

-- the names of the pooled ones of the first k entries
abbrev pub names_to : ℕ → Object → ℕ → List Named
names_to n o k = filter_map (λ e. if is_pooled o e.0 then Some (named_of n o e.0 e.1) else None) (enumerate_from 0 (take k (entries_of o)))

-- row x is that of entry k of object n
abbrev pub IsRowOfEntry : ℕ → ℕ → List Row → ℕ → Type 0
IsRowOfEntry n k rows x = (row : Row) → slice_get rows x ≡ Some row → (row.object ≡ n) × (row.entry ≡ k)

-- the first k entries are entered, and the number of each pooled one is known
pub record IsEnteredTo (objects : List Object) (n : ℕ) (o : Object) (before rows : List Row) (numbers : List (Option ℕ)) (k : ℕ) : Type 0 where
  pub are_rows : AreRows objects rows
  pub names : map (row_name objects) rows ≡ map (row_name objects) before ++ names_to n o k
  pub len : length numbers ≡ k
  pub some : (j : ℕ) → j < k → is_pooled o j ≡ true → (x : ℕ) × (slice_index_or numbers j None ≡ Some x) × (x < length rows) × (path_in objects rows x ≡ path_of n o j) × IsRowOfEntry n j rows x
  pub none : (j : ℕ) → j < k → is_pooled o j ≡ false → slice_index_or numbers j None ≡ None

-- the parents of live entries are live
abbrev pub AreLiveParents : Object → Type 0
AreLiveParents o = (k p : ℕ) → is_live o k ≡ true → parent_of (entries_of o) k ≡ Some p → is_live o p ≡ true

-- the rows of the pooled entries of object n stand behind those before
pub record AreEntered (objects : List Object) (n : ℕ) (o : Object) (before rows : List Row) : Type 0 where
  pub are_rows : AreRows objects rows
  pub names : map (row_name objects) rows ≡ map (row_name objects) before ++ names_in n o

-- the first k entries are entered, whatever the objects are among which this one stands
pub record IsEntering (n : ℕ) (o : Object) (before rows : List Row) (numbers : List (Option ℕ)) (k : ℕ) : Type 0 where
  pub few : length rows ≤ length before + k
  pub len : length numbers ≡ k
  pub bounded : (j x : ℕ) → slice_index_or numbers j None ≡ Some x → x < length rows
  pub state : (objects : List Object) → slice_get objects (n - 1) ≡ Some o → AreRows objects before → IsEnteredTo objects n o before rows numbers k

-- the number of a row of which this is held: one more than it, or 0 for none
abbrev pub number_held : ℕ → Option ℕ
number_held n = if n == 0 then None else Some (n - 1)
