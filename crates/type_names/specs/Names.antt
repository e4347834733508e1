-- The names of a link: the pooled entries of all objects with their paths and bids.
use Rattle.std.specs.Prelude.{ℕ, ◌+◌, ◌*◌, ◌^◌, List, Option, Some, None, if◌then◌else◌}
use Rattle.std.specs.List.{enumerate_from, filter_map, flat_map}
use Rattle.dwarf_types.specs.declared.entry.Entry.{Entry}
use Rattle.type_names.specs.Entries.{is_declaration}
use Rattle.type_names.specs.Heads.{Object, entries_of, is_pooled}
use Rattle.type_names.specs.Paths.{Piece, path_of}
use Rattle.type_names.specs.Tree.{parent_of}

-- a pooled entry: its object, its number, its parent's, its path, and its bid for being what the path stands for
pub record Named : Type 0 where
  pub object : ℕ
  pub entry : ℕ
  pub parent : Option ℕ
  pub path : List Piece
  pub bid : ℕ

-- a definition goes before a declaration, an earlier object before a later one, an earlier entry before a later one
abbrev pub bid_of : ℕ → ℕ → Entry → ℕ
bid_of n k e = (if is_declaration e then 2 ^ 63 else 0) + n * 2 ^ 32 + k

abbrev pub named_of : ℕ → Object → ℕ → Entry → Named
named_of n o k e = record { object = n; entry = k; parent = parent_of (entries_of o) k; path = path_of n o k; bid = bid_of n k e }

-- the pooled entries of an object, in order
abbrev pub names_in : ℕ → Object → List Named
names_in n o = filter_map (λ e. if is_pooled o e.0 then Some (named_of n o e.0 e.1) else None) (enumerate_from 0 (entries_of o))

-- those of all objects, which are numbered from 1
abbrev pub names : List Object → List Named
names objects = flat_map (λ o. names_in o.0 o.1) (enumerate_from 1 objects)
