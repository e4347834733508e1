-- A station between the code and the definitions: declarations are kept as keys, by which they are looked up.
use Rattle.std.specs.Prelude.{ℕ, suc, List, [], ◌∷◌, map, Option, Some, None, if◌then◌else◌}
use Rattle.std.specs.Option.{option_map}
use Rattle.dwarf_types.specs.declared.abbrev.Declaration.{Declaration}
use Rattle.dwarf_types.specs.Abbreviations.{same_declaration}
use Rattle.abbrev_write.specs.declared.key.Key.{Key}

-- the declaration of a key
abbrev pub declared_by : Key → Declaration
declared_by key = record { tag = key.tag; children = key.children; attributes = key.attributes.items }

-- those of keys
abbrev pub all_declared : List Key → List Declaration
all_declared keys = map declared_by keys

-- the code of a declaration that is one of some
abbrev pub code_among : List Declaration → Declaration → Option ℕ
code_among [] d = None
code_among (x ∷ xs) d = if same_declaration x d then Some 1 else option_map suc (code_among xs d)
