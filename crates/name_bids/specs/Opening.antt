-- A table that is open for the names of a book.
use Rattle.std.specs.Prelude.{◌≡◌, List, length}
use Rattle.type_names.specs.Names.{Named}
use Rattle.name_bids.specs.declared.opening.OpenTable.{OpenTable}

-- the table is for as many names as these
abbrev pub IsOpenFor : List Named → OpenTable → Type 0
IsOpenFor names table = table.pool.names ≡ length names
