-- Words that name files.
use Rattle.std.specs.Prelude.{ℕ, Bool, not, ◌&&◌, List, [], codes}
use Rattle.std.specs.Str.{bytes_eq}
use Rattle.link_status.specs.Names.{last_part}

-- a path that names a file: its last part is not empty and not that of a folder
abbrev pub names_file : List ℕ → Bool
names_file path = not (bytes_eq (last_part path) []) && not (bytes_eq (last_part path) (codes ".")) && not (bytes_eq (last_part path) (codes ".."))
