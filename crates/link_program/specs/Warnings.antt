-- What is told of an object whose file is let go.
use Rattle.std.specs.Prelude.{ℕ, List, ◌++◌, codes}
use Rattle.stab_map.specs.declared.object.MapObject.{MapObject}
use Rattle.link_status.specs.StatusText.{line}

-- its line
abbrev pub warning : MapObject → List ℕ
warning object = line (codes "warning: missing: " ++ object.path)
