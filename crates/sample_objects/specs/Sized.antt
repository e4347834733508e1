-- Stations between the code and the definitions: parts with their sizes.
use Rattle.std.specs.Prelude.{ℕ, ◌==◌, not, Bool}
use Rattle.ds_base.specs.declared.fault.Part.{Part}

abbrev pub has_size : Part × ℕ → Bool
has_size s = not (s.1 == 0)
