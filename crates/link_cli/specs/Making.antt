-- The files of a generated program, made one by one.
use Rattle.std.specs.Prelude.{◌≡◌, ◌+◌, ℕ, List, Result, IfOk}
use Rattle.ds_base.specs.declared.fault.NoMemory.{NoMemory}
use Rattle.sample_objects.specs.GeneratedProgram.{spec_of}
use Rattle.sample_objects.specs.ObjectFile.{object_bytes}

-- the file of the object at a place, which is counted from 0; want of memory says nothing
abbrev pub GivesFile : ℕ → Result (List ℕ) NoMemory → Type 0
GivesFile item out = IfOk out (λ file. file ≡ object_bytes (spec_of (item + 1)))
