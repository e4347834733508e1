-- The message of a batch's program.
use Rattle.std.specs.Prelude.{ℕ, List, [], ◌∷◌, ◌++◌, codes, decimal}
use Rattle.link_status.specs.declared.status.Status.{Status}
use Rattle.link_status.specs.Codes.{code_of}

-- its last line: `batch: `, its name, and its status' code
abbrev pub code_line : List ℕ → Status → List ℕ
code_line exe status = codes "batch: " ++ (exe ++ (0x20 ∷ (decimal (code_of status) ++ 0x0a ∷ [])))
