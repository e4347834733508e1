-- Stations between the code and the definitions: the sequences of a line table by their sizes.
use Rattle.std.specs.Prelude.{ℕ, ◌+◌, List, [], ◌∷◌}

-- where the operands of sequences of these sizes stand, the first of which stands at a place
abbrev pub places_by : ℕ → List ℕ → List ℕ
places_by at [] = []
places_by at (n ∷ sizes) = (at + 3) ∷ places_by (at + n) sizes
