-- Texts that stand one behind the other, by their ends.
use Rattle.std.specs.Prelude.{◌≡◌, ℕ, zero, suc, ◌-◌, ◌≤◌, List, [], ◌∷◌, take, drop}

-- the texts that end at these places, the first of which begins at a place
abbrev pub texts_from : ℕ → List ℕ → List ℕ → List (List ℕ)
texts_from start [] bytes = []
texts_from start (end ∷ ends) bytes = take (end - start) (drop start bytes) ∷ texts_from end ends bytes

-- each end stands at or behind the one before, and the last is that of all bytes
abbrev pub AreEnds : ℕ → List ℕ → ℕ → Type 0
AreEnds start [] len = start ≡ len
AreEnds start (end ∷ ends) len = (start ≤ end) × AreEnds end ends len

-- where the text of a number begins
abbrev pub start_of : ℕ → List ℕ → ℕ → ℕ
start_of start ends zero = start
start_of start [] (suc number) = start
start_of start (end ∷ ends) (suc number) = start_of end ends number
