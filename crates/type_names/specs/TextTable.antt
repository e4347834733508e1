-- Texts of entries, held one behind the other.
use Rattle.std.specs.Prelude.{◌≡◌, ℕ, ◌-◌, ◌<◌, ◌≤◌, ◌==◌, List, length, take, drop, slice_index_or, Option, Some, None, if◌then◌else◌}
use Rattle.std.specs.List.{All}
use Rattle.type_names.specs.Entries.{Text}

-- where text i begins: where the one before ends, the first at 0
abbrev pub begin_of : List ℕ → ℕ → ℕ
begin_of ends i = if i == 0 then 0 else slice_index_or ends (i - 1) 0

abbrev pub end_of : List ℕ → ℕ → ℕ
end_of ends i = slice_index_or ends i 0

abbrev pub text_of : List ℕ → List ℕ → ℕ → Text
text_of bytes ends i = take (end_of ends i - begin_of ends i) (drop (begin_of ends i) bytes)

-- the text of a number that is counted from 1; 0 is that of none
abbrev pub text_numbered : List ℕ → List ℕ → ℕ → Option Text
text_numbered bytes ends n = if n == 0 then None else Some (text_of bytes ends (n - 1))

-- each text stands among so many bytes, and the last ends with them
pub record AreEnds (len : ℕ) (ends : List ℕ) : Type 0 where
  pub inside : (i : ℕ) → i < length ends → (begin_of ends i ≤ end_of ends i) × (end_of ends i ≤ len)
  pub last : begin_of ends (length ends) ≡ len

-- each number is that of a text or of none, and there are no more texts than numbers
pub record AreHeld (bytes ends numbers : List ℕ) : Type 0 where
  pub are_ends : AreEnds (length bytes) ends
  pub each : All (λ n. n ≤ length ends) numbers
  pub few : length ends ≤ length numbers

-- the texts of the first i entries
pub record AreTexts (texts : List (Option Text)) (told : ℕ → Option Text) (i : ℕ) : Type 0 where
  pub len : length texts ≡ i
  pub each : (k : ℕ) → k < i → slice_index_or texts k None ≡ told k
