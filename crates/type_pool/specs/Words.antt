-- The words of a table, open or closed.
use Rattle.std.specs.Prelude.{ℕ, ◌+◌, ◌*◌, List, slice_index}

-- each cell has two words side by side: that of the name in it, and its least word
abbrev pub name_at : ℕ → ℕ
name_at cell = 2 * cell

abbrev pub least_at : ℕ → ℕ
least_at cell = 2 * cell + 1

abbrev pub name_word : List ℕ → ℕ → ℕ
name_word words cell = slice_index words (name_at cell)

abbrev pub least_word : List ℕ → ℕ → ℕ
least_word words cell = slice_index words (least_at cell)
