-- What holds of the table between any two steps: of its words and of what all seats know.
use Rattle.std.specs.Prelude.{◌≡◌, ℕ, ◌+◌, ◌*◌, ◌<◌, ◌≤◌, ◌==◌, List, [], ◌∷◌, length, if◌then◌else◌, replicate, slice_index}
use Rattle.std.specs.List.{sum_by}
use mathlib.Core.Option.{some}
use lib.ListN.{get_elem?}
use Rattle.atomic_table.specs.Table.{State}
use Rattle.pool_core.specs.declared.state.Step.{Step}
use Rattle.pool_core.specs.declared.state.Step.TheVariants.{Intern, Lower}
use Rattle.pool_core.specs.Machine.{cells_run, IsLeast, least_run}
use Rattle.type_pool.specs.declared.view.View.{View}
use Rattle.type_pool.specs.declared.rule.Size.{Size}
use Rattle.type_pool.specs.Pairs.{Has, times}
use Rattle.type_pool.specs.Standing.{no_bid}
use Rattle.type_pool.specs.Views.{all_shares}
use Rattle.type_pool.specs.Words.{least_word, name_word}

-- the words of a table at which nobody stepped
pub record AreEmpty (cells : ℕ) (words : List ℕ) : Type 0 where
  pub wide : length words ≡ 2 * cells
  pub names : (cell : ℕ) → cell < cells → name_word words cell ≡ 0
  pub least : (cell : ℕ) → cell < cells → least_word words cell ≡ no_bid

-- some seat bid the number at the cell
abbrev pub IsBid : List View → ℕ → ℕ → Type 0
IsBid views cell number = (id : ℕ) × (v : View) × (get_elem? views id ≡ some v) × Has v.bids cell number

-- 1 where the word is that of the name, else 0
abbrev pub is_word_of : ℕ → ℕ → ℕ
is_word_of name word = if word == name + 1 then 1 else 0

-- of one seat: without a share it knows nothing; each name that it noted stands in its cell; it bid at cells that it noted
pub record Fits (cells : ℕ) (words : List ℕ) (v : View) : Type 0 where
  pub idle : v.share ≡ 0 → (v.notes ≡ []) × (v.puts ≡ []) × (v.bids ≡ [])
  pub notes : (cell name : ℕ) → Has v.notes cell name → (cell < cells) × (name_word words cell ≡ name + 1)
  pub bids : (cell number : ℕ) → Has v.bids cell number → (name : ℕ) × Has v.notes cell name

-- the names that steps bring to cells, and the numbers
abbrev pub puts_of : List Step → List (ℕ × ℕ)
puts_of [] = []
puts_of (Intern seat cell name ∷ steps) = (cell, name) ∷ puts_of steps
puts_of (Lower seat cell number ∷ steps) = puts_of steps

abbrev pub bids_of : List Step → List (ℕ × ℕ)
bids_of [] = []
bids_of (Intern seat cell name ∷ steps) = bids_of steps
bids_of (Lower seat cell number ∷ steps) = (cell, number) ∷ bids_of steps

-- the words are what a list of the plain machine's steps makes of empty cells: exactly what all seats put and bid, each once
pub record IsPlayed (cells : ℕ) (words : List ℕ) (views : List View) : Type 0 where
  pub steps : List Step
  pub names : (cell : ℕ) → cell < cells → name_word words cell ≡ slice_index (cells_run (replicate cells 0) steps) cell
  pub least : (cell : ℕ) → cell < cells → least_word words cell ≡ slice_index (least_run (replicate cells no_bid) steps) cell
  pub puts : (cell name : ℕ) → times cell name (puts_of steps) ≡ sum_by (λ v. times cell name v.puts) views
  pub bids : (cell number : ℕ) → times cell number (bids_of steps) ≡ sum_by (λ v. times cell number v.bids) views

pub record Keeps (k : Size) (words : List ℕ) (views : List View) : Type 0 where
  pub wide : length words ≡ 2 * k.cells
  pub shares : sum_by (λ v. v.share) views ≡ all_shares
  pub each : (id : ℕ) (v : View) → get_elem? views id ≡ some v → Fits k.cells words v
  -- a cell is empty, or holds a name of the book
  pub named : (cell : ℕ) → cell < k.cells → name_word words cell ≤ k.names
  -- a least word is the least of all numbers that were bid there
  pub least : (cell : ℕ) → cell < k.cells → IsLeast no_bid (IsBid views cell) (least_word words cell)
  pub played : IsPlayed k.cells words views
  -- the filled cells with their names are what all seats put, each once
  pub puts : (cell name : ℕ) → sum_by (λ v. times cell name v.puts) views ≡ is_word_of name (name_word words cell)

abbrev pub Kept : Size → State (Unit {0}) View → Type 0
Kept k s = Keeps k s.words s.views
