-- The words of a closed table side by side, and what contracts see of them.
use Rattle.std.proofs.Common.{◌≡◌, ℕ, zero, suc, ◌*◌, ◌^◌, ◌<◌, ◌≤◌, List, [], ◌∷◌, length, get_or, refl, sym, ap, ◌∙◌, arith}
use Rattle.std.proofs.lemmas.List.{get_or_past}
use mathlib.Core.Option.{some}
use lib.ListN.{get_elem?}
use Rattle.type_pool.specs.declared.view.View.{View}
use Rattle.type_pool.specs.declared.rule.Size.{Size}
use Rattle.type_pool.specs.Keeping.{Keeps}
use Rattle.type_pool.specs.Words.{least_at, least_word, name_at, name_word}
use Rattle.type_pool.specs.Ends.{Closes}
use Rattle.type_pool.specs.ClosedWords.{AreOfTable, ClosedTable, least_words, name_words, state_of}
use Rattle.type_pool.proofs.Bounds.{closes}

-- the words of a cell are those of both lists at its place
pub name_words_at : (words : List ℕ) (cell : ℕ) → get_or (name_words words) cell 0 ≡ name_word words cell
name_words_at [] cell = refl
name_words_at (name ∷ []) zero = refl
name_words_at (name ∷ []) (suc cell) = sym (get_or_past (name ∷ []) (name_at (suc cell)) 0 (omega arith))
name_words_at (name ∷ least ∷ words) zero = refl
name_words_at (name ∷ least ∷ words) (suc cell) =
    let at : suc (suc (name_at cell)) ≡ name_at (suc cell) = omega arith in
    name_words_at words cell ∙ ap (λ (i : ℕ). get_or (name ∷ least ∷ words) i 0) at

pub least_words_at : (words : List ℕ) (cell : ℕ) → get_or (least_words words) cell 0 ≡ least_word words cell
least_words_at [] cell = refl
least_words_at (name ∷ []) cell = sym (get_or_past (name ∷ []) (least_at cell) 0 (omega arith))
least_words_at (name ∷ least ∷ words) zero = refl
least_words_at (name ∷ least ∷ words) (suc cell) =
    let at : suc (suc (least_at cell)) ≡ least_at (suc cell) = omega arith in
    least_words_at words cell ∙ ap (λ (i : ℕ). get_or (name ∷ least ∷ words) i 0) at

pub length-name_words : (words : List ℕ) (cells : ℕ) → length words ≡ 2 * cells → length (name_words words) ≡ cells
length-name_words [] cells wide = omega arith
length-name_words (name ∷ []) cells wide = absurd (omega arith)
length-name_words (name ∷ least ∷ words) zero wide = absurd (omega arith)
length-name_words (name ∷ least ∷ words) (suc cells) wide = let rest = length-name_words words cells (omega arith) in omega arith

pub length-least_words : (words : List ℕ) (cells : ℕ) → length words ≡ 2 * cells → length (least_words words) ≡ cells
length-least_words [] cells wide = omega arith
length-least_words (name ∷ []) cells wide = absurd (omega arith)
length-least_words (name ∷ least ∷ words) zero wide = absurd (omega arith)
length-least_words (name ∷ least ∷ words) (suc cells) wide = let rest = length-least_words words cells (omega arith) in omega arith

-- a cell of those that are seen
pub cell_inside : (cells names : ℕ) (words : List ℕ) (cell : ℕ) (seen : ClosedTable) → AreOfTable cells names words → record { state = state_of words; cells = cells; names = names } ≡ seen → cell < length seen.state.cells → cell < cells
cell_inside cells names words cell seen of is inside =
    let long = length-name_words words cells of.wide in
    let same : length (name_words words) ≡ length seen.state.cells = ap (λ (t : ClosedTable). length t.state.cells) is in
    omega arith

-- the words of a table that was closed
pub are_of_table : (k : Size) (words : List ℕ) (views : List View) (cells names : ℕ) → Keeps k words views → k.cells ≡ cells → k.names ≡ names → (64 ≤ cells) × (cells ≤ 2 ^ 24) → names < 2 ^ 32 → AreOfTable cells names words
are_of_table k words views cells names rule cells_are names_are ample small =
    let wide = rule.wide in
    record {
      wide = omega arith;
      ample = ample;
      small = small;
      named = λ cell inside. (let most = rule.named cell (omega arith) in omega arith);
    }

-- as the seat with every share closed it
pub closes_words : (k : Size) (words : List ℕ) (views : List View) (id : ℕ) (v : View) → Keeps k words views → get_elem? views id ≡ some v → v.share ≡ 64 → Closes k.cells v (state_of words)
closes_words k words views id v rule at whole =
    closes k words views id v (state_of words) rule at whole (length-name_words words k.cells rule.wide) (length-least_words words k.cells rule.wide)
    (λ cell inside. name_words_at words cell) (λ cell inside. least_words_at words cell)
