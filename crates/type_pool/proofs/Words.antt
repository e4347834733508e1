-- The words of a cell, where one word changes, and what the plain machine makes of it.
use Rattle.std.proofs.Common.{◌≡◌, ◌≢◌, ℕ, eqb, cond, ◌+◌, ◌<◌, min, List, [], ◌∷◌, ◌++◌, length, get_or, set, replicate, sym, refl, ap, ◌∙◌, subst, arith, get_or-set_other, get_or-set_same, eq-eqb, ne_eqb}
use Rattle.std.proofs.lemmas.List.{length-replicate}
use mathlib.Core.Logic.{dite}
use native.Mathlib.Decide.{ℕ_discrete}
use Rattle.pool_core.specs.declared.state.Step.{Step}
use Rattle.pool_core.specs.declared.state.Step.TheVariants.{Intern, Lower}
use Rattle.pool_core.specs.Machine.{cells_after, cells_run, least_after, least_run}
use Rattle.pool_core.proofs.Runs.{length-cells_after, length-least_after}
use Rattle.type_pool.specs.declared.view.View.{View}
use Rattle.type_pool.specs.Pairs.{times}
use Rattle.std.specs.List.{sum_by}
use Rattle.type_pool.specs.Keeping.{bids_of, IsPlayed, is_word_of, puts_of}
use Rattle.type_pool.specs.Words.{least_at, least_word, name_at, name_word}
use Rattle.type_pool.specs.Standing.{no_bid}

-- a name's word and a least word are different ones, and so are those of two cells
pub name_here : (words : List ℕ) (cell word : ℕ) → name_at cell < length words → name_word (set words (name_at cell) word) cell ≡ word
name_here words cell word inside = get_or-set_same words (name_at cell) word 0 inside

pub name_else : (words : List ℕ) (cell other word : ℕ) → other ≢ cell → name_word (set words (name_at cell) word) other ≡ name_word words other
name_else words cell other word off = let apart : name_at other ≢ name_at cell = λ same. off (omega arith) in get_or-set_other words (name_at cell) (name_at other) word 0 apart

pub least_stays : (words : List ℕ) (cell other word : ℕ) → least_word (set words (name_at cell) word) other ≡ least_word words other
least_stays words cell other word = let apart : least_at other ≢ name_at cell = λ same. omega arith in get_or-set_other words (name_at cell) (least_at other) word 0 apart

pub least_here : (words : List ℕ) (cell word : ℕ) → least_at cell < length words → least_word (set words (least_at cell) word) cell ≡ word
least_here words cell word inside = get_or-set_same words (least_at cell) word 0 inside

pub least_else : (words : List ℕ) (cell other word : ℕ) → other ≢ cell → least_word (set words (least_at cell) word) other ≡ least_word words other
least_else words cell other word off = let apart : least_at other ≢ least_at cell = λ same. off (omega arith) in get_or-set_other words (least_at cell) (least_at other) word 0 apart

pub name_stays : (words : List ℕ) (cell other word : ℕ) → name_word (set words (least_at cell) word) other ≡ name_word words other
name_stays words cell other word = let apart : name_at other ≢ least_at cell = λ same. omega arith in get_or-set_other words (least_at cell) (name_at other) word 0 apart

-- a step more, at the end of a run
pub cells_run-push : (cells : List ℕ) (steps : List Step) (next : Step) → cells_run cells (steps ++ next ∷ []) ≡ cells_after (cells_run cells steps) next
cells_run-push cells [] next = refl
cells_run-push cells (step ∷ steps) next = cells_run-push (cells_after cells step) steps next

pub least_run-push : (least : List ℕ) (steps : List Step) (next : Step) → least_run least (steps ++ next ∷ []) ≡ least_after (least_run least steps) next
least_run-push least [] next = refl
least_run-push least (step ∷ steps) next = least_run-push (least_after least step) steps next

pub length-cells_run : (cells : List ℕ) (steps : List Step) → length (cells_run cells steps) ≡ length cells
length-cells_run cells [] = refl
length-cells_run cells (step ∷ steps) = length-cells_run (cells_after cells step) steps ∙ length-cells_after cells step

pub length-least_run : (least : List ℕ) (steps : List Step) → length (least_run least steps) ≡ length least
length-least_run least [] = refl
length-least_run least (step ∷ steps) = length-least_run (least_after least step) steps ∙ length-least_after least step

-- what one step more brings
pub times-puts_push : (a b : ℕ) (steps more : List Step) → times a b (puts_of (steps ++ more)) ≡ times a b (puts_of steps) + times a b (puts_of more)
times-puts_push a b [] more = omega arith
times-puts_push a b (Intern seat cell name ∷ steps) more = let rest = times-puts_push a b steps more in omega arith
times-puts_push a b (Lower seat cell number ∷ steps) more = times-puts_push a b steps more

pub times-bids_push : (a b : ℕ) (steps more : List Step) → times a b (bids_of (steps ++ more)) ≡ times a b (bids_of steps) + times a b (bids_of more)
times-bids_push a b [] more = omega arith
times-bids_push a b (Intern seat cell name ∷ steps) more = times-bids_push a b steps more
times-bids_push a b (Lower seat cell number ∷ steps) more = let rest = times-bids_push a b steps more in omega arith

abbrev pub puts_total : List View → ℕ → ℕ → ℕ
puts_total views a b = sum_by (λ (v : View). times a b v.puts) views

abbrev pub bids_total : List View → ℕ → ℕ → ℕ
bids_total views a b = sum_by (λ (v : View). times a b v.bids) views

-- seats that together put and bid the same
pub played_as : (cells : ℕ) (words : List ℕ) (views after : List View) → ((a b : ℕ) → puts_total after a b ≡ puts_total views a b) → ((a b : ℕ) → bids_total after a b ≡ bids_total views a b)
    → IsPlayed cells words views → IsPlayed cells words after
played_as cells words views after puts bids played = record {
  steps = played.steps;
  names = played.names;
  least = played.least;
  puts = λ a b. played.puts a b ∙ sym (puts a b);
  bids = λ a b. played.bids a b ∙ sym (bids a b);
}

-- a name in an empty cell is one step of the plain machine
pub played_name : (cells : ℕ) (words : List ℕ) (views after : List View) (id cell name : ℕ) → cell < cells → name_at cell < length words → name_word words cell ≡ 0
    → ((a b : ℕ) → puts_total after a b ≡ puts_total views a b + times a b ((cell, name) ∷ [])) → ((a b : ℕ) → bids_total after a b ≡ bids_total views a b)
    → IsPlayed cells words views → IsPlayed cells (set words (name_at cell) (name + 1)) after
played_name cells words views after id cell name inside within empty puts bids played =
    let start : List ℕ = replicate cells 0 in
    let before : List ℕ = cells_run start played.steps in
    let next : Step = Intern id cell name in
    let long : cell < length before = omega (arith, length-cells_run start played.steps, length-replicate {A = ℕ} cells 0) in
    let found : get_or before cell 0 ≡ 0 = sym (played.names cell inside) ∙ empty in
    let word : ℕ = cond (eqb (get_or before cell 0) 0) (name + 1) (get_or before cell 0) in
    let is : word ≡ name + 1 = ap (λ b. cond b (name + 1) (get_or before cell 0)) (eq-eqb (get_or before cell 0) 0 found) in
    record {
      steps = played.steps ++ next ∷ [];
      names = λ other near. dite (ℕ_discrete other cell)
          (λ same. subst (λ (k : ℕ). name_word (set words (name_at cell) (name + 1)) k ≡ get_or (cells_run start (played.steps ++ next ∷ [])) k 0) (sym same)
          (name_here words cell (name + 1) within ∙ sym is ∙ sym (get_or-set_same before cell word 0 long) ∙ ap (λ (l : List ℕ). get_or l cell 0) (sym (cells_run-push start played.steps next))))
          (λ off. name_else words cell other (name + 1) off ∙ played.names other near ∙ sym (get_or-set_other before cell other word 0 off) ∙ ap (λ (l : List ℕ). get_or l other 0) (sym (cells_run-push start played.steps next)));
      least = λ other near. least_stays words cell other (name + 1) ∙ played.least other near ∙ ap (λ (l : List ℕ). get_or l other 0) (sym (least_run-push (replicate cells no_bid) played.steps next));
      puts = λ a b. (let more = times-puts_push a b played.steps (next ∷ []) in let old = played.puts a b in let now = puts a b in omega arith);
      bids = λ a b. (let more = times-bids_push a b played.steps (next ∷ []) in let old = played.bids a b in let now = bids a b in omega arith);
    }

-- so is a bid
pub played_bid : (cells : ℕ) (words : List ℕ) (views after : List View) (id cell number : ℕ) → cell < cells → least_at cell < length words
    → ((a b : ℕ) → puts_total after a b ≡ puts_total views a b) → ((a b : ℕ) → bids_total after a b ≡ bids_total views a b + times a b ((cell, number) ∷ []))
    → IsPlayed cells words views → IsPlayed cells (set words (least_at cell) (min (least_word words cell) number)) after
played_bid cells words views after id cell number inside within puts bids played =
    let start : List ℕ = replicate cells no_bid in
    let before : List ℕ = least_run start played.steps in
    let next : Step = Lower id cell number in
    let long : cell < length before = omega (arith, length-least_run start played.steps, length-replicate {A = ℕ} cells no_bid) in
    let lowered : ℕ = min (least_word words cell) number in
    let word : ℕ = min (get_or before cell 0) number in
    let is : lowered ≡ word = ap (λ (n : ℕ). min n number) (played.least cell inside) in
    record {
      steps = played.steps ++ next ∷ [];
      names = λ other near. name_stays words cell other lowered ∙ played.names other near ∙ ap (λ (l : List ℕ). get_or l other 0) (sym (cells_run-push (replicate cells 0) played.steps next));
      least = λ other near. dite (ℕ_discrete other cell)
          (λ same. subst (λ (k : ℕ). least_word (set words (least_at cell) lowered) k ≡ get_or (least_run start (played.steps ++ next ∷ [])) k 0) (sym same)
          (least_here words cell lowered within ∙ is ∙ sym (get_or-set_same before cell word 0 long) ∙ ap (λ (l : List ℕ). get_or l cell 0) (sym (least_run-push start played.steps next))))
          (λ off. least_else words cell other lowered off ∙ played.least other near ∙ sym (get_or-set_other before cell other word 0 off) ∙ ap (λ (l : List ℕ). get_or l other 0) (sym (least_run-push start played.steps next)));
      puts = λ a b. (let more = times-puts_push a b played.steps (next ∷ []) in let old = played.puts a b in let now = puts a b in omega arith);
      bids = λ a b. (let more = times-bids_push a b played.steps (next ∷ []) in let old = played.bids a b in let now = bids a b in omega arith);
    }

pub is_word : (name word : ℕ) → word ≡ name + 1 → is_word_of name word ≡ 1
is_word name word is = ap (λ b. cond b 1 0) (eq-eqb word (name + 1) is)

pub no_word : (name word : ℕ) → word ≢ name + 1 → is_word_of name word ≡ 0
no_word name word off = ap (λ b. cond b 1 0) (ne_eqb word (name + 1) off)
