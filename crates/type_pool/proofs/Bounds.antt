-- The table's rule at its beginning and at its end.
use Rattle.std.proofs.Common.{◌≡◌, ◌≢◌, ℕ, zero, suc, ◌+◌, ◌-◌, ◌*◌, ◌<◌, ◌≤◌, inl, List, [], ◌∷◌, ◌++◌, length, get_or, replicate, sym, refl, ap, ◌∙◌, subst, arith, length-append}
use Rattle.std.proofs.Math.ListN.{get_or-append}
use Rattle.std.proofs.Math.Seq.{get_or-append_seam}
use Rattle.std.proofs.lemmas.List.{ext_get_or, get_or_past, get_or-append-add, get_or-replicate, length-replicate}
use mathlib.Core.Logic.{dite}
use mathlib.Core.Option.{some, some-injective, some-ne-none}
use native.Mathlib.Decide.{dec_lt, ℕ_discrete}
use lib.ListN.{get_elem?}
use Rattle.atomic_table.specs.Table.{opening}
use Rattle.pool_core.specs.declared.state.PoolState.{PoolState}
use Rattle.pool_core.specs.Machine.{cells_run, IsLeast, least_run}
use Rattle.type_pool.specs.declared.view.View.{View}
use Rattle.type_pool.specs.declared.rule.Size.{Size}
use Rattle.type_pool.specs.Pairs.{Has, times}
use Rattle.type_pool.specs.Views.{first_view}
use Rattle.std.specs.List.{sum_by}
use Rattle.std.proofs.lemmas.List.Sums.{sum_by-cons}
use Rattle.type_pool.specs.Keeping.{AreEmpty, Fits, IsBid, is_word_of, Keeps, Kept}
use Rattle.type_pool.specs.Words.{least_at, least_word, name_at, name_word}
use Rattle.type_pool.specs.Standing.{no_bid}
use Rattle.type_pool.specs.Ends.{Closes}
use Rattle.type_pool.proofs.Totals.{two_of}
use Rattle.type_pool.proofs.Words.{length-cells_run, length-least_run, no_word}
use Rattle.type_pool.proofs.Moves.{same_least}

-- behind the last cell there is no name
pub no_name_past : (words : List ℕ) (cells cell : ℕ) → length words ≡ 2 * cells → cells ≤ cell → name_word words cell ≡ 0
no_name_past words cells cell wide past = get_or_past words (name_at cell) 0 (omega arith)

first_of : (first v : View) (id : ℕ) → get_elem? (first ∷ []) id ≡ some v → first ≡ v
first_of first v zero at = some-injective first v at
first_of first v (suc id) at = absurd (some-ne-none v (sym at))

-- a table at which nobody stepped
pub opens : (k : Size) (words : List ℕ) → AreEmpty k.cells words → Kept k (opening words [] (first_view k.cells k.names))
opens k words empty =
    let first : View = first_view k.cells k.names in
    let fits : Fits k.cells words first = record { idle = λ none. absurd (omega arith); notes = λ cell name has. absurd has; bids = λ cell number has. absurd has } in
    record {
      wide = empty.wide;
      shares = refl;
      each = λ id v at. subst (Fits k.cells words) (first_of first v id at) fits;
      named = λ cell inside. (let none = empty.names cell inside in omega arith);
      least = λ cell inside. record {
        below = (let none = empty.least cell inside in omega arith);
        each = λ x bid. absurd (subst (λ (v : View). Has v.bids cell x) (sym (first_of first bid.1 bid.0 bid.2)) bid.3);
        one = inl (empty.least cell inside);
      };
      played = record {
        steps = [];
        names = λ cell inside. empty.names cell inside ∙ sym (get_or-replicate k.cells cell 0 0 inside);
        least = λ cell inside. empty.least cell inside ∙ sym (get_or-replicate k.cells cell no_bid 0 inside);
        puts = λ cell name. refl;
        bids = λ cell number. refl;
      };
      puts = λ cell name.
          let none : name_word words cell ≡ 0 = dite (dec_lt cell k.cells) (λ inside. empty.names cell inside) (λ past. no_name_past words k.cells cell empty.wide (omega arith)) in
          sym (no_word name (name_word words cell) (λ is. omega arith));
    }

-- a sum to which one view alone adds
none_at_all : (f : View → ℕ) (l : List View) → ((j : ℕ) (u : View) → get_elem? l j ≡ some u → f u ≡ 0) → sum_by f l ≡ 0
none_at_all f [] each = refl
none_at_all f (u ∷ l) each = omega (arith, each 0 u refl, none_at_all f l (λ j v at. each (suc j) v at), sum_by-cons f u l)

only_one : (f : View → ℕ) (l : List View) (id : ℕ) (v : View) → get_elem? l id ≡ some v → ((j : ℕ) (u : View) → j ≢ id → get_elem? l j ≡ some u → f u ≡ 0) → sum_by f l ≡ f v
only_one f [] id v at others = absurd (some-ne-none v (sym at))
only_one f (u ∷ l) zero v at others =
    let rest = none_at_all f l (λ j w there. (let apart : suc j ≢ 0 = λ same. omega arith in others (suc j) w apart there)) in
    omega (arith, ap f (some-injective u v at), rest, sum_by-cons f u l)
only_one f (u ∷ l) (suc id) v at others =
    let first = (let apart : 0 ≢ suc id = λ same. omega arith in others 0 u apart refl) in
    let rest = only_one f l id v at (λ j w off there. others (suc j) w (λ same. off (omega arith)) there) in
    omega (arith, first, rest, sum_by-cons f u l)

-- a seat with every share knows all that was done
pub closes : (k : Size) (words : List ℕ) (views : List View) (id : ℕ) (v : View) (state : PoolState) → Keeps k words views → get_elem? views id ≡ some v → v.share ≡ 64
    → length state.cells ≡ k.cells → length state.least ≡ k.cells
    → ((cell : ℕ) → cell < k.cells → get_or state.cells cell 0 ≡ name_word words cell)
    → ((cell : ℕ) → cell < k.cells → get_or state.least cell 0 ≡ least_word words cell)
    → Closes k.cells v state
closes k words views id v state rule at whole cells_length least_length cells least =
    let fits = rule.each id v at in
    let steps = rule.played.steps in
    let idle : (j : ℕ) (u : View) → j ≢ id → get_elem? views j ≡ some u → (u.notes ≡ []) × (u.puts ≡ []) × (u.bids ≡ []) = λ j u off there.
    let both = two_of (λ (w : View). w.share) views id j v u off at there in
    let all = rule.shares in
    (rule.each j u there).idle (omega arith) in
    record {
      cells_length = cells_length;
      least_length = least_length;
      run = record {
        steps = steps;
        names = ext_get_or 0 state.cells (cells_run (replicate k.cells 0) steps) (cells_length ∙ sym (length-cells_run (replicate k.cells 0) steps ∙ length-replicate {A = ℕ} k.cells 0))
            (λ i inside. (let near : i < k.cells = omega arith in cells i near ∙ rule.played.names i near));
        least = ext_get_or 0 state.least (least_run (replicate k.cells no_bid) steps) (least_length ∙ sym (length-least_run (replicate k.cells no_bid) steps ∙ length-replicate {A = ℕ} k.cells no_bid))
            (λ i inside. (let near : i < k.cells = omega arith in least i near ∙ rule.played.least i near));
        puts = λ a b. rule.played.puts a b ∙ only_one (λ (u : View). times a b u.puts) views id v at (λ j u off there. ap (times a b) (idle j u off there).1);
        bids = λ a b. rule.played.bids a b ∙ only_one (λ (u : View). times a b u.bids) views id v at (λ j u off there. ap (times a b) (idle j u off there).2);
      };
      noted = λ cell name has. (let note = fits.notes cell name has in (note.0, cells cell note.0 ∙ note.1));
      puts = λ cell name.
          let same : get_or state.cells cell 0 ≡ name_word words cell = dite (dec_lt cell k.cells) (λ inside. cells cell inside)
          (λ past. get_or_past state.cells cell 0 (omega arith) ∙ sym (no_name_past words k.cells cell rule.wide (omega arith))) in
          let mine = only_one (λ (u : View). times cell name u.puts) views id v at (λ j u off there. ap (times cell name) (idle j u off there).1) in
          let is = rule.puts cell name in
          let now : is_word_of name (get_or state.cells cell 0) ≡ is_word_of name (name_word words cell) = ap (is_word_of name) same in
          omega arith;
      least = λ cell inside. subst (IsLeast no_bid (Has v.bids cell)) (sym (least cell inside))
          (same_least (IsBid views cell) (Has v.bids cell) (least_word words cell)
          (λ x bid. dite (ℕ_discrete bid.0 id)
          (λ same. (let is : v ≡ bid.1 = some-injective v bid.1 (sym at ∙ subst (λ (j : ℕ). get_elem? views j ≡ some bid.1) same bid.2) in subst (λ (u : View). Has u.bids cell x) (sym is) bid.3))
          (λ off. absurd (subst (λ (l : List (ℕ × ℕ)). Has l cell x) (idle bid.0 bid.1 off bid.2).2 bid.3)))
          (λ x has. (id, v, at, has)) (rule.least cell inside));
    }

-- the words of one more cell
pub empty_more : (cells : ℕ) (words : List ℕ) → AreEmpty cells words → AreEmpty (cells + 1) ((words ++ 0 ∷ []) ++ no_bid ∷ [])
empty_more cells words empty =
    let middle : List ℕ = words ++ 0 ∷ [] in
    let all : List ℕ = middle ++ no_bid ∷ [] in
    let long : length middle ≡ length words + 1 = length-append words (0 ∷ []) in
    let wide = empty.wide in
    record {
      wide = omega (arith, length-append middle (no_bid ∷ []));
      names = λ cell inside. dite (ℕ_discrete cell cells)
          (λ last.
          let at : name_at cell ≡ length words = omega arith in
          let near : length words < length middle = omega arith in
          ap (λ (i : ℕ). get_or all i 0) at ∙ get_or-append middle (no_bid ∷ []) 0 (length words) near ∙ get_or-append_seam words 0 [] 0)
          (λ off.
          let near : name_at cell < length middle = omega arith in
          let nearer : name_at cell < length words = omega arith in
          get_or-append middle (no_bid ∷ []) 0 (name_at cell) near ∙ get_or-append words (0 ∷ []) 0 (name_at cell) nearer ∙ empty.names cell (omega arith));
      least = λ cell inside. dite (ℕ_discrete cell cells)
          (λ last.
          let at : least_at cell ≡ length middle = omega arith in
          ap (λ (i : ℕ). get_or all i 0) at ∙ get_or-append_seam middle no_bid [] 0)
          (λ off.
          let near : least_at cell < length middle = omega arith in
          let nearer : least_at cell < length words = omega arith in
          get_or-append middle (no_bid ∷ []) 0 (least_at cell) near ∙ get_or-append words (0 ∷ []) 0 (least_at cell) nearer ∙ empty.least cell (omega arith));
    }

-- the words of more cells
pub empty_behind : (cells more : ℕ) (words behind : List ℕ) → AreEmpty cells words → AreEmpty more behind → AreEmpty (cells + more) (words ++ behind)
empty_behind cells more words behind first second =
    let wide = first.wide in
    let long = second.wide in
    record {
      wide = omega (arith, length-append words behind);
      names = λ cell inside. dite (dec_lt cell cells)
          (λ near. (let within : name_at cell < length words = omega arith in get_or-append words behind 0 (name_at cell) within ∙ first.names cell near))
          (λ far.
          let at : name_at cell ≡ length words + name_at (cell - cells) = omega arith in
          ap (λ (i : ℕ). get_or (words ++ behind) i 0) at ∙ get_or-append-add words behind (name_at (cell - cells)) 0 ∙ second.names (cell - cells) (omega arith));
      least = λ cell inside. dite (dec_lt cell cells)
          (λ near. (let within : least_at cell < length words = omega arith in get_or-append words behind 0 (least_at cell) within ∙ first.least cell near))
          (λ far.
          let at : least_at cell ≡ length words + least_at (cell - cells) = omega arith in
          ap (λ (i : ℕ). get_or (words ++ behind) i 0) at ∙ get_or-append-add words behind (least_at (cell - cells)) 0 ∙ second.least (cell - cells) (omega arith));
    }

pub no_cells : AreEmpty 0 []
no_cells = record { wide = refl; names = λ cell inside. absurd (omega arith); least = λ cell inside. absurd (omega arith) }

pub read_at : (words : List ℕ) (i word : ℕ) → get_elem? words i ≡ some word → get_or words i 0 ≡ word
read_at [] i word at = absurd (some-ne-none word (sym at))
read_at (w ∷ words) zero word at = some-injective w word at
read_at (w ∷ words) (suc i) word at = read_at words i word at
