-- The lines of a list, one after the other.
use Rattle.std.proofs.Common.{◌≡◌, ◌+◌, ◌++◌, ◌<◌, ◌^◌, ◌≤◌, ◌∙◌, Bool, true, false, cond, ℕ, zero, suc, List, [], ◌∷◌, None, Some, Ok, Err, Result, Option, Bor, drop, filter, get_or, length, map, append-nil, arith, refl, ap, sym, subst}
use Rattle.std.specs.List.{count_by, enumerate_from, find, slice_split}
use Rattle.std.proofs.lemmas.List.{append_assoc, length-map}
use Rattle.std.proofs.lemmas.List.Folds.{find-append}
use Rattle.std.proofs.lemmas.List.Splits.{length-slice_split}
use Rattle.std.proofs.lemmas.List.Sums.{count_by-le-length}
use Rattle.ds_base.proofs.Walking.{drop_one}
use Rattle.batch_list.specs.declared.lines.Line.{Line as Read}
use Rattle.batch_list.specs.declared.lines.ListError.{ListError}
use Rattle.batch_list.specs.declared.lines.ListError.TheVariants as errors
use Rattle.batch_list.specs.Lines.{Line, accepted, is_filled, is_newline, is_refused, programs_among}
use Rattle.batch_list.specs.Listed.{Adds, Lists}

-- the programs so far, and the lines that are left, are the lines that are not empty; and none so far is refused
abbrev pub AreSoFar : List (Bor (List ℕ)) → ℕ → List Line → Type 0
AreSoFar lines i programs =
    (programs ++ filter is_filled (enumerate_from (i + 1) (drop i (map (λ (line : Bor (List ℕ)). line.now) lines))) ≡ filter is_filled (enumerate_from 1 (map (λ (line : Bor (List ℕ)). line.now) lines)))
    × (find is_refused programs ≡ None)

-- a line's text is that of its place
pub text_at : (lines : List (Bor (List ℕ))) (i : ℕ) (d : Bor (List ℕ)) → i < length lines → (get_or lines i d).now ≡ get_or (map (λ (l : Bor (List ℕ)). l.now) lines) i (get_or lines i d).now
text_at [] i d lt = absurd (omega (arith, lt))
text_at (x ∷ xs) zero d lt = refl
text_at (x ∷ xs) (suc i) d lt = text_at xs i d (omega (arith, lt))

-- the lines that are not empty of a line and those behind it
filled_first : (line : Line) (lines : List Line) → filter is_filled (line ∷ lines) ≡ filter is_filled (line ∷ []) ++ filter is_filled lines
filled_first line lines = by (is_filled line)
  where
    by : (b : Bool) → cond b (line ∷ filter is_filled lines) (filter is_filled lines) ≡ cond b (line ∷ []) [] ++ filter is_filled lines
    by true = refl
    by false = refl

-- the lines that are left begin with this one
filled_next : (lines : List (Bor (List ℕ))) (i : ℕ) (line : List ℕ) → i < length lines → line ≡ get_or (map (λ (l : Bor (List ℕ)). l.now) lines) i line
    → filter is_filled (enumerate_from (i + 1) (drop i (map (λ (l : Bor (List ℕ)). l.now) lines)))
    ≡ filter is_filled ((i + 1, line) ∷ []) ++ filter is_filled (enumerate_from (i + 1 + 1) (drop (i + 1) (map (λ (l : Bor (List ℕ)). l.now) lines)))
filled_next lines i line lt is =
    let now : Bor (List ℕ) → List ℕ = λ l. l.now in
    let within : i < length (map now lines) = rw (length-map lines now) lt in
    let one = drop_one (map now lines) i line within is in
    ap (λ (ls : List (List ℕ)). filter is_filled (enumerate_from (i + 1) ls)) one ∙ filled_first (i + 1, line) (enumerate_from (i + 1 + 1) (drop (i + 1) (map now lines)))

-- one line more that is not refused
pub one_more : (lines : List (Bor (List ℕ))) (i : ℕ) (line : List ℕ) (before after : List Line) → i < length lines → line ≡ get_or (map (λ (l : Bor (List ℕ)). l.now) lines) i line → AreSoFar lines i before
    → (after ≡ before ++ filter is_filled ((i + 1, line) ∷ [])) × (find is_refused (filter is_filled ((i + 1, line) ∷ [])) ≡ None) → AreSoFar lines (i + 1) after
one_more lines i line before after lt is so_far added =
    let now : Bor (List ℕ) → List ℕ = λ l. l.now in
    let own : List Line = filter is_filled ((i + 1, line) ∷ []) in
    let behind : List Line = filter is_filled (enumerate_from (i + 1 + 1) (drop (i + 1) (map now lines))) in
    let here : after ++ behind ≡ before ++ (own ++ behind) = ap (λ (ls : List Line). ls ++ behind) added.0 ∙ append_assoc before own behind in
    let none : find is_refused after ≡ None = ap (find is_refused) added.0 ∙ (rw (find-append is_refused before own, so_far.1, added.1) refl) in
    (here ∙ ap (λ (ls : List Line). before ++ ls) (sym (filled_next lines i line lt is)) ∙ so_far.0, none)

accepted_some : (lines : List Line) (line : Line) → find is_refused lines ≡ Some line → accepted lines ≡ Err line.0
accepted_some lines line here = rw here refl

-- a line is refused, and none before it
refused_at : (lines : List (Bor (List ℕ))) (i : ℕ) (line : List ℕ) (before : List Line) → i < length lines → line ≡ get_or (map (λ (l : Bor (List ℕ)). l.now) lines) i line → AreSoFar lines i before
    → find is_refused (filter is_filled ((i + 1, line) ∷ [])) ≡ Some (i + 1, line) → programs_among (map (λ (l : Bor (List ℕ)). l.now) lines) ≡ Err (i + 1)
refused_at lines i line before lt is so_far here =
    let now : Bor (List ℕ) → List ℕ = λ l. l.now in
    let own : List Line = filter is_filled ((i + 1, line) ∷ []) in
    let behind : List Line = filter is_filled (enumerate_from (i + 1 + 1) (drop (i + 1) (map now lines))) in
    let all : List Line = filter is_filled (enumerate_from 1 (map now lines)) in
    let whole : all ≡ before ++ (own ++ behind) = sym so_far.0 ∙ ap (λ (ls : List Line). before ++ ls) (filled_next lines i line lt is) in
    let found : find is_refused all ≡ Some (i + 1, line) = ap (find is_refused) whole ∙ (rw (find-append is_refused before (own ++ behind), so_far.1, find-append is_refused own behind, here) refl) in
    accepted_some all (i + 1, line) found

-- a line that is not added ends the reading
pub not_added : (lines : List (Bor (List ℕ))) (i : ℕ) (line : List ℕ) (before after : List Line) (error : ListError) (result : Result (List Read) ListError) → i < length lines → line ≡ get_or (map (λ (l : Bor (List ℕ)). l.now) lines) i line
    → AreSoFar lines i before → Adds (Err error) before after (i + 1, line) → result ≡ Err error → Lists result (programs_among (map (λ (l : Bor (List ℕ)). l.now) lines))
not_added lines i line before after (errors.BadLine number) result lt is so_far added e = rw (e, added.0) (refused_at lines i line before lt is so_far added.1)
not_added lines i line before after errors.NoMemory result lt is so_far added e = rw e tt

-- a list has no more lines than bytes, and one
pub few_lines : (lines : List (Bor (List ℕ))) (list : List ℕ) → map (λ (line : Bor (List ℕ)). line.now) lines ≡ slice_split is_newline list → length list ≤ 2 ^ 20 → length lines < 2 ^ 32
few_lines lines list are short =
    let all : length lines ≡ count_by is_newline list + 1 = sym (length-map lines (λ (line : Bor (List ℕ)). line.now)) ∙ ap length are ∙ length-slice_split is_newline list in
    let le = count_by-le-length is_newline list in
    omega (arith, all, le, short)
