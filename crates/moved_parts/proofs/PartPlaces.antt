-- Parts by their places, put one behind the other while the rows of a sequence are walked.
use Rattle.std.proofs.Common.{◌≡◌, ℕ, ◌+◌, ◌-◌, ◌<◌, ◌≤◌, List, [], ◌∷◌, ◌++◌, length, map, get_or, take, drop, None, Some, slice_get, append-nil, refl, sym, ap, subst, ◌∙◌, arith}
use Rattle.std.specs.List.{All, filter_map, flat_map, position_or_len}
use Rattle.std.specs.Option.{option_and_then, unwrap_or}
use Rattle.std.proofs.lemmas.Grind.{flat_map-append}
use Rattle.std.proofs.lemmas.List.{get_or_default, length-drop, map-append}
use Rattle.std.proofs.lemmas.List.Elements.{All-push}
use Rattle.std.proofs.lemmas.Option.{slice_get-get_or}
use Rattle.ds_base.proofs.Walking.{take_one}
use Rattle.dwarf_types.specs.declared.lines.RawRow.{RawRow}
use Rattle.dwarf_types.specs.declared.lines.RawSequence.{RawSequence}
use Rattle.addr_map.specs.declared.map.MapRange.{MapRange}
use Rattle.addr_map.specs.Sound.{IsSoundRange}
use Rattle.line_read.specs.Rising.{DoesNotFall}
use Rattle.moved_parts.specs.declared.lines.SequencePart.{SequencePart}
use Rattle.moved_parts.specs.Lines.{end_by, linked_end, row_by}
use Rattle.moved_parts.specs.Parts.{IsPart, MovedPart, is_behind, part_seen, parts_of, range_of, rows_at}
use Rattle.moved_parts.proofs.Held.{Apart}
use Rattle.moved_parts.proofs.Runs.{from_row, run_rows}

pub rows_there : (ss : List RawSequence) (i : ℕ) (s : RawSequence) → slice_get ss i ≡ Some s → rows_at ss i ≡ s.rows
rows_there ss i s is = rw is refl

-- the part of n rows from one on
abbrev pub part_from : MapRange → ℕ → ℕ → ℕ → ℕ → SequencePart
part_from r i next n end = record { range = r; sequence = i; first = next; count = n; end = end }

module _ (ss : List RawSequence) (i : ℕ) (s : RawSequence) (rest : List RawRow) (next n : ℕ) (r : MapRange) (end : ℕ) (before after : List SequencePart) where
  -- a range holds the row at hand, and those up to its end
  pub run_put : (rs : List MapRange) (total : List MovedPart) → IsSoundRange r → Apart rs → DoesNotFall s → slice_get ss i ≡ Some s → rest ≡ drop next s.rows → (d : RawRow) → next < length s.rows
      → Some r ≡ range_of rs (get_or s.rows next d).at → n ≡ position_or_len (λ row. is_behind r row.at) rest → end ≡ unwrap_or (option_and_then (end_by r) s.end) (linked_end r)
      → after ≡ before ++ part_from r i next n end ∷ [] → map (part_seen ss) before ++ from_row s next rs ≡ total → map (part_seen ss) after ++ from_row s (next + n) rs ≡ total
  run_put rs total sound apart falls stands left d lt is count end_is pushed so_far =
      let p : SequencePart = part_from r i next n end in
      let there : drop next (rows_at ss i) ≡ rest = ap (λ (xs : List RawRow). drop next xs) (rows_there ss i s stands) ∙ sym left in
      let stands_for : part_seen ss p ≡ record { range = r; sequence = record { rows = filter_map (row_by r) (take n rest); end = end } } =
      ap (λ (xs : List RawRow). record { range = r; sequence = record { rows = filter_map (row_by r) (take n xs); end = end } }) there in
      let all : map (part_seen ss) after ≡ map (part_seen ss) before ++ record { range = r; sequence = record { rows = filter_map (row_by r) (take n rest); end = end } } ∷ [] =
      ap (map (part_seen ss)) pushed ∙ map-append (part_seen ss) before (p ∷ []) ∙ ap (λ (m : MovedPart). map (part_seen ss) before ++ m ∷ []) stands_for in
      run_rows rs s s.rows rest next n r (filter_map (row_by r) (take n rest)) end (map (part_seen ss) before) (map (part_seen ss) after) total sound apart falls refl left d lt is count refl end_is all so_far

  -- its rows are there
  pub run_sound : IsSoundRange r → i < length ss → slice_get ss i ≡ Some s → rest ≡ drop next s.rows → next < length s.rows → n ≤ length rest
      → after ≡ before ++ part_from r i next n end ∷ [] → All (IsPart ss) before → All (IsPart ss) after
  run_sound sound known stands left lt le pushed all =
      let long : length (rows_at ss i) ≡ length s.rows = ap length (rows_there ss i s stands) in
      let most : length rest ≡ length s.rows - next = ap length left ∙ length-drop next s.rows in
      let here : IsPart ss (part_from r i next n end) = record { sound = sound; known = known; within = omega (arith, long, most, le, lt) } in
      subst (All (IsPart ss)) (sym pushed) (All-push (IsPart ss) before (part_from r i next n end) all here)

-- ---- a sequence after the other

-- the parts of the sequence at a place
pub put_of : (ss : List RawSequence) (i : ℕ) (s other : RawSequence) (rs : List MapRange) (before after : List MovedPart) → slice_get ss i ≡ Some s → slice_get ss i ≡ Some other
    → after ≡ before ++ parts_of rs s → after ≡ before ++ parts_of rs other
put_of ss i s other rs before after stands also put =
    let same : Some s ≡ Some other = sym stands ∙ also in
    let one : s ≡ other = cc in
    subst (λ (x : RawSequence). after ≡ before ++ parts_of rs x) one put

-- one sequence more
pub put_more : (ss : List RawSequence) (rs : List MapRange) (i : ℕ) (before after : List MovedPart) → i < length ss → ((s : RawSequence) → slice_get ss i ≡ Some s → after ≡ before ++ parts_of rs s)
    → before ≡ flat_map (parts_of rs) (take i ss) → after ≡ flat_map (parts_of rs) (take (i + 1) ss)
put_more ss rs i before after lt put so_far =
    let d : RawSequence = record { rows = []; end = None } in
    let s : RawSequence = get_or ss i d in
    let more : take (i + 1) ss ≡ take i ss ++ s ∷ [] = take_one ss i s lt (get_or_default ss i d s lt) in
    put s (slice_get-get_or ss i d lt)
    ∙ ap (λ (ps : List MovedPart). ps ++ parts_of rs s) so_far
    ∙ ap (λ (ps : List MovedPart). flat_map (parts_of rs) (take i ss) ++ ps) (sym (append-nil (parts_of rs s)))
    ∙ sym (flat_map-append (parts_of rs) (take i ss) (s ∷ []))
    ∙ ap (flat_map (parts_of rs)) (sym more)
