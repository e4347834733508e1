-- The entries of a unit, one after the other.
use Rattle.std.proofs.Common.{◌≡◌, ℕ, ◌+◌, ◌-◌, ◌<◌, List, [], ◌∷◌, ◌++◌, length, map, drop, get_or, slice_index, refl, sym, ap, ◌∙◌, arith, append_assoc, length-append}
use Rattle.std.specs.List.{enumerate_from, sum_by}
use Rattle.std.proofs.lemmas.List.{get_or-map, length-map}
use Rattle.std.proofs.lemmas.List.Sums.{sum_by-cons}
use Rattle.std.proofs.lemmas.List.FromFn.{get_or-enumerate_from, length-enumerate_from}
use Rattle.ds_base.proofs.Walking.{drop_one}
use Rattle.dwarf_types.specs.declared.graph.Node.{Node}
use Rattle.dwarf_types.specs.Abbreviations.{code_in, declaration_of, table_of}
use Rattle.dwarf_types.specs.Entries.{OutEntry, depth_of, entry_bytes, entry_len, entry_of}
use Rattle.dwarf_types.proofs.Lengths.{length-entry}
use Rattle.patches.specs.Filling.{filled}
use Rattle.unit_draft.specs.declared.drafting.Drafting.{Drafting}
use Rattle.unit_draft.specs.World.{World}
use Rattle.unit_draft.specs.Depths.{depths_of}
use Rattle.unit_draft.proofs.NodeDepths.{depth_is}
use Rattle.unit_draft.specs.Appends.{AppendsEntry, Fits, len_of, next_lists, nowhere, places_from}

abbrev pub entry_by : ℕ → Node → ℕ → OutEntry
entry_by code node ended = record { code = code; node = node; ended = ended }

module _ {X Y : Type 0} (xs : List X) (f : ℕ × X → Y) (i : ℕ) (x : X) (lt : i < length xs) (is : x ≡ get_or xs i x) where
  numbered_here : (i, x) ≡ get_or (enumerate_from 0 xs) i (i, x)
  numbered_here =
      let index : i ≡ 0 + i = omega arith in
      ap (λ (j : ℕ). (j, x)) index ∙ ap (λ (y : X). (0 + i, y)) is ∙ sym (get_or-enumerate_from 0 xs i (i, x) lt)

  within : i < length (enumerate_from 0 xs)
  within = omega (arith, lt, length-enumerate_from 0 xs)

  -- what is made of the item of a number
  pub made_here : (d : Y) → get_or (map f (enumerate_from 0 xs)) i d ≡ f (i, x)
  made_here d = get_or-map f (enumerate_from 0 xs) i (i, x) d within ∙ ap f (sym numbered_here)

  pub made_left : drop i (map f (enumerate_from 0 xs)) ≡ f (i, x) ∷ drop (i + 1) (map f (enumerate_from 0 xs))
  made_left = drop_one (map f (enumerate_from 0 xs)) i (f (i, x)) (omega (arith, within, length-map (enumerate_from 0 xs) f)) (sym (made_here (f (i, x))))

-- an entry by what the code has at hand
pub entry_here : (number : ℕ) (nodes : List Node) (depths : List ℕ) (k code : ℕ) (node : Node) (ended : ℕ) → code ≡ code_in (table_of number nodes) (declaration_of number nodes k node) → depths ≡ depths_of nodes
    → ended ≡ slice_index depths k - slice_index depths (k + 1) → entry_by code node ended ≡ entry_of number nodes k node
entry_here number nodes depths k code node ended coded deep ends =
    ap (λ (n : ℕ). entry_by n node ended) coded ∙ ap (entry_by (code_in (table_of number nodes) (declaration_of number nodes k node)) node)
    (ends ∙ ap (λ (ds : List ℕ). slice_index ds k - slice_index ds (k + 1)) deep ∙ ap (λ (n : ℕ). n - slice_index (depths_of nodes) (k + 1)) (depth_is nodes k) ∙ ap (λ (n : ℕ). depth_of nodes k - n) (depth_is nodes (k + 1)))

abbrev pub plain : ℕ → ℕ → World
plain number version = record {
  filling = nowhere;
  places = record { unit = number; version = version; text = λ _. 0; start = λ _. 0; node = λ _. 0; lines = 0; line_text = λ _. 0 };
  lists = record { ranges = 0; locations = 0 };
  table = 0;
}

pub plain_fits : (number version : ℕ) (texts : List (List ℕ)) → Fits number version texts (plain number version)
plain_fits number version texts = record {
  unit = refl;
  of_version = refl;
  node = λ k. refl;
  base = λ k. refl;
  text = λ i t at. refl;
  entry = λ target other. refl;
  ranges = λ n. omega arith;
  locations = λ n. omega arith;
  lines = refl;
}

module _ (number version : ℕ) (old new : Drafting) where
  pub len_more : (e : OutEntry) → AppendsEntry number version old new e → len_of new ≡ len_of old + entry_len e
  len_more e h =
      let w = plain number version in
      let bytes = entry_bytes w.places (next_lists w old) e in
      ap length (h.info w (plain_fits number version new.names)) ∙ length-append (filled old.info nowhere) bytes ∙ ap (λ (n : ℕ). len_of old + n) (length-entry w.places (next_lists w old) e)

  pub places_more : (e : OutEntry) (es : List OutEntry) (before after : List ℕ) (all : List ℕ) (place : ℕ) → AppendsEntry number version old new e
      → place ≡ len_of old → after ≡ before ++ place ∷ [] → before ++ places_from (len_of old) (e ∷ es) ≡ all → after ++ places_from (len_of new) es ≡ all
  places_more e es before after all place h is pushed so_far =
      ap (λ (front : List ℕ). front ++ places_from (len_of new) es) pushed ∙ append_assoc before (place ∷ []) (places_from (len_of new) es)
      ∙ ap (λ (p : ℕ). before ++ (p ∷ places_from (len_of new) es)) is ∙ ap (λ (n : ℕ). before ++ (len_of old ∷ places_from n es)) (len_more e h) ∙ so_far

  -- as much is left as the entry is long
  pub left_more : (e : OutEntry) (es : List OutEntry) (left : List OutEntry) (all : ℕ) → AppendsEntry number version old new e → left ≡ e ∷ es → len_of old + sum_by entry_len left ≡ all → len_of new + sum_by entry_len es ≡ all
  left_more e es left all h cut so_far = omega (arith, so_far, ap (sum_by entry_len) cut, sum_by-cons entry_len e es, len_more e h)
