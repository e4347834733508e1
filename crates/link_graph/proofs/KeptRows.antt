-- Which entries have a node in their own unit, told by rows.
use Rattle.std.proofs.Common.{◌≡◌, ◌↔◌, inl, inr, ℕ, ◌<◌, ◌≤◌, ◌==◌, ◌&&◌, ◌||◌, not, Bool, true, false, cond, List, [], length, map, get_or, replicate, slice_get, Some, refl, sym, ap, ◌∙◌, arith}
use Rattle.std.specs.List.{enumerate_from, list_any}
use Rattle.std.proofs.lemmas.Bool.{both_ways, eqb-true}
use Rattle.std.proofs.lemmas.List.{get_or-map, get_or_default, get_or_past, length-map, length-replicate, same_lists}
use Rattle.std.proofs.lemmas.List.FromFn.{length-enumerate_from}
use Rattle.std.proofs.lemmas.Option.{get_or_from_slice_get, slice_get_cases, slice_get_within}
use mathlib.Core.Path.{fun_ext}
use Rattle.ds_base.specs.DwarfNumbers.{DW_TAG_namespace}
use Rattle.dwarf_types.specs.declared.analysis.Analysis.{Analysis}
use Rattle.dwarf_types.specs.declared.entry.Entry.{Entry}
use Rattle.dwarf_types.specs.Kept.{holds_plain, is_plain, kept_of}
use Rattle.dwarf_types.proofs.Marks.{nothing_merged}
use Rattle.type_names.specs.Heads.{entries_of, is_pooled}
use Rattle.type_names.specs.Heads as heads
use Rattle.type_names.specs.Names.{Named}
use Rattle.type_names.specs.Rows.{IsRow}
use Rattle.type_names.specs.Tree.{HasMarkedBelow, is_in, is_marked}
use Rattle.type_names.proofs.Pooling.{above_is}
use Rattle.type_names.proofs.Subtrees.{none_marked}
use Rattle.link_graph.specs.Merged.{kept_object, merged_in}
use Rattle.link_graph.specs.Passes.{kept_with, marked, merged_by}
use Rattle.link_graph.proofs.Gathered.{enumerate_at}
use Rattle.link_graph.proofs.Merging.{named_in, put_length, put_named}

-- ---- rows of merged entries

-- only the look-up of merged entries counts
pub kept_same : (entries : List Entry) (live these those : List Bool) → ((k : ℕ) → get_or these k false ≡ get_or those k false) → kept_of entries live these ≡ kept_of entries live those
kept_same entries live these those same = ap kept_by (fun_ext same)
  where
    kept_by : (ℕ → Bool) → List Bool
    kept_by is_merged =
        map (λ (e : ℕ × Entry). (get_or live e.0 false && not (is_merged e.0)) || (is_merged e.0 && (e.1.tag == DW_TAG_namespace && list_any (λ (x : ℕ × Entry). (get_or live x.0 false && not (is_merged x.0)) && is_in entries e.0 x.0) (enumerate_from 0 entries))))
        (enumerate_from 0 entries)

true_if : (b c : Bool) → c ≡ false → cond b true c ≡ b
true_if true c is = refl
true_if false c is = is

-- the row of the names of an object marks its merged entries
pub merged_is : (odr : Bool) (n : ℕ) (o : heads.Object) (k : ℕ) → get_or (merged_by (length (entries_of o)) (named_in odr n o)) k false ≡ get_or (merged_in odr o) k false
merged_is false n o k = none_marked (length (entries_of o)) k
merged_is true n o k = elim (slice_get_cases (entries_of o) k).1 [
  | inl w ↦ put_named (λ (w : Named). true) true n o (replicate (length (entries_of o)) false) k w.0 false w.2 (omega (arith, w.1, length-replicate (length (entries_of o)) false))
      ∙ true_if (is_pooled o k) _ (none_marked (length (entries_of o)) k)
      ∙ sym (get_or-map f (enumerate_from 0 (entries_of o)) k (k, w.0) false (omega (arith, w.1, length-enumerate_from 0 (entries_of o)))
      ∙ ap f (enumerate_at (entries_of o) k (k, w.0) w.1 ∙ ap (λ (e : Entry). (k, e)) (get_or_from_slice_get (entries_of o) k w.0 w.0 w.2)))
  | inr w ↦ get_or_past (merged_by (length (entries_of o)) (named_in true n o)) k false (omega (arith, w.0, put_length (λ (w : Named). true) (named_in true n o) (replicate (length (entries_of o)) false), length-replicate (length (entries_of o)) false))
      ∙ sym (get_or_past (merged_in true o) k false (omega (arith, w.0, length-map (enumerate_from 0 (entries_of o)) f, length-enumerate_from 0 (entries_of o))))
]
  where
    f : ℕ × Entry → Bool
    f e = is_pooled o e.0

pub merged_length : (entries : ℕ) (ws : List Named) → length (merged_by entries ws) ≡ entries
merged_length entries ws = put_length (λ (w : Named). true) ws (replicate entries false) ∙ length-replicate entries false

-- so it tells which are kept
pub kept_is : (odr : Bool) (n : ℕ) (o : heads.Object) → kept_with o.seen o.live (named_in odr n o) ≡ kept_object odr o
kept_is odr n o = ap (marked o.seen) (kept_same (entries_of o) o.live (merged_by (length (entries_of o)) (named_in odr n o)) (merged_in odr o) (merged_is odr n o))

-- where no entry is merged, the live ones are kept
pub kept_live : (seen : Analysis) (live : List Bool) → length live ≡ length seen.entries → kept_with seen live [] ≡ marked seen live
kept_live seen live whole =
    ap (marked seen) (kept_same seen.entries live (replicate (length seen.entries) false) [] (none_marked (length seen.entries)) ∙ nothing_merged seen.entries live whole)

pub kept_length : (entries : List Entry) (live merged : List Bool) → length (kept_of entries live merged) ≡ length entries
kept_length entries live merged = length-map (enumerate_from 0 entries) _ ∙ length-enumerate_from 0 entries

-- ---- rows of kept entries

-- an entry that isn't plain is above one where one in its subtree is
below_same : (t same inside : Bool) → (same ≡ true → t ≡ false) → (t && (not same && inside)) ≡ (t && inside)
below_same false same inside h = refl
below_same true false inside h = refl
below_same true true inside h = absurd (both_ways _ (h refl) refl)

plain_past : (entries : List Entry) (live merged : List Bool) (k : ℕ) → length live ≡ length entries → length entries ≤ k → is_plain entries live merged k ≡ false
plain_past entries live merged k whole past = ap (λ (b : Bool). b && not (get_or merged k false)) (get_or_past live k false (omega (arith, past, whole)))

pub plain_above_is : (entries : List Entry) (live merged plain above : List Bool) (k : ℕ) → length live ≡ length entries → IsRow (is_plain entries live merged) (length entries) plain
    → ((is_marked above k ≡ true) ↔ HasMarkedBelow entries plain k) → is_plain entries live merged k ≡ false → is_marked above k ≡ holds_plain entries live merged k
plain_above_is entries live merged plain above k whole row told other =
    above_is entries (is_plain entries live merged) plain above k row (λ j past. plain_past entries live merged j whole past) told
    ∙ ap (λ (p : ℕ × Entry → Bool). list_any p (enumerate_from 0 entries))
    (fun_ext (λ (e : ℕ × Entry). below_same (is_plain entries live merged e.0) (e.0 == k) (is_in entries k e.0) (λ same. ap (is_plain entries live merged) (eqb-true e.0 k same) ∙ other)))

kept_cases : (p m t a h : Bool) → (m ≡ true → a ≡ h) → (p || (m && (t && a))) ≡ (p || (m && (t && h)))
kept_cases p false t a h same = refl
kept_cases p true t a h same = ap (λ (b : Bool). p || (t && b)) (same refl)

not_plain : (l m : Bool) → m ≡ true → (l && not m) ≡ false
not_plain false m is = refl
not_plain true m is = ap not is

-- one entry more
pub kept_more : (entries : List Entry) (live merged plain above : List Bool) (k : ℕ) (e : Entry) → slice_get entries k ≡ Some e → length live ≡ length entries → IsRow (is_plain entries live merged) (length entries) plain
    → ((is_marked above k ≡ true) ↔ HasMarkedBelow entries plain k)
    → (is_marked plain k || (is_marked merged k && (e.tag == DW_TAG_namespace && is_marked above k))) ≡ is_marked (kept_of entries live merged) k
kept_more entries live merged plain above k e at whole row told =
    ap (λ (b : Bool). b || (is_marked merged k && (e.tag == DW_TAG_namespace && is_marked above k))) (row.each k within)
    ∙ kept_cases (is_plain entries live merged k) (is_marked merged k) (e.tag == DW_TAG_namespace) (is_marked above k) (holds_plain entries live merged k)
    (λ is. plain_above_is entries live merged plain above k whole row told (not_plain (get_or live k false) (get_or merged k false) is))
    ∙ sym (get_or-map f (enumerate_from 0 entries) k (k, e) false (omega (arith, within, length-enumerate_from 0 entries))
    ∙ ap f (enumerate_at entries k (k, e) within ∙ ap (λ (x : Entry). (k, x)) (get_or_from_slice_get entries k e e at)))
  where
    within : k < length entries
    within = slice_get_within entries k e at

    f : ℕ × Entry → Bool
    f e = is_plain entries live merged e.0 || (get_or merged e.0 false && (e.1.tag == DW_TAG_namespace && holds_plain entries live merged e.0))

-- a row that tells of each entry whether it is kept
pub kept_row_is : (entries : List Entry) (live merged row : List Bool) → IsRow (is_marked (kept_of entries live merged)) (length entries) row → row ≡ kept_of entries live merged
kept_row_is entries live merged row is =
    same_lists row (kept_of entries live merged) (is.len ∙ sym (kept_length entries live merged))
    (λ k d lt. get_or_default row k d false lt ∙ is.each k (omega (arith, lt, is.len)) ∙ get_or_default (kept_of entries live merged) k false d (omega (arith, lt, is.len, kept_length entries live merged)))
