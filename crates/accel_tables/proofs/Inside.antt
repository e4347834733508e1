-- Whether a node stands in a subprogram, by what is told of its parent.
use Rattle.std.proofs.Common.{◌≡◌, ℕ, ◌<◌, ◌≤◌, ◌==◌, ◌||◌, Bool, true, false, List, [], ◌∷◌, ◌++◌, ◌+◌, length, map, get_or, drop, suc, slice_get, Some, None, ◌⊎◌, inl, inr, sym, ap, ◌∙◌, arith, add-one, append_assoc, drop-cons}
use Rattle.std.specs.List.{enumerate_from, flat_map, list_any, range_with_len}
use Rattle.std.specs.Option.{option_map_or}
use Rattle.std.proofs.lemmas.Bool.{cases_lt}
use Rattle.std.proofs.lemmas.List.FromFn.{get_or-map-range_with_len, length-map-range_with_len, map-range_with_len_more}
use Rattle.dwarf_types.specs.declared.graph.Node.{Node}
use Rattle.dwarf_types.specs.Entries.{parent_of}
use Rattle.dwarf_types.proofs.Ancestors.{ancestors_of_child, ancestors_of_stray, no_ancestors}
use Rattle.ds_base.specs.DwarfNumbers as dw
use Rattle.accel_tables.specs.EnteredNames.{is_inside}

abbrev pub is_subprogram_at : List Node → ℕ → Bool
is_subprogram_at nodes j = option_map_or (λ node. node.tag == dw.DW_TAG_subprogram) (slice_get nodes j) false

pub inside_none : (nodes : List Node) (k : ℕ) → parent_of nodes k ≡ None → false ≡ is_inside nodes k
inside_none nodes k none = ap (list_any (is_subprogram_at nodes)) (sym (no_ancestors nodes k none))

pub inside_first : (nodes : List Node) (k p : ℕ) → parent_of nodes k ≡ Some p → is_subprogram_at nodes p ≡ true → true ≡ is_inside nodes k
inside_first nodes k p is yes_ = by (cases_lt p k)
  where
    by : (p < k) ⊎ (k ≤ p) → true ≡ is_inside nodes k
    by (inl lt) = ap (λ (b : Bool). b || is_inside nodes p) (sym yes_) ∙ ap (list_any (is_subprogram_at nodes)) (sym (ancestors_of_child nodes k p is lt))
    by (inr le) = ap (λ (b : Bool). b || false) (sym yes_) ∙ ap (list_any (is_subprogram_at nodes)) (sym (ancestors_of_stray nodes k p is le))

pub inside_more : (nodes : List Node) (k p : ℕ) (row : List Bool) → parent_of nodes k ≡ Some p → is_subprogram_at nodes p ≡ false → p < k → row ≡ map (is_inside nodes) (range_with_len 0 k) → get_or row p false ≡ is_inside nodes k
inside_more nodes k p row is no_ lt told =
    ap (λ (bs : List Bool). get_or bs p false) told ∙ get_or-map-range_with_len (is_inside nodes) 0 k p p false lt (omega arith)
    ∙ ap (λ (b : Bool). b || is_inside nodes p) (sym no_) ∙ ap (list_any (is_subprogram_at nodes)) (sym (ancestors_of_child nodes k p is lt))

pub inside_stray : (nodes : List Node) (k p : ℕ) → parent_of nodes k ≡ Some p → is_subprogram_at nodes p ≡ false → k ≤ p → false ≡ is_inside nodes k
inside_stray nodes k p is no_ le = ap (λ (b : Bool). b || false) (sym no_) ∙ ap (list_any (is_subprogram_at nodes)) (sym (ancestors_of_stray nodes k p is le))

-- one node more
pub told_more : (nodes : List Node) (k : ℕ) (row row2 : List Bool) (b : Bool) → b ≡ is_inside nodes k → row2 ≡ row ++ b ∷ [] → row ≡ map (is_inside nodes) (range_with_len 0 k) → row2 ≡ map (is_inside nodes) (range_with_len 0 (k + 1))
told_more nodes k row row2 b is put so_far =
    put ∙ ap (λ (bs : List Bool). bs ++ b ∷ []) so_far ∙ ap (λ (last : Bool). map (is_inside nodes) (range_with_len 0 k) ++ last ∷ []) is ∙ sym (map-range_with_len_more (is_inside nodes) 0 k k (omega arith))

pub as_long : (nodes : List Node) (k : ℕ) (row : List Bool) → row ≡ map (is_inside nodes) (range_with_len 0 k) → length row ≡ k
as_long nodes k row is = ap length is ∙ length-map-range_with_len (is_inside nodes) 0 k

pub told_of : (nodes : List Node) (n k : ℕ) (row : List Bool) → row ≡ map (is_inside nodes) (range_with_len 0 n) → k < n → get_or row k false ≡ is_inside nodes k
told_of nodes n k row is lt = ap (λ (bs : List Bool). get_or bs k false) is ∙ get_or-map-range_with_len (is_inside nodes) 0 n k k false lt (omega arith)

-- ---- one item more, by its number

pub item_more : {A B : Type 0} (f : ℕ × A → List B) (done done2 : List B) (xs : List A) (k : ℕ) (x : A) (whole : List B) → k < length xs → x ≡ get_or xs k x → done2 ≡ done ++ f (k, x)
    → done ++ flat_map f (enumerate_from k (drop k xs)) ≡ whole → done2 ++ flat_map f (enumerate_from (k + 1) (drop (k + 1) xs)) ≡ whole
item_more {A} {B} f done done2 xs k x whole lt is put so_far =
    let left : drop k xs ≡ x ∷ drop (k + 1) xs = drop-cons xs k x lt ∙ ap (λ (y : A). y ∷ drop (suc k) xs) (sym is) ∙ ap (λ (n : ℕ). x ∷ drop n xs) (sym (add-one k)) in
    let rest : List B = flat_map f (enumerate_from (k + 1) (drop (k + 1) xs)) in
    ap (λ (ys : List B). ys ++ rest) put ∙ append_assoc done (f (k, x)) rest ∙ ap (λ (ys : List A). done ++ flat_map f (enumerate_from k ys)) (sym left) ∙ so_far
