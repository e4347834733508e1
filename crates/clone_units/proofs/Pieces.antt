-- The pieces of a unit stand together in an object's code.
use Rattle.std.proofs.Common.{Bool, if◌then◌else◌, ◌≡◌, ℕ, zero, suc, ◌+◌, ◌<◌, ◌≤◌, inl, inr, true, false, cond, ltb, eqb, ◌&&◌, List, [], ◌∷◌, ◌++◌, length, take, drop, map, get_or, slice_get, Option, Some, None, refl, sym, ap, subst, ◌∙◌, arith, append-nil}
use Rattle.std.specs.List.{All, cons_option, filter_map}
use Rattle.std.specs.List.Sorted.{IsNonDecreasingBy, IsPartitionPoint}
use Rattle.std.specs.Option.{option_and_then, option_map}
use Rattle.std.proofs.lemmas.Bool.{eq-eqb, ltb-true, ltb-false, ne_eqb}
use Rattle.std.proofs.lemmas.List.{get_or-drop, get_or-take, length-drop, length-take, take-append-drop}
use Rattle.std.proofs.lemmas.List.Elements.{All-head, All-tail, filter_map-append}
use Rattle.std.proofs.lemmas.Option.{slice_get_cases}
use Rattle.dwarf_types.specs.declared.address.Span.{Span}
use Rattle.dwarf_types.specs.declared.analysis.Analysis.{Analysis}
use Rattle.dwarf_types.specs.declared.analysis.CodeRange.{CodeRange}
use Rattle.dwarf_types.specs.declared.entry.Entry.{Entry}
use Rattle.dwarf_types.specs.declared.entry.InUnit.{InUnit}
use Rattle.dwarf_types.specs.Live.{Stands}
use Rattle.dwarf_types.specs.LinkedGraph.{piece_in}
use Rattle.dwarf_types.specs.LinkedUnits.{Object, is_kept}
use Rattle.dwarf_types.specs.Sound.{AreCodeRanges, IsIn, IsSound}
use Rattle.link_graph.proofs.Gathered.{filter_map_same}
use Rattle.link_graph.proofs.Units.{unit_has, unit_of, unit_spans}
use Rattle.clone_units.specs.Pieces.{IsOutside, pair_in, pair_of, span_of, written_pair}

-- ---- in the order of the subprograms

from_on : (entries : List Entry) (from : ℕ) (rs : List CodeRange) (k : ℕ) (d : CodeRange) → AreCodeRanges entries from rs → k < length rs → from ≤ (get_or rs k d).entry
from_on entries from [] k d are lt = absurd (omega arith)
from_on entries from (r ∷ rs) zero d are lt = are.0
from_on entries from (r ∷ rs) (suc k) d are lt = omega (arith, are.0, from_on entries r.entry rs k d are.2 (omega arith))

rise_on : (entries : List Entry) (from : ℕ) (rs : List CodeRange) (i j : ℕ) (d : CodeRange) → AreCodeRanges entries from rs → i ≤ j → j < length rs → (get_or rs i d).entry ≤ (get_or rs j d).entry
rise_on entries from [] i j d are le lt = absurd (omega arith)
rise_on entries from (r ∷ rs) zero zero d are le lt = omega arith
rise_on entries from (r ∷ rs) zero (suc j) d are le lt = from_on entries r.entry rs j d are.2 (omega arith)
rise_on entries from (r ∷ rs) (suc i) zero d are le lt = absurd (omega arith)
rise_on entries from (r ∷ rs) (suc i) (suc j) d are le lt = rise_on entries r.entry rs i j d are.2 (omega arith) (omega arith)

pub code_rises : (a : Analysis) → IsSound a → IsNonDecreasingBy (λ piece. piece.entry) a.code
code_rises a sound i j d le lt = rise_on a.entries 0 a.code i j d sound.code le lt

-- ---- pieces of other units

not_of : (o : Object) (u : ℕ) (unit : InUnit) (piece : CodeRange) → IsSound o.seen → slice_get o.seen.units u ≡ Some unit → IsOutside unit.first (unit.first + unit.count) piece
    → (e : Entry) → Stands o.seen.entries piece.entry e → eqb e.unit u ≡ false
not_of o u unit piece sound is out e at =
    ne_eqb e.unit u (λ same. let lies = unit_has o.seen u unit piece.entry e sound is at same in elim out [ inl lt ↦ omega (arith, lt, lies.from_first) | inr ge ↦ omega (arith, ge, lies.before_end) ])

pub none_outside : (o : Object) (u : ℕ) (unit : InUnit) → IsSound o.seen → slice_get o.seen.units u ≡ Some unit → (piece : CodeRange) → IsOutside unit.first (unit.first + unit.count) piece → pair_in o u piece ≡ None
none_outside o u unit sound is piece out = by (slice_get o.seen.entries piece.entry) (λ e at. not_of o u unit piece sound is out e at)
  where
    by : (found : Option Entry) → ((e : Entry) → found ≡ Some e → eqb e.unit u ≡ false)
        → option_map pair_of (option_and_then (λ (e : Entry). cond (eqb e.unit u && is_kept o piece.entry) (Some piece.span) None) found) ≡ None
    by None none = refl
    by (Some e) none = rw (none e refl) refl

gather_none : {A B : Type 0} (f : A → Option B) (xs : List A) → All (λ x. f x ≡ None) xs → filter_map f xs ≡ []
gather_none f [] h = refl
gather_none f (x ∷ xs) h = let here : f x ≡ None = All-head (λ y. f y ≡ None) x xs h in rw here (gather_none f xs (All-tail (λ y. f y ≡ None) x xs h))

-- those before and behind a stretch of entries may be left out
pub gathered_within : (f : CodeRange → Option (ℕ × ℕ)) (code : List CodeRange) (first end i j : ℕ) → ((piece : CodeRange) → IsOutside first end piece → f piece ≡ None) → i ≤ length code
    → IsPartitionPoint (λ piece. ltb piece.entry first ≡ true) (λ piece. ltb piece.entry first ≡ false) code i → IsPartitionPoint (λ piece. ltb piece.entry end ≡ true) (λ piece. ltb piece.entry end ≡ false) (drop i code) j
    → filter_map f (take j (drop i code)) ≡ filter_map f code
gathered_within f code first end i j none within below above =
    sym (append-nil (filter_map f (take j (drop i code))))
    ∙ ap (λ ys. filter_map f (take j (drop i code)) ++ ys) (sym (gather_none f (drop j (drop i code)) behind))
    ∙ sym (filter_map-append f (take j (drop i code)) (drop j (drop i code)))
    ∙ ap (filter_map f) (take-append-drop j (drop i code))
    ∙ ap (λ ys. ys ++ filter_map f (drop i code)) (sym (gather_none f (take i code) before))
    ∙ sym (filter_map-append f (take i code) (drop i code))
    ∙ ap (filter_map f) (take-append-drop i code)
  where
    before : All (λ piece. f piece ≡ None) (take i code)
    before k d lt =
        let short : k < i = omega (arith, lt, length-take i code) in
        let test : ltb (get_or code k d).entry first ≡ true = below.0 k d (omega arith) short in
        ap f (get_or-take i code k d short) ∙ none (get_or code k d) (inl (ltb-true _ _ test))

    behind : All (λ piece. f piece ≡ None) (drop j (drop i code))
    behind k d lt =
        let test : ltb (get_or (drop i code) (j + k) d).entry end ≡ false = above.1 (j + k) d (omega arith) (omega (arith, lt, length-drop j (drop i code))) in
        ap f (get_or-drop j (drop i code) k d) ∙ none (get_or (drop i code) (j + k) d) (inr (ltb-false _ _ test))

-- those that are left are of the stretch
pub all_within : (code : List CodeRange) (first end i j : ℕ) → i ≤ length code
    → IsPartitionPoint (λ piece. ltb piece.entry first ≡ true) (λ piece. ltb piece.entry first ≡ false) code i → IsPartitionPoint (λ piece. ltb piece.entry end ≡ true) (λ piece. ltb piece.entry end ≡ false) (drop i code) j
    → All (λ piece. (first ≤ piece.entry) × (piece.entry < end)) (take j (drop i code))
all_within code first end i j within below above k d lt =
    let rest = drop i code in
    let short : k < j = omega (arith, lt, length-take j rest) in
    let there : k < length rest = omega (arith, lt, length-take j rest) in
    let before : ltb (get_or rest k d).entry end ≡ true = above.0 k d (omega arith) short in
    let behind : ltb (get_or code (i + k) d).entry first ≡ false = below.1 (i + k) d (omega arith) (omega (arith, there, length-drop i code)) in
    let at : get_or (take j rest) k d ≡ get_or rest k d = get_or-take j rest k d short in
    let from : get_or rest k d ≡ get_or code (i + k) d = get_or-drop i code k d in (
      subst (λ (piece : CodeRange). first ≤ piece.entry) (sym (at ∙ from)) (ltb-false _ _ behind),
      subst (λ (piece : CodeRange). piece.entry < end) (sym at) (ltb-true _ _ before),
    )

-- ---- pieces of the unit

pub ends_within : (a : Analysis) (u : ℕ) (unit : InUnit) → IsSound a → slice_get a.units u ≡ Some unit → unit.first + unit.count ≤ length a.entries
ends_within a u unit sound is = (unit_spans 0 a.units (length a.entries) u unit sound.units is).ends

-- by whether its subprogram is written alone
pub pair_written : (o : Object) (u : ℕ) (unit : InUnit) (piece : CodeRange) → IsSound o.seen → slice_get o.seen.units u ≡ Some unit → IsIn unit piece.entry → piece.entry < length o.seen.entries
    → pair_in o u piece ≡ written_pair o.kept piece
pair_written o u unit piece sound is lies within = elim (slice_get_cases o.seen.entries piece.entry).1 [
  | inl w ↦ marked w.0 w.2
  | inr w ↦ absurd (omega (arith, w.0, within))
]
  where
    either : (b : Bool) → option_map pair_of (if b then Some piece.span else None) ≡ (if b then Some (pair_of piece.span) else None)
    either true = refl
    either false = refl

    pair_by : Option Entry → Option (ℕ × ℕ)
    pair_by found = option_map pair_of (option_and_then (λ (e : Entry). cond (eqb e.unit u && is_kept o piece.entry) (Some piece.span) None) found)

    marked : (e : Entry) → slice_get o.seen.entries piece.entry ≡ Some e → pair_in o u piece ≡ written_pair o.kept piece
    marked e at =
        let its : eqb e.unit u ≡ true = eq-eqb e.unit u (unit_of o.seen u unit piece.entry e sound is at lies) in
        ap pair_by at ∙ ap (λ (b : Bool). option_map pair_of (cond (b && is_kept o piece.entry) (Some piece.span) None)) its ∙ either (is_kept o piece.entry)

-- by whether their subprograms are written alone
pub all_written : (o : Object) (u : ℕ) (unit : InUnit) (pieces : List CodeRange) → IsSound o.seen → slice_get o.seen.units u ≡ Some unit → All (λ piece. (unit.first ≤ piece.entry) × (piece.entry < unit.first + unit.count)) pieces
    → filter_map (written_pair o.kept) pieces ≡ filter_map (pair_in o u) pieces
all_written o u unit pieces sound is lie = filter_map_same (written_pair o.kept) (pair_in o u) pieces (λ k d lt.
    let piece = get_or pieces k d in
    let lies = lie k d lt in
    sym (pair_written o u unit piece sound is (record { from_first = lies.0; before_end = lies.1 }) (omega (arith, lies.1, ends_within o.seen u unit sound is))))

-- ---- pairs as spans

cons_spans : (o : Option Span) (spans : List Span) (pairs : List (ℕ × ℕ)) → spans ≡ map span_of pairs → cons_option o spans ≡ map span_of (cons_option (option_map pair_of o) pairs)
cons_spans None spans pairs is = is
cons_spans (Some span) spans pairs is = ap (λ ys. span ∷ ys) is

pub spans_of : (o : Object) (u : ℕ) (code : List CodeRange) → filter_map (piece_in o u) code ≡ map span_of (filter_map (pair_in o u) code)
spans_of o u [] = refl
spans_of o u (piece ∷ code) = cons_spans (piece_in o u piece) (filter_map (piece_in o u) code) (filter_map (pair_in o u) code) (spans_of o u code)
