-- The parts of all sequences in the order of the linked program.
use Rattle.std.proofs.Common.{◌≡◌, ℕ, suc, ◌<◌, ◌≤◌, ◌==◌, ◌&&◌, ◌||◌, not, nat_lt, nat_le, Bool, true, false, cond, List, [], ◌∷◌, ◌++◌, map, get_or, Option, Some, None, refl, sym, ap, subst, ◌∙◌, arith, inl, inr, append-nil}
use Rattle.std.specs.Bool.{⊤}
use Rattle.std.specs.Cmp.{IsStrictWeakOrder, IsTotalOrder}
use Rattle.std.specs.declared.cmp.Ordering.{Ordering}
use Rattle.std.specs.List.{All, AllPairs, AllByRecursion, cons_option, filter, filter_map, flat_map}
use Rattle.std.specs.List.Sorted.{IsSortedBy, IsStableBy, ties}
use Rattle.std.specs.Option.{option_map}
use Rattle.std.specs.Ordering.{is_lt, nat_cmp, ordering_then}
use Rattle.std.proofs.lemmas.Bool.{cases_Bool, cases_order, lt-ltb, le-ltb, le-leb, lt-leb, eq-eqb, ne_eqb, and_parts, not-true, not-false, false_from_ne_true}
use Rattle.std.proofs.lemmas.Cmp.{nat_cmp_total, on_total, then_total}
use Rattle.std.proofs.lemmas.List.{map-append}
use Rattle.std.proofs.lemmas.List.Elements.{filter-append, recursion_from_All}
use Rattle.std.proofs.lemmas.List.Sorted.{ranks_by}
use Rattle.dwarf_types.specs.declared.lines.RawSequence.{RawSequence}
use Rattle.dwarf_types.specs.declared.lines.Sequence.{Sequence}
use Rattle.addr_map.specs.declared.map.MapRange.{MapRange}
use Rattle.addr_map.specs.Sound.{IsSoundRange}
use Rattle.moved_parts.specs.declared.lines.SequencePart.{SequencePart}
use Rattle.moved_parts.specs.Lines.{by_linked, is_first, placed_among, sequence_by, sequences_moved}
use Rattle.moved_parts.specs.Parts.{MovedPart, is_before, part_of, part_seen, parts_of}
use Rattle.moved_parts.proofs.Orders.{Rises, all_weaker, all_append, not_below_itself, only_order, rises_append, rises_from_sorted}

-- ---- the order of ranges

abbrev compare_ranges : MapRange → MapRange → Ordering
compare_ranges r other = ordering_then (nat_cmp r.linked other.linked) (nat_cmp r.start other.start)

ranges_ranked : IsTotalOrder compare_ranges
ranges_ranked = then_total (on_total (λ (r : MapRange). r.linked) nat_cmp_total) (on_total (λ (r : MapRange). r.start) nat_cmp_total)

before_ranks : IsStrictWeakOrder is_before
before_ranks = ranks_by ranges_ranked (λ (r : MapRange). r)

abbrev part_before : MovedPart → MovedPart → Bool
part_before p other = is_before p.range other.range

parts_rank : IsStrictWeakOrder part_before
parts_rank = ranks_by ranges_ranked (λ (p : MovedPart). p.range)

-- the definition's test is the order's, turned round
start_turned : (k l : ℕ) → nat_le k l ≡ not (is_lt (nat_cmp l k))
start_turned k l = elim (cases_order l k) [
  | inl same ↦ rw (le-leb k l (omega arith), le-ltb l k (omega arith), eq-eqb l k same) refl
  | inr (inl lt) ↦ rw (lt-leb k l lt, lt-ltb l k lt) refl
  | inr (inr gt) ↦ rw (le-leb k l (omega arith), le-ltb l k (omega arith), ne_eqb l k (λ e. omega arith)) refl
]

turned : (m n k l : ℕ) → (nat_lt m n || ((m == n) && nat_le k l)) ≡ not (is_lt (ordering_then (nat_cmp n m) (nat_cmp l k)))
turned m n k l = elim (cases_order m n) [
  | inl same ↦ rw (le-ltb m n (omega arith), eq-eqb m n same, le-ltb n m (omega arith), eq-eqb n m (sym same)) (start_turned k l)
  | inr (inl lt) ↦ rw (lt-ltb m n lt, le-ltb n m (omega arith), ne_eqb n m (λ e. omega arith)) refl
  | inr (inr gt) ↦ rw (le-ltb m n (omega arith), ne_eqb m n (λ e. omega arith), lt-ltb n m gt) refl
]

first_is : (r other : MapRange) → is_first r other ≡ not (is_before other r)
first_is r other = turned r.linked other.linked r.start other.start

first_then : (r other : MapRange) → is_first r other ≡ true → is_before other r ≡ false
first_then r other e = not-true (is_before other r) (sym (first_is r other) ∙ e)

not_first_then : (r other : MapRange) → is_first r other ≡ false → is_before other r ≡ true
not_first_then r other e = not-false (is_before other r) (sym (first_is r other) ∙ e)

-- ranges that neither is before the other have one start
below_by_start : (m n k l : ℕ) → m ≡ n → k < l → is_lt (ordering_then (nat_cmp m n) (nat_cmp k l)) ≡ true
below_by_start m n k l same lt = rw (le-ltb m n (omega arith), eq-eqb m n same, lt-ltb k l lt) refl

below_by_linked : (m n k l : ℕ) → m < n → is_lt (ordering_then (nat_cmp m n) (nat_cmp k l)) ≡ true
below_by_linked m n k l lt = rw (lt-ltb m n lt) refl

one_start : (r other : MapRange) → is_before r other ≡ false → is_before other r ≡ false → r.start ≡ other.start
one_start r other p q = elim (cases_order r.linked other.linked) [
  | inl same ↦ elim (cases_order r.start other.start) [
    | inl e ↦ e
    | inr (inl lt) ↦ absurd (let b : is_before r other ≡ true = below_by_start r.linked other.linked r.start other.start same lt in cc)
    | inr (inr gt) ↦ absurd (let b : is_before other r ≡ true = below_by_start other.linked r.linked other.start r.start (sym same) gt in cc)
  ]
  | inr (inl lt) ↦ absurd (let b : is_before r other ≡ true = below_by_linked r.linked other.linked r.start other.start lt in cc)
  | inr (inr gt) ↦ absurd (let b : is_before other r ≡ true = below_by_linked other.linked r.linked other.start r.start gt in cc)
]

ties_apart : (n r : MapRange) → ties is_before n r ≡ true → (is_before n r ≡ false) × (is_before r n ≡ false)
ties_apart n r e =
    let both = and_parts (not (is_before n r)) (not (is_before r n)) e in
    (not-true (is_before n r) both.0, not-true (is_before r n) both.1)

-- ---- what the definition of the order keeps

abbrev at : MapRange → MapRange → Bool
at n r = ties is_before n r

not_both : (n x r : MapRange) → is_before x r ≡ true → (at n x && at n r) ≡ false
not_both n x r below = false_from_ne_true (at n x && at n r) (λ e.
    let both = and_parts (at n x) (at n r) e in
    let low = ties_apart n x both.0 in
    let high = ties_apart n r both.1 in
    let not_below : is_before x r ≡ false = before_ranks.chain x n r low.1 high.0 in
    absurd (cc))

at_one : (a b : Bool) (x r : MapRange) (rs : List MapRange) → (a && b) ≡ false → cond a (x ∷ cond b (r ∷ rs) rs) (cond b (r ∷ rs) rs) ≡ cond b (r ∷ cond a (x ∷ rs) rs) (cond a (x ∷ rs) rs)
at_one true true x r rs e = absurd cc
at_one true false x r rs e = refl
at_one false b x r rs e = refl

placed_keeps : (n r : MapRange) (rs : List MapRange) → filter (at n) (placed_among r rs) ≡ filter (at n) (r ∷ rs)
placed_keeps n r [] = refl
placed_keeps n r (x ∷ xs) = elim (cases_Bool (is_first r x)) [
  | inl first ↦ rw first refl
  | inr not_first ↦ rw not_first (ap (λ (ys : List MapRange). cond (at n x) (x ∷ ys) ys) (placed_keeps n r xs) ∙ at_one (at n x) (at n r) x r (filter (at n) xs) (not_both n x r (not_first_then r x not_first)))
]

by_linked_keeps : (n : MapRange) (rs : List MapRange) → filter (at n) (by_linked rs) ≡ filter (at n) rs
by_linked_keeps n [] = refl
by_linked_keeps n (r ∷ rs) = placed_keeps n r (by_linked rs) ∙ ap (λ (ys : List MapRange). cond (at n r) (r ∷ ys) ys) (by_linked_keeps n rs)

placed_all : (P : MapRange → Type 0) (r : MapRange) (rs : List MapRange) → P r → AllByRecursion P rs → AllByRecursion P (placed_among r rs)
placed_all P r [] here all = (here, tt)
placed_all P r (x ∷ xs) here all = elim (cases_Bool (is_first r x)) [
  | inl first ↦ rw first (here, all)
  | inr not_first ↦ rw not_first (all.0, placed_all P r xs here all.1)
]

least_first : (r x : MapRange) (xs : List MapRange) → is_before x r ≡ false → Rises is_before (x ∷ xs) → AllByRecursion (λ later. is_before later r ≡ false) (x ∷ xs)
least_first r x xs e up = (e, all_weaker (λ later. is_before later x ≡ false) (λ later. is_before later r ≡ false) (λ later f. before_ranks.chain later x r f e) xs up.0)

placed_rises : (r : MapRange) (rs : List MapRange) → Rises is_before rs → Rises is_before (placed_among r rs)
placed_rises r [] up = (tt, tt)
placed_rises r (x ∷ xs) up = elim (cases_Bool (is_first r x)) [
  | inl first ↦ rw first (least_first r x xs (first_then r x first) up, up)
  | inr not_first ↦ rw not_first (placed_all (λ later. is_before later x ≡ false) r xs (before_ranks.one_way x r (not_first_then r x not_first)) up.0, placed_rises r xs up.1)
]

by_linked_rises : (rs : List MapRange) → Rises is_before (by_linked rs)
by_linked_rises [] = tt
by_linked_rises (r ∷ rs) = placed_rises r (by_linked rs) (by_linked_rises rs)

-- ---- the parts of one range

abbrev part_in : MapRange → Option Sequence → Option MovedPart
part_in r moved = option_map (λ (s : Sequence). record { range = r; sequence = s }) moved

-- those of each sequence
abbrev of_range : List RawSequence → MapRange → List MovedPart
of_range ss r = filter_map (λ s. part_of s r) ss

one_range : (r : MapRange) (moved : Option Sequence) (ps : List MovedPart) → AllByRecursion (λ p. p.range ≡ r) ps → AllByRecursion (λ p. p.range ≡ r) (cons_option (part_in r moved) ps)
one_range r None ps all = all
one_range r (Some s) ps all = (refl, all)

all_of_range : (r : MapRange) (ss : List RawSequence) → AllByRecursion (λ p. p.range ≡ r) (of_range ss r)
all_of_range r [] = tt
all_of_range r (s ∷ ss) = one_range r (sequence_by s r) (of_range ss r) (all_of_range r ss)

same_rises : (r : MapRange) (ps : List MovedPart) → AllByRecursion (λ p. p.range ≡ r) ps → Rises part_before ps
same_rises r [] all = tt
same_rises r (p ∷ ps) all =
    (all_weaker (λ q. q.range ≡ r) (λ q. part_before q p ≡ false) (λ q e. rw (e, all.0) (not_below_itself is_before before_ranks r)) ps all.1, same_rises r ps all.1)

filter_true : {A : Type 0} (t : A → Bool) (xs : List A) → AllByRecursion (λ x. t x ≡ true) xs → filter t xs ≡ xs
filter_true t [] all = refl
filter_true {A} t (x ∷ xs) all = rw all.0 (ap (λ (ys : List A). x ∷ ys) (filter_true t xs all.1))

filter_false : {A : Type 0} (t : A → Bool) (xs : List A) → AllByRecursion (λ x. t x ≡ false) xs → filter t xs ≡ []
filter_false t [] all = refl
filter_false t (x ∷ xs) all = rw all.0 (filter_false t xs all.1)

-- ---- of all ranges in order

abbrev of_ranges : List RawSequence → List MapRange → List MovedPart
of_ranges ss rs = flat_map (of_range ss) rs

all_of_ranges : (P : MapRange → Type 0) (ss : List RawSequence) (rs : List MapRange) → AllByRecursion P rs → AllByRecursion (λ p. P p.range) (of_ranges ss rs)
all_of_ranges P ss [] all = tt
all_of_ranges P ss (r ∷ rs) all =
    all_append (λ p. P p.range) (of_range ss r) (of_ranges ss rs) (all_weaker (λ p. p.range ≡ r) (λ p. P p.range) (λ p e. subst P (sym e) all.0) (of_range ss r) (all_of_range r ss)) (all_of_ranges P ss rs all.1)

of_ranges_rise : (ss : List RawSequence) (rs : List MapRange) → Rises is_before rs → Rises part_before (of_ranges ss rs)
of_ranges_rise ss [] up = tt
of_ranges_rise ss (r ∷ rs) up =
    let behind : AllByRecursion (λ p. is_before p.range r ≡ false) (of_ranges ss rs) = all_of_ranges (λ later. is_before later r ≡ false) ss rs up.0 in
    rises_append part_before (of_range ss r) (of_ranges ss rs) (same_rises r (of_range ss r) (all_of_range r ss)) (of_ranges_rise ss rs up.1)
    (all_weaker (λ p. p.range ≡ r) (λ p. AllByRecursion (λ later. part_before later p ≡ false) (of_ranges ss rs))
    (λ p e. subst (λ (n : MapRange). AllByRecursion (λ later. is_before later.range n ≡ false) (of_ranges ss rs)) (sym e) behind) (of_range ss r) (all_of_range r ss))

-- the parts of some ranges are those of the ranges that pass
of_range_passes : (t : MapRange → Bool) (ss : List RawSequence) (r : MapRange) → t r ≡ true → filter (λ (p : MovedPart). t p.range) (of_range ss r) ≡ of_range ss r
of_range_passes t ss r e = filter_true (λ (p : MovedPart). t p.range) (of_range ss r) (all_weaker (λ p. p.range ≡ r) (λ p. t p.range ≡ true) (λ p f. ap t f ∙ e) (of_range ss r) (all_of_range r ss))

of_range_fails : (t : MapRange → Bool) (ss : List RawSequence) (r : MapRange) → t r ≡ false → filter (λ (p : MovedPart). t p.range) (of_range ss r) ≡ []
of_range_fails t ss r e = filter_false (λ (p : MovedPart). t p.range) (of_range ss r) (all_weaker (λ p. p.range ≡ r) (λ p. t p.range ≡ false) (λ p f. ap t f ∙ e) (of_range ss r) (all_of_range r ss))

of_ranges_filtered : (t : MapRange → Bool) (ss : List RawSequence) (rs : List MapRange) → filter (λ (p : MovedPart). t p.range) (of_ranges ss rs) ≡ of_ranges ss (filter t rs)
of_ranges_filtered t ss [] = refl
of_ranges_filtered t ss (r ∷ rs) = filter-append (λ (p : MovedPart). t p.range) (of_range ss r) (of_ranges ss rs) ∙ elim (cases_Bool (t r)) [
  | inl passes ↦ rw passes (ap (λ (ps : List MovedPart). ps ++ filter (λ (p : MovedPart). t p.range) (of_ranges ss rs)) (of_range_passes t ss r passes) ∙ ap (λ (ps : List MovedPart). of_range ss r ++ ps) (of_ranges_filtered t ss rs))
  | inr fails ↦ rw fails (ap (λ (ps : List MovedPart). ps ++ filter (λ (p : MovedPart). t p.range) (of_ranges ss rs)) (of_range_fails t ss r fails) ∙ of_ranges_filtered t ss rs)
]

-- ---- of all sequences, in the order of the table

one_filtered : (t : MapRange → Bool) (r : MapRange) (moved : Option Sequence) (ps qs : List MovedPart) (b : Bool) → t r ≡ b → filter (λ (p : MovedPart). t p.range) ps ≡ qs
    → filter (λ (p : MovedPart). t p.range) (cons_option (part_in r moved) ps) ≡ cond b (cons_option (part_in r moved) qs) qs
one_filtered t r None ps qs true e so_far = so_far
one_filtered t r None ps qs false e so_far = so_far
one_filtered t r (Some s) ps qs true e so_far = rw e (ap (λ (xs : List MovedPart). record { range = r; sequence = s } ∷ xs) so_far)
one_filtered t r (Some s) ps qs false e so_far = rw e so_far

of_sequence_filtered : (t : MapRange → Bool) (s : RawSequence) (rs : List MapRange) → filter (λ (p : MovedPart). t p.range) (parts_of rs s) ≡ parts_of (filter t rs) s
of_sequence_filtered t s [] = refl
of_sequence_filtered t s (r ∷ rs) = one_filtered t r (sequence_by s r) (parts_of rs s) (parts_of (filter t rs) s) (t r) refl (of_sequence_filtered t s rs) ∙ apart (t r)
  where
    apart : (b : Bool) → cond b (parts_of (r ∷ filter t rs) s) (parts_of (filter t rs) s) ≡ parts_of (cond b (r ∷ filter t rs) (filter t rs)) s
    apart true = refl
    apart false = refl

of_sequences_filtered : (t : MapRange → Bool) (ss : List RawSequence) (rs : List MapRange) → filter (λ (p : MovedPart). t p.range) (flat_map (parts_of rs) ss) ≡ flat_map (parts_of (filter t rs)) ss
of_sequences_filtered t [] rs = refl
of_sequences_filtered t (s ∷ ss) rs =
    filter-append (λ (p : MovedPart). t p.range) (parts_of rs s) (flat_map (parts_of rs) ss)
    ∙ ap (λ (ps : List MovedPart). ps ++ filter (λ (p : MovedPart). t p.range) (flat_map (parts_of rs) ss)) (of_sequence_filtered t s rs)
    ∙ ap (λ (ps : List MovedPart). parts_of (filter t rs) s ++ ps) (of_sequences_filtered t ss rs)

-- ---- no two ranges have one start

abbrev StartsDiffer : List MapRange → Type 0
StartsDiffer [] = ⊤
StartsDiffer (r ∷ rs) = AllByRecursion (λ later. r.start < later.start) rs × StartsDiffer rs

starts_differ : (rs : List MapRange) → All IsSoundRange rs → AllPairs (λ r later. r.end ≤ later.start) rs → StartsDiffer rs
starts_differ [] sound apart = tt
starts_differ (r ∷ rs) sound apart =
    let some : r.start < r.end = (sound 0 r (omega arith)).not_empty in
    (recursion_from_All (λ later. r.start < later.start) rs (λ k d within. let e : r.end ≤ (get_or rs k d).start = apart 0 (suc k) d (omega arith) (omega arith) in omega arith), starts_differ rs (λ k d within. sound (suc k) d (omega arith)) (λ i j d lt within. apart (suc i) (suc j) d (omega arith) (omega arith)))

-- of the ranges at one place there is one, or none
none_else : (n r : MapRange) (rs : List MapRange) → at n r ≡ true → AllByRecursion (λ later. r.start < later.start) rs → filter (at n) rs ≡ []
none_else n r rs here all = filter_false (at n) rs (all_weaker (λ later. r.start < later.start) (λ later. at n later ≡ false) (λ later lt. false_from_ne_true (at n later) (λ there.
    let a = ties_apart n r here in
    let b = ties_apart n later there in
    let same : n.start ≡ r.start = one_start n r a.0 a.1 in
    let other : n.start ≡ later.start = one_start n later b.0 b.1 in
    omega arith)) rs all)

single : (ss : List RawSequence) (r : MapRange) → of_range ss r ≡ flat_map (parts_of (r ∷ [])) ss
single [] r = refl
single (s ∷ ss) r = by (sequence_by s r) (single ss r)
  where
    by : (moved : Option Sequence) → of_range ss r ≡ flat_map (parts_of (r ∷ [])) ss → cons_option (part_in r moved) (of_range ss r) ≡ cons_option (part_in r moved) [] ++ flat_map (parts_of (r ∷ [])) ss
    by None so_far = so_far
    by (Some m) so_far = ap (λ (ps : List MovedPart). record { range = r; sequence = m } ∷ ps) so_far

none_of : (ss : List RawSequence) → flat_map (parts_of []) ss ≡ []
none_of [] = refl
none_of (s ∷ ss) = none_of ss

either_way : (n : MapRange) (ss : List RawSequence) (rs : List MapRange) → StartsDiffer rs → of_ranges ss (filter (at n) rs) ≡ flat_map (parts_of (filter (at n) rs)) ss
either_way n ss [] differ = sym (none_of ss)
either_way n ss (r ∷ rs) differ = elim (cases_Bool (at n r)) [
  | inl here ↦ rw (here, none_else n r rs here differ.0) (append-nil (of_range ss r) ∙ single ss r)
  | inr other ↦ rw other (either_way n ss rs differ.1)
]

-- ---- sorted parts

seen_moved : (r : MapRange) (moved : Option Sequence) (ps : List MovedPart) (ms : List Sequence) → map (λ p. p.sequence) ps ≡ ms → map (λ p. p.sequence) (cons_option (part_in r moved) ps) ≡ cons_option moved ms
seen_moved r None ps ms so_far = so_far
seen_moved r (Some s) ps ms so_far = ap (λ (xs : List Sequence). s ∷ xs) so_far

range_seen : (ss : List RawSequence) (r : MapRange) → map (λ p. p.sequence) (of_range ss r) ≡ filter_map (λ s. sequence_by s r) ss
range_seen [] r = refl
range_seen (s ∷ ss) r = seen_moved r (sequence_by s r) (of_range ss r) (filter_map (λ s. sequence_by s r) ss) (range_seen ss r)

ranges_seen : (ss : List RawSequence) (rs : List MapRange) → map (λ p. p.sequence) (of_ranges ss rs) ≡ flat_map (λ r. filter_map (λ s. sequence_by s r) ss) rs
ranges_seen ss [] = refl
ranges_seen ss (r ∷ rs) =
    map-append (λ (p : MovedPart). p.sequence) (of_range ss r) (of_ranges ss rs)
    ∙ ap (λ (ms : List Sequence). ms ++ map (λ (p : MovedPart). p.sequence) (of_ranges ss rs)) (range_seen ss r)
    ∙ ap (λ (ms : List Sequence). filter_map (λ s. sequence_by s r) ss ++ ms) (ranges_seen ss rs)

-- ---- parts by their places, as what they stand for

abbrev run_before : SequencePart → SequencePart → Bool
run_before p other = is_before p.range other.range

runs_rank : IsStrictWeakOrder run_before
runs_rank = ranks_by ranges_ranked (λ (p : SequencePart). p.range)

module _ (ss : List RawSequence) where
  above_seen : (r : MapRange) (ps : List SequencePart) → AllByRecursion (λ later. is_before later.range r ≡ false) ps → AllByRecursion (λ later. is_before later.range r ≡ false) (map (part_seen ss) ps)
  above_seen r [] all = tt
  above_seen r (p ∷ ps) all = (all.0, above_seen r ps all.1)

  rises_seen : (ps : List SequencePart) → Rises run_before ps → Rises part_before (map (part_seen ss) ps)
  rises_seen [] up = tt
  rises_seen (p ∷ ps) up = (above_seen p.range ps up.0, rises_seen ps up.1)

  filter_seen : (t : MapRange → Bool) (ps : List SequencePart) → filter (λ (p : MovedPart). t p.range) (map (part_seen ss) ps) ≡ map (part_seen ss) (filter (λ (p : SequencePart). t p.range) ps)
  filter_seen t [] = refl
  filter_seen t (p ∷ ps) = elim (cases_Bool (t p.range)) [
    | inl passes ↦ rw passes (ap (λ (ms : List MovedPart). part_seen ss p ∷ ms) (filter_seen t ps))
    | inr fails ↦ rw fails (filter_seen t ps)
  ]

  stable_seen : (parts sorted : List SequencePart) → IsStableBy run_before parts sorted → (r : MapRange)
      → filter (λ (p : MovedPart). at r p.range) (map (part_seen ss) sorted) ≡ filter (λ (p : MovedPart). at r p.range) (map (part_seen ss) parts)
  stable_seen parts sorted stable r =
      filter_seen (at r) sorted ∙ ap (map (part_seen ss)) (stable (record { range = r; sequence = 0; first = 0; count = 0; end = 0 })) ∙ sym (filter_seen (at r) parts)

  sequences_seen : (ps : List SequencePart) → map (λ p. (part_seen ss p).sequence) ps ≡ map (λ (m : MovedPart). m.sequence) (map (part_seen ss) ps)
  sequences_seen [] = refl
  sequences_seen (p ∷ ps) = ap (λ (ms : List Sequence). (part_seen ss p).sequence ∷ ms) (sequences_seen ps)

-- parts of all sequences, sorted, are those of all ranges in the order of the linked program
pub sorted_parts : (ranges : List MapRange) (ss : List RawSequence) (parts sorted : List SequencePart) → All IsSoundRange ranges → AllPairs (λ r later. r.end ≤ later.start) ranges
    → map (part_seen ss) parts ≡ flat_map (parts_of ranges) ss → IsSortedBy run_before sorted → IsStableBy run_before parts sorted → map (λ p. (part_seen ss p).sequence) sorted ≡ sequences_moved ranges ss
sorted_parts ranges ss parts sorted sound apart are up stable =
    let differ = starts_differ ranges sound apart in
    let seen : List MovedPart = map (part_seen ss) sorted in
    let whole : seen ≡ of_ranges ss (by_linked ranges) =
    only_order part_before parts_rank seen (of_ranges ss (by_linked ranges)) (rises_seen ss sorted (rises_from_sorted run_before runs_rank sorted up)) (of_ranges_rise ss (by_linked ranges) (by_linked_rises ranges))
    (λ p. stable_seen ss parts sorted stable p.range ∙ ap (λ (ps : List MovedPart). filter (λ (q : MovedPart). at p.range q.range) ps) are ∙ of_sequences_filtered (at p.range) ss ranges ∙ sym (either_way p.range ss ranges differ)
    ∙ ap (of_ranges ss) (sym (by_linked_keeps p.range ranges)) ∙ sym (of_ranges_filtered (at p.range) ss (by_linked ranges))) in
    sequences_seen ss sorted ∙ ap (map (λ (p : MovedPart). p.sequence)) whole ∙ ranges_seen ss (by_linked ranges)
