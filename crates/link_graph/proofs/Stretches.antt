-- The entries of a unit: those from its first on, as many as it has.
use Rattle.std.proofs.Common.{◌≡◌, ℕ, ◌+◌, ◌<◌, ◌≤◌, ◌&&◌, Bool, true, false, eqb, List, [], ◌∷◌, ◌++◌, length, take, drop, get_or, slice_get, Some, refl, sym, ap, subst, ◌∙◌, arith, append-nil, Option}
use Rattle.std.specs.List.{All, filter}
use Rattle.std.specs.Option.{option_map_or}
use Rattle.std.proofs.lemmas.Bool.{ne_eqb, eq-eqb}
use Rattle.std.proofs.lemmas.List.{get_or-take, get_or-drop, length-take, length-drop, take-append-drop, take_more}
use Rattle.std.proofs.lemmas.List.Elements.{filter-append}
use Rattle.std.proofs.lemmas.List.FromFn.{get_or-enumerate_from, length-enumerate_from}
use Rattle.std.proofs.lemmas.Option.{slice_get-get_or, slice_get_within, get_or_from_slice_get}
use Rattle.dwarf_types.specs.declared.entry.Entry.{Entry}
use Rattle.dwarf_types.specs.declared.entry.InUnit.{InUnit}
use Rattle.dwarf_types.specs.Live.{Stands}
use Rattle.dwarf_types.specs.LinkedUnits.{Object, is_kept, kept_entries, numbered}
use Rattle.dwarf_types.specs.Sound.{IsIn, IsSound}
use Rattle.link_graph.specs.Passes.{entries_of, is_kept_one, stretch}
use Rattle.link_graph.proofs.Positions.{AreNumbered, filter_none, filter_same}
use Rattle.link_graph.proofs.Units.{unit_has, unit_of, unit_spans}

pub numbered_length : (o : Object) → length (numbered o) ≡ length o.seen.entries
numbered_length o = length-enumerate_from 0 o.seen.entries

pub numbered_at : (o : Object) (k : ℕ) (d : ℕ × Entry) → k < length o.seen.entries → get_or (numbered o) k d ≡ (k, get_or o.seen.entries k d.1)
numbered_at o k d lt = let same : 0 + k ≡ k = omega arith in get_or-enumerate_from 0 o.seen.entries k d lt ∙ ap (λ (n : ℕ). (n, get_or o.seen.entries k d.1)) same

pub stretch_length : (o : Object) (first n : ℕ) → first + n ≤ length o.seen.entries → length (stretch o first n) ≡ n
stretch_length o first n le = omega (arith, length-take n (drop first (numbered o)), length-drop first (numbered o), numbered_length o)

pub stretch_at : (o : Object) (first n j : ℕ) (d : ℕ × Entry) → j < n → first + n ≤ length o.seen.entries → get_or (stretch o first n) j d ≡ (first + j, get_or o.seen.entries (first + j) d.1)
stretch_at o first n j d lt le = get_or-take n (drop first (numbered o)) j d lt ∙ get_or-drop first (numbered o) j d ∙ numbered_at o (first + j) d (omega arith)

pub stretch_numbered : (o : Object) (first n : ℕ) → first + n ≤ length o.seen.entries → AreNumbered first (stretch o first n)
stretch_numbered o first n le j d lt = ap (λ (e : ℕ × Entry). e.0) (stretch_at o first n j d (omega (arith, stretch_length o first n le)) le)

-- one entry more
pub stretch_more : (o : Object) (first n : ℕ) (e : Entry) → Stands o.seen.entries (first + n) e → stretch o first (n + 1) ≡ stretch o first n ++ (first + n, e) ∷ []
stretch_more o first n e at =
    let within : first + n < length o.seen.entries = slice_get_within o.seen.entries (first + n) e at in
    take_more (drop first (numbered o)) n (0, e) (omega (arith, length-drop first (numbered o), numbered_length o))
    ∙ ap (λ (x : ℕ × Entry). stretch o first n ++ x ∷ []) (get_or-drop first (numbered o) n (0, e) ∙ numbered_at o (first + n) (0, e) within ∙ ap (λ (x : Entry). (first + n, x)) (get_or_from_slice_get o.seen.entries (first + n) e e at))

-- the kept entries of a unit are those of its stretch
pub kept_stretch : (o : Object) (u : ℕ) (unit : InUnit) → IsSound o.seen → slice_get o.seen.units u ≡ Some unit → kept_entries o u ≡ filter (is_kept_one o) (stretch o unit.first unit.count)
kept_stretch o u unit sound is =
    ap (filter p) parts ∙ filter-append p (take unit.first all) (middle ++ behind) ∙ ap (λ (xs : List (ℕ × Entry)). xs ++ filter p (middle ++ behind)) (filter_none p (take unit.first all) none_before)
    ∙ filter-append p middle behind ∙ ap (λ (xs : List (ℕ × Entry)). filter p middle ++ xs) (filter_none p behind none_behind) ∙ append-nil (filter p middle) ∙ filter_same p (is_kept_one o) middle agree
  where
    p : ℕ × Entry → Bool
    p e = eqb e.1.unit u && is_kept o e.0

    all : List (ℕ × Entry)
    all = numbered o

    middle : List (ℕ × Entry)
    middle = stretch o unit.first unit.count

    behind : List (ℕ × Entry)
    behind = drop unit.count (drop unit.first all)

    parts : all ≡ take unit.first all ++ (middle ++ behind)
    parts = sym (take-append-drop unit.first all) ∙ ap (λ (xs : List (ℕ × Entry)). take unit.first all ++ xs) (sym (take-append-drop unit.count (drop unit.first all)))

    ends : unit.first + unit.count ≤ length o.seen.entries
    ends = (unit_spans 0 o.seen.units (length o.seen.entries) u unit sound.units is).ends

    other : (k : ℕ) (e : Entry) → k < length o.seen.entries → (IsIn unit k → ⊥) → p (k, get_or o.seen.entries k e) ≡ false
    other k e lt out =
        let ne : eqb (get_or o.seen.entries k e).unit u ≡ false = ne_eqb _ _ (λ same. out (unit_has o.seen u unit k (get_or o.seen.entries k e) sound is (slice_get-get_or o.seen.entries k e lt) same)) in
        rw ne refl

    none_before : All (λ e. p e ≡ false) (take unit.first all)
    none_before j d lt =
        let below : j < unit.first = omega (arith, lt, length-take unit.first all) in
        ap p (get_or-take unit.first all j d below ∙ numbered_at o j d (omega (arith, ends))) ∙ other j d.1 (omega (arith, ends)) (λ lies. omega (arith, lies.from_first))

    none_behind : All (λ e. p e ≡ false) behind
    none_behind j d lt =
        let within : unit.first + (unit.count + j) < length o.seen.entries = omega (arith, lt, length-drop unit.count (drop unit.first all), length-drop unit.first all, numbered_length o) in
        ap p (get_or-drop unit.count (drop unit.first all) j d ∙ get_or-drop unit.first all (unit.count + j) d ∙ numbered_at o (unit.first + (unit.count + j)) d within)
        ∙ other (unit.first + (unit.count + j)) d.1 within (λ lies. omega (arith, lies.before_end))

    agree : All (λ e. p e ≡ is_kept_one o e) middle
    agree j d lt =
        let below : j < unit.count = omega (arith, lt, stretch_length o unit.first unit.count ends) in
        let e = get_or o.seen.entries (unit.first + j) d.1 in
        let at : Stands o.seen.entries (unit.first + j) e = slice_get-get_or o.seen.entries (unit.first + j) d.1 (omega (arith, ends)) in
        let same : eqb e.unit u ≡ true = eq-eqb _ _ (unit_of o.seen u unit (unit.first + j) e sound is at (record { from_first = omega arith; before_end = omega arith })) in
        let here : p (unit.first + j, e) ≡ is_kept_one o (unit.first + j, e) = rw same refl in
        subst (λ (x : ℕ × Entry). p x ≡ is_kept_one o x) (sym (stretch_at o unit.first unit.count j d below ends)) here

pub entries_are : (o : Object) (u : ℕ) (unit : InUnit) → slice_get o.seen.units u ≡ Some unit → entries_of o u ≡ stretch o unit.first unit.count
entries_are o u unit is = ap (λ (found : Option InUnit). option_map_or (λ (unit : InUnit). stretch o unit.first unit.count) found []) is
