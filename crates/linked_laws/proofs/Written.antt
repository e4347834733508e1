-- The entries of a unit that are written, and their nodes.
use Rattle.std.proofs.Common.{◌≡◌, ◌<◌, ◌+◌, ◌-◌, ◌&&◌, ◌==◌, ℕ, Bool, true, cond, List, get_or, slice_get, Option, Some, None, sym, ap, subst, ◌∙◌, arith}
use Rattle.std.specs.List.{All, AllPairs, enumerate_from}
use Rattle.std.proofs.lemmas.Bool.{and_parts, eqb-true}
use Rattle.std.proofs.lemmas.List.Elements.{All-filter, filter_passes}
use Rattle.std.proofs.lemmas.List.FromFn.{length-enumerate_from}
use Rattle.std.proofs.lemmas.List.Kept.{AllPairs-filter}
use Rattle.std.proofs.lemmas.List.Quantifiers.{position-Some}
use Rattle.std.proofs.lemmas.Option.{get_or_from_slice_get, same_Some, slice_get-get_or, slice_get_within}
use Rattle.dwarf_types.specs.declared.entry.Entry.{Entry}
use Rattle.dwarf_types.specs.declared.entry.InUnit.{InUnit}
use Rattle.dwarf_types.specs.LinkedUnits.{Object, is_kept, kept_entries, node_number, numbered}
use Rattle.dwarf_types.specs.Live.{Stands}
use Rattle.dwarf_types.specs.Sound.{IsSound}
use Rattle.link_graph.proofs.Gathered.{All-enumerate, enumerate_at}
use Rattle.link_graph.proofs.Nodes.{number_of_entry}
use Rattle.link_graph.proofs.Units.{unit_has}

numbers_rise : {A : Type 0} (xs : List A) → AllPairs (λ a b. a.0 < b.0) (enumerate_from 0 xs)
numbers_rise xs i j d lt within =
    let long = length-enumerate_from 0 xs in
    let first = ap (λ x. x.0) (enumerate_at xs i d (omega (arith, lt, within, long))) in
    let second = ap (λ x. x.0) (enumerate_at xs j d (omega (arith, within, long))) in
    omega (arith, lt, first, second)

module _ (o : Object) (u : ℕ) where
  pub record IsWritten (x : ℕ × Entry) : Type 0 where
    pub stands : Stands o.seen.entries x.0 x.1
    pub unit : x.1.unit ≡ u
    pub kept : is_kept o x.0 ≡ true

  test : ℕ × Entry → Bool
  test x = x.1.unit == u && is_kept o x.0

  -- those of unit u that are written
  pub all_written : All IsWritten (kept_entries o u)
  all_written k d lt =
      let stands = All-filter (λ x. x.1.unit == u && is_kept o x.0) (λ x. slice_get o.seen.entries x.0 ≡ Some x.1) (numbered o) (All-enumerate o.seen.entries) k d lt in
      let passed = and_parts _ _ (filter_passes (λ x. x.1.unit == u && is_kept o x.0) (numbered o) k d lt) in
      record { stands = stands; unit = eqb-true _ u passed.0; kept = passed.1 }

  -- their numbers rise
  pub written_rise : AllPairs (λ a b. a.0 < b.0) (kept_entries o u)
  written_rise = AllPairs-filter (λ a b. a.0 < b.0) (λ x. x.1.unit == u && is_kept o x.0) (numbered o) (numbers_rise o.seen.entries)

  pub written_at : (n : ℕ) (x : ℕ × Entry) → slice_get (kept_entries o u) n ≡ Some x → IsWritten x
  written_at n x at = subst IsWritten (get_or_from_slice_get (kept_entries o u) n x x at) (all_written n x (slice_get_within (kept_entries o u) n x at))

  -- the node of an entry that is written
  pub record HasNode (k : ℕ) (e : Entry) : Type 0 where
    pub number : ℕ
    pub is : node_number o u k ≡ Some number
    pub at : slice_get (kept_entries o u) number ≡ Some (k, e)

  node_found : (k : ℕ) (e : Entry) → Stands o.seen.entries k e → (n : ℕ) → node_number o u k ≡ Some n → HasNode k e
  node_found k e at n here =
      let first = position-Some (λ x. x.0 == k) (kept_entries o u) n (k, e) here in
      let x = get_or (kept_entries o u) n (k, e) in
      let number : x.0 ≡ k = eqb-true x.0 k first.1 in
      let entry : x.1 ≡ e = same_Some x.1 e (sym (all_written n (k, e) first.0).stands ∙ ap (slice_get o.seen.entries) number ∙ at) in
      record { number = n; is = here; at = slice_get-get_or (kept_entries o u) n (k, e) first.0 ∙ ap (λ (m : ℕ). Some (m, x.1)) number ∙ ap (λ (y : Entry). Some (k, y)) entry }

  some_when : (b : Bool) (n : ℕ) (found : Option ℕ) → found ≡ cond b (Some n) None → b ≡ true → found ≡ Some n
  some_when b n found e kept = e ∙ ap (λ (c : Bool). cond c (Some n) None) kept

  pub node_of_entry : (unit : InUnit) (k : ℕ) (e : Entry) → IsSound o.seen → slice_get o.seen.units u ≡ Some unit → Stands o.seen.entries k e → e.unit ≡ u → is_kept o k ≡ true → HasNode k e
  node_of_entry unit k e sound is at same kept =
      let lies = unit_has o.seen u unit k e sound is at same in
      let place : unit.first + (k - unit.first) ≡ k = omega (arith, lies.from_first) in
      let counted = number_of_entry o u unit (k - unit.first) sound is (omega (arith, lies.from_first, lies.before_end)) in
      let found = some_when (is_kept o (unit.first + (k - unit.first))) _ (node_number o u (unit.first + (k - unit.first))) counted (ap (is_kept o) place ∙ kept) in
      let here = ap (node_number o u) (sym place) ∙ found in
      node_found k e at _ here
