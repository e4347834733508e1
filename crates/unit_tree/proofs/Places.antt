-- Where a code stands among declarations.
use Rattle.std.proofs.Common.{◌≡◌, ℕ, zero, suc, ◌+◌, ◌-◌, ◌<◌, ◌≤◌, ◌==◌, Bool, true, false, List, [], ◌∷◌, length, get_or, drop, Option, Some, None, refl, sym, ap, ◌∙◌, arith, inl, inr}
use Rattle.std.specs.Prelude.{slice_get, IsTrue}
use Rattle.std.specs.List.{position_from}
use Rattle.std.proofs.lemmas.Bool.{cases_eq, cases_lt, eq-eqb, ne_eqb}
use Rattle.dwarf_types.specs.declared.abbrev.Abbrev.{Abbrev}
use Rattle.unit_tree.specs.Table.{IsRun}
use Rattle.unit_tree.specs.Entry.{declared_as}

abbrev has : ℕ → Abbrev → Bool
has code a = a.code == code

some_is : (m n : ℕ) (o : Option ℕ) → o ≡ Some m → o ≡ Some n → m ≡ n
some_is m n o p q = cc

none_is : (n : ℕ) (o : Option ℕ) → o ≡ None → o ≡ Some n → ⊥
none_is n o p q = cc

-- the codes of a run, whose first declaration has the code behind start
abbrev AreNext : List Abbrev → ℕ → ℕ → Type 0
AreNext table start run = (i : ℕ) (d : Abbrev) → i < run → (get_or table i d).code ≡ start + i + 1

next_codes : (a : Abbrev) (table : List Abbrev) (start run : ℕ) → AreNext (a ∷ table) start (suc run) → AreNext table (start + 1) run
next_codes a table start run codes i d lt = omega (arith, codes (suc i) d (omega arith))

first_code : (a : Abbrev) (table : List Abbrev) (start run : ℕ) → AreNext (a ∷ table) start (suc run) → a.code ≡ start + 1
first_code a table start run codes = omega (arith, codes 0 a (omega arith))

-- a code of the run stands at its place
in_run : (table : List Abbrev) (start run code : ℕ) → run ≤ length table → AreNext table start run → start < code → code ≤ start + run → position_from (has code) start table ≡ Some (code - 1)
in_run table start zero code fits codes lt le = absurd (omega arith)
in_run [] start (suc run) code fits codes lt le = absurd (omega arith)
in_run (a ∷ table) start (suc run) code fits codes lt le =
    let one = first_code a table start run codes in
    elim (cases_eq a.code code) [
      | inl e ↦ rw (eq-eqb a.code code e) (ap (λ (n : ℕ). Some n) (omega arith))
      | inr ne ↦ rw (ne_eqb a.code code ne) (in_run table (start + 1) run code (omega arith) (next_codes a table start run codes) (omega (arith, ne)) (omega arith))
    ]

-- another one doesn't stand in the run
beyond_run : (table : List Abbrev) (start run code : ℕ) → run ≤ length table → AreNext table start run → (start < code → start + run < code) → position_from (has code) start table ≡ position_from (has code) (start + run) (drop run table)
beyond_run table start zero code fits codes out = ap (λ (n : ℕ). position_from (has code) n table) (omega arith)
beyond_run [] start (suc run) code fits codes out = absurd (omega arith)
beyond_run (a ∷ table) start (suc run) code fits codes out =
    let one = first_code a table start run codes in
    let more : start + suc run ≡ (start + 1) + run = omega arith in
    rw (ne_eqb a.code code (λ e. omega (arith, out (omega arith))), more) (beyond_run table (start + 1) run code (omega arith) (next_codes a table start run codes) (λ lt. omega (arith, out (omega arith))))

pub place_in_run : (table : List Abbrev) (run code : ℕ) → IsRun table run → 0 < code → code ≤ run → position_from (has code) 0 table ≡ Some (code - 1)
place_in_run table run code is lt le = in_run table 0 run code is.fits (λ i d below. omega (arith, is.codes i d below)) lt (omega arith)

pub place_beyond : (table : List Abbrev) (run code : ℕ) → IsRun table run → (0 < code → run < code) → position_from (has code) 0 table ≡ position_from (has code) run (drop run table)
place_beyond table run code is out = beyond_run table 0 run code is.fits (λ i d below. omega (arith, is.codes i d below)) (λ lt. omega (arith, out lt)) ∙ ap (λ (n : ℕ). position_from (has code) n (drop run table)) (omega arith)

-- what is found is what stands at its place
found_from : (table : List Abbrev) (start i code : ℕ) → position_from (has code) start table ≡ Some i → (start ≤ i) × (declared_as code table ≡ slice_get table (i - start))
found_from [] start i code e = absurd cc
found_from (a ∷ table) start i code e =
    elim (cases_eq a.code code) [
      | inl same ↦
          let here : position_from (has code) start (a ∷ table) ≡ Some start = rw (eq-eqb a.code code same) refl in
          let is : i ≡ start = some_is i start _ e here in
          let none : i - start ≡ 0 = omega arith in
          (omega arith, rw (eq-eqb a.code code same, none) refl)
      | inr ne ↦
          let later : position_from (has code) start (a ∷ table) ≡ position_from (has code) (start + 1) table = rw (ne_eqb a.code code ne) refl in
          let r = found_from table (start + 1) i code (sym later ∙ e) in
          let one : i - start ≡ suc (i - (start + 1)) = omega (arith, r.0) in
          (omega (arith, r.0), rw (ne_eqb a.code code ne, one) r.1)
    ]

nowhere_from : (table : List Abbrev) (start code : ℕ) → position_from (has code) start table ≡ None → declared_as code table ≡ None
nowhere_from [] start code e = refl
nowhere_from (a ∷ table) start code e =
    elim (cases_eq a.code code) [
      | inl same ↦
          let here : position_from (has code) start (a ∷ table) ≡ Some start = rw (eq-eqb a.code code same) refl in
          absurd (none_is start _ e here)
      | inr ne ↦
          let later : position_from (has code) start (a ∷ table) ≡ position_from (has code) (start + 1) table = rw (ne_eqb a.code code ne) refl in
          rw (ne_eqb a.code code ne) (nowhere_from table (start + 1) code (sym later ∙ e))
    ]

pub found_there : (table : List Abbrev) (i code : ℕ) → position_from (has code) 0 table ≡ Some i → declared_as code table ≡ slice_get table i
found_there table i code e = (found_from table 0 i code e).1 ∙ ap (slice_get table) (omega arith)

pub found_nowhere : (table : List Abbrev) (code : ℕ) → position_from (has code) 0 table ≡ None → declared_as code table ≡ None
found_nowhere table code e = nowhere_from table 0 code e

not_true : IsTrue false → ⊥
not_true h = cc

-- a code that isn't in the run is behind it
pub outside : (r : Bool) (code run : ℕ) → ((0 < code) × (code ≤ run) → IsTrue r) → r ≡ false → 0 < code → run < code
outside true code run to e lt = absurd cc
outside false code run to e lt =
    elim (cases_lt run code) [
      | inl more ↦ more
      | inr le ↦ absurd (not_true (to (lt, le)))
    ]
