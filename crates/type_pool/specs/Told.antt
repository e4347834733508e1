-- What each step tells its seat: of the step, the seat before, the number found and the seat after.
use Rattle.std.specs.Prelude.{◌≡◌, ℕ, ◌-◌, ◌≤◌, ◌==◌, if◌then◌else◌}
use Rattle.atomic_table.specs.Table.{Me, Step}
use Rattle.type_pool.specs.declared.view.View.{View}
use Rattle.type_pool.specs.Words.{least_at, name_at}
use Rattle.type_pool.specs.Pairs.{HasOneEach}
use Rattle.type_pool.specs.Views.{all_shares, bidden, noted, put}

abbrev pub Sitting : Type 0
Sitting = Me (Unit {0}) View

-- a cell was looked at: the name in it is noted, where there is one
abbrev pub looked : Step (Unit {0}) → Sitting → ℕ → Sitting → Type 0
looked st m found after =
    (found ≤ m.0.names) × (after.1 ≡ m.1) × HasOneEach after.0.notes
    × ((cell : ℕ) → st.word ≡ name_at cell → after.0 ≡ (if found == 0 then m.0 else noted m.0 cell (found - 1)))

-- a name was brought to a cell: it was put where the cell was empty, else the name in it is noted
abbrev pub tried : Step (Unit {0}) → Sitting → ℕ → Sitting → Type 0
tried st m found after =
    (found ≤ m.0.names) × (after.1 ≡ m.1) × HasOneEach after.0.notes
    × ((cell : ℕ) → st.word ≡ name_at cell → after.0 ≡ (if found == 0 then put m.0 cell (st.second - 1) else noted m.0 cell (found - 1)))

-- a number was bid at a cell
abbrev pub underbid : Step (Unit {0}) → Sitting → ℕ → Sitting → Type 0
underbid st m found after = (after.1 ≡ m.1) × ((cell : ℕ) → st.word ≡ least_at cell → after.0 ≡ bidden m.0 cell st.first)

-- the seat changes nothing, and learns that no share is more than all
abbrev pub weighed : Step (Unit {0}) → Sitting → ℕ → Sitting → Type 0
weighed st m found after = (after ≡ m) × (m.0.share ≤ all_shares)
