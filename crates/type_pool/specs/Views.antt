-- What a seat knows, and what each step of the table makes of it.
use Rattle.std.specs.Prelude.{ℕ, ◌+◌, ◌-◌, ◌/◌, [], ◌∷◌, ◌++◌}
use Rattle.type_pool.specs.declared.view.View.{View}

-- the shares of all seats together
abbrev pub all_shares : ℕ
all_shares = 64

-- the first seat has every share, and knows nothing
abbrev pub first_view : ℕ → ℕ → View
first_view cells names = record { cells = cells; names = names; share = all_shares; notes = []; puts = []; bids = [] }

-- the name was found in the cell
abbrev pub noted : View → ℕ → ℕ → View
noted v cell name = record { cells = v.cells; names = v.names; share = v.share; notes = (cell, name) ∷ v.notes; puts = v.puts; bids = v.bids }

-- the name was put into the cell
abbrev pub put : View → ℕ → ℕ → View
put v cell name = record { cells = v.cells; names = v.names; share = v.share; notes = (cell, name) ∷ v.notes; puts = (cell, name) ∷ v.puts; bids = v.bids }

-- the number was bid at the cell
abbrev pub bidden : View → ℕ → ℕ → View
bidden v cell number = record { cells = v.cells; names = v.names; share = v.share; notes = v.notes; puts = v.puts; bids = (cell, number) ∷ v.bids }

-- what a seat keeps of its share as another is split off, and what the other gets: all notes, no puts and no bids
abbrev pub kept_half : View → View
kept_half v = record { cells = v.cells; names = v.names; share = v.share - v.share / 2; notes = v.notes; puts = v.puts; bids = v.bids }

abbrev pub given_half : View → View
given_half v = record { cells = v.cells; names = v.names; share = v.share / 2; notes = v.notes; puts = []; bids = [] }

-- one seat with all that two had
abbrev pub united : View → View → View
united v w = record { cells = v.cells; names = v.names; share = v.share + w.share; notes = v.notes ++ w.notes; puts = v.puts ++ w.puts; bids = v.bids ++ w.bids }

-- a seat that was joined to another
abbrev pub spent : View
spent = record { cells = 0; names = 0; share = 0; notes = []; puts = []; bids = [] }
