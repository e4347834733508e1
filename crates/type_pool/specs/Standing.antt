-- Where a name stands: the cells that are probed for it, and what is in them.
use Rattle.std.specs.Prelude.{◌≡◌, ℕ, ◌+◌, ◌%◌, ◌<◌, ◌≤◌, List, length, slice_index}

-- how many cells are probed for a name
abbrev pub probes : ℕ
probes = 64

-- the cell that is probed at a turn, from the name's start on and round again
abbrev pub probe : ℕ → ℕ → ℕ → ℕ
probe start cells turn = (start + turn) % cells

-- the least word of a cell at which nobody bid
abbrev pub no_bid : ℕ
no_bid = 0xffffffffffffffff

-- the name stands in the cell of a closed table
abbrev pub IsIn : List ℕ → ℕ → ℕ → Type 0
IsIn words cell name = slice_index words cell ≡ name + 1

-- of the name x, where `Holds cell name` says which names are known to be in which cells
module _ (same : ℕ → ℕ → Type 0) (Holds : ℕ → ℕ → Type 0) (start cells x : ℕ) where
  -- in each of the first cells probed is a name that is not equal to it
  abbrev pub OthersStand : ℕ → Type 0
  OthersStand turns = (turn : ℕ) → turn < turns → (name : ℕ) × Holds (probe start cells turn) name × (same name x → ⊥)

  -- it stands at the cell: that is probed, a name equal to it is there, and others are in all cells probed before
  pub record StandsAt (cell : ℕ) : Type 0 where
    pub turn : ℕ
    pub near : turn < probes
    pub probed : cell ≡ probe start cells turn
    pub name : ℕ
    pub there : Holds cell name
    pub equal : same name x
    pub others : OthersStand turn

  -- others are in all cells that are probed for it
  abbrev pub IsCrowded : Type 0
  IsCrowded = OthersStand probes

-- it stands at the cell of a closed table, and it is crowded there
abbrev pub StandsIn : (ℕ → ℕ → Type 0) → (ℕ → ℕ → ℕ) → List ℕ → ℕ → ℕ → Type 0
StandsIn same start_of words x cell = StandsAt same (IsIn words) (start_of x (length words)) (length words) x cell

abbrev pub IsCrowdedIn : (ℕ → ℕ → Type 0) → (ℕ → ℕ → ℕ) → List ℕ → ℕ → Type 0
IsCrowdedIn same start_of words x = IsCrowded same (IsIn words) (start_of x (length words)) (length words) x

-- two equal names never have two cells, and a name that stands at a cell is crowded for nobody
abbrev pub EqualNamesShareACell : ℕ → (ℕ → ℕ → Type 0) → (ℕ → ℕ → ℕ) → Type 0
EqualNamesShareACell size same start_of = (words : List ℕ) (x y cell : ℕ)
    → 1 ≤ length words → ((i : ℕ) → slice_index words i ≤ size) → x < size → y < size → same x y → StandsIn same start_of words x cell
    → ((other : ℕ) → StandsIn same start_of words y other → cell ≡ other) × (IsCrowdedIn same start_of words y → ⊥)
