-- Stations between the code and the definitions: how far a cursor stands behind another one, operations that are read and put behind others, and refusals with their places.
use Rattle.std.specs.Prelude.{◌≡◌, ℕ, ◌+◌, ◌-◌, ◌<◌, ◌≤◌, List, [], ◌∷◌, ◌++◌, Result, Ok}
use Rattle.ds_base.specs.declared.fault.Fault.{Fault}
use Rattle.ds_base.specs.declared.fault.ReadError.{ReadError}
use Rattle.ds_base.specs.declared.fault.ReadError.TheVariants as errors
use Rattle.ds_base.specs.Spot.{Spot, after}
use Rattle.ds_base.specs.Reading.{◌>>=◌}
use Rattle.dwarf_types.specs.declared.expr.Op.{Op}
use Rattle.dwarf_types.specs.Gathered.{Gathered}

-- t stands at least so many bytes behind first, and not behind its end
pub record Ahead (first : Spot) (low : ℕ) (t : Spot) : Type 0 where
  pub count : ℕ
  pub is : t ≡ after first count
  pub some : low ≤ count
  pub inside : count ≤ first.end - first.place

-- an operation that is read, behind others
abbrev pub behind : List Op → Result (Op × Spot) Fault → Result (Gathered × Spot) Fault
behind before read = read >>= λ op. Ok (record { ops = before ++ op.0 ∷ []; inner = [] }, op.1)

-- a refusal with its place counted from where first is counted from
abbrev pub error_from : ℕ → ReadError → ReadError
error_from first (errors.Faulty f) = errors.Faulty (record f { place = first + f.place })
error_from first errors.NoMemory = errors.NoMemory

-- a fault stands below a limit
abbrev pub is_placed_below : ℕ → ReadError → Type 0
is_placed_below limit (errors.Faulty f) = f.place < limit
is_placed_below limit errors.NoMemory = Unit {0}
