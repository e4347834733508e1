-- Stations of the proof: where the one pass over the symbols stands, and what the symbols that are left make of it.
use Rattle.std.specs.Prelude.{◌≡◌, ℕ, ◌+◌, not, List, [], ◌∷◌, ◌++◌, Option, Result, Ok, Err}
use Rattle.std.specs.Str.{is_utf8}
use Rattle.ds_base.specs.declared.fault.Fault.{Fault}
use Rattle.ds_base.specs.declared.fault.Kind.TheVariants as kinds
use Rattle.ds_base.specs.declared.fault.ReadError.{ReadError}
use Rattle.ds_base.specs.declared.fault.ReadError.TheVariants as read_errors
use Rattle.ds_base.specs.Reading.{◌>>=◌, refuse_if, or_fault}
use Rattle.macho_read.specs.declared.image.Symbol.{Symbol}
use Rattle.stab_map.specs.declared.object.MapEntry.{MapEntry}
use Rattle.stab_map.specs.declared.object.MapObject.{MapObject}
use Rattle.stab_map.specs.declared.pass.State.{State}
use Rattle.stab_map.specs.declared.pass.State.TheVariants as states
use Rattle.stab_map.specs.DebugMap.{map_fault, gather, function, size_after, entry_at, stretch, object_of, object_at}

-- the objects that have ended, then an open one with its entries so far and those to come, then the others
abbrev pub map_inside : (List ℕ → Option ℕ) → List MapObject → List ℕ → List MapEntry → ℕ → List Symbol → Result (List MapObject) Fault
map_inside address objects path entries index symbols = do
  more ← gather (entry_at address) index (stretch symbols)
  others ← gather (object_at address) index symbols
  Ok (objects ++ object_of path (entries ++ more) ∷ others)

-- the whole map, from the objects that have ended, the state, and the symbols that are left
abbrev pub map_from : (List ℕ → Option ℕ) → List MapObject → State → ℕ → List Symbol → Result (List MapObject) Fault
map_from address objects states.Outside index symbols = gather (object_at address) index symbols >>= λ others. Ok (objects ++ others)
map_from address objects (states.Inside current) index symbols = map_inside address objects current.path.now current.entries index symbols
map_from address objects (states.Named current start) index symbols =
    or_fault (size_after (stretch symbols)) (map_fault kinds.BadStab start.index)
    >>= λ size. map_inside address objects current.path.now (current.entries ++ function start.name.now start.linked size ∷ []) index symbols

-- One more symbol was read: whatever follows it, the map stays the same, or its first fault is this one.
abbrev pub Steps : (List ℕ → Option ℕ) → Result State ReadError → List MapObject → List MapObject → State → ℕ → Symbol → Type 0
Steps address (Ok state) objects before was index s = (rest : List Symbol) → map_from address objects state (index + 1) rest ≡ map_from address before was index (s ∷ rest)
Steps address (Err (read_errors.Faulty fault)) objects before was index s = (rest : List Symbol) → map_from address before was index (s ∷ rest) ≡ Err fault
Steps address (Err read_errors.NoMemory) objects before was index s = Unit {0}

-- the same of a symbol at which no object ends, whatever the objects before and the addresses are
abbrev pub StepsAlone : Result State ReadError → State → ℕ → Symbol → Type 0
StepsAlone answer was index s = (address : List ℕ → Option ℕ) (objects : List MapObject) → Steps address answer objects objects was index s

-- the path of the object that a symbol opens, and no entries
unfoldable pub opened : ℕ → Symbol → Result (List ℕ × List MapEntry) Fault
opened index s = do
  _ ← refuse_if (not (is_utf8 s.name)) (map_fault kinds.BadPath index)
  Ok (s.name, [])

-- the whole map where no symbol is left
abbrev pub whole_map : List MapObject → State → Result (List MapObject) Fault
whole_map objects states.Outside = Ok objects
whole_map objects (states.Inside current) = Ok (objects ++ object_of current.path.now current.entries ∷ [])
whole_map objects (states.Named current start) = Err (map_fault kinds.BadStab start.index)
