-- Items up to an end mark, as the directories and the files of a table before version 5 are listed (DWARF 4, section 6.2.4).
use Rattle.std.specs.Prelude.{◌≡◌, ◌<◌, List, [], ◌∷◌, Option, Some, None, Result, Ok, Err}
use Rattle.ds_base.specs.declared.fault.Fault.{Fault}
use Rattle.ds_base.specs.Spot.{Spot}

-- Items that follow each other from where a cursor stands: each is what is read where the one before ends. Their end is the spot behind the mark, or the fault of the next one, which is wrong.
abbrev pub Follow : {A : Type 0} → (Spot → Result (Option A × Spot) Fault) → Spot → List A → Result Spot Fault → Type 0
Follow read s [] (Ok behind) = read s ≡ Ok (None, behind)
Follow read s [] (Err f) = read s ≡ Err f
Follow read s (x ∷ more) end = (t : Spot) × (read s ≡ Ok (Some x, t)) × (s.place < t.place) × Follow read t more end

-- what such items answer: all of them and the spot behind the mark, or the fault of the first that is wrong
abbrev pub AreListed : {A : Type 0} → (Spot → Result (Option A × Spot) Fault) → Spot → Result (List A × Spot) Fault → Type 0
AreListed read s (Ok (items, behind)) = Follow read s items (Ok behind)
AreListed {A = A} read s (Err f) = (items : List A) × Follow read s items (Err f)
