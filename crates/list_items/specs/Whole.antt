-- A list of which no byte is left out, each item read under the base that stands there.
use Rattle.std.specs.Prelude.{◌≡◌, ◌<◌, ◌≤◌, List, [], ◌∷◌, Option, Some, None, Result, Ok, Err}
use Rattle.std.specs.List.{filter_map}
use Rattle.ds_base.specs.declared.fault.Fault.{Fault}
use Rattle.ds_base.specs.Spot.{Spot}
use Rattle.dwarf_types.specs.declared.address.Addr.{Addr}
use Rattle.list_items.specs.Lists.{Says, ends, selects, defaults, spans, ListItem, Listing, given}

-- what a cursor reads under a base
abbrev pub Reader : Type 0 → Type 0
Reader A = Addr → Spot → Result (Says A × Spot) Fault

-- an item is what is read where a cursor stands, under a base: it takes a byte at least, and ends in the section
pub record IsNext {A : Type 0} (read : Reader A) (base : Addr) (s : Spot) (item : ListItem A) : Type 0 where
  pub is : read base s ≡ Ok (item.says, record s { place = item.end })
  pub begins : item.place ≡ s.place
  pub some : s.place < item.end
  pub inside : item.end ≤ s.end

-- what comes behind an item: nothing behind the mark that ends the list, else more under the base that is selected, or under the same base
abbrev pub Follow : {A : Type 0} → Says A → Addr → List (ListItem A) → Option Fault → (Addr → Type 0) → Type 0
Follow ends base more stop under = (more ≡ []) × (stop ≡ None)
Follow (selects selected) base more stop under = under selected
Follow (defaults x) base more stop under = under base
Follow (spans span x) base more stop under = under base

-- Items that follow each other without a gap from where a cursor stands, under a base: each is what is read where the one before ends. They end with the mark, or where the next one is wrong.
abbrev pub Fill : {A : Type 0} → Reader A → Addr → Spot → List (ListItem A) → Option Fault → Type 0
Fill read base s [] None = ⊥
Fill read base s [] (Some f) = read base s ≡ Err f
Fill read base s (item ∷ more) stop = IsNext read base s item × Follow item.says base more stop (λ b. Fill read b (record s { place = item.end }) more stop)

-- what a list answers: all that its items give, where they end with the mark, and else the fault at which they stop
abbrev pub IsAnswer : {A : Type 0} → Listing A → Result (List A) Fault → Type 0
IsAnswer listing (Ok xs) = (listing.stop ≡ None) × (xs ≡ filter_map (λ item. given item.says) listing.items)
IsAnswer listing (Err f) = listing.stop ≡ Some f

-- items fill the list, and it answers what they give
pub record IsWhole {A : Type 0} (read : Reader A) (base : Addr) (first : Spot) (listing : Listing A) (answer : Result (List A) Fault) : Type 0 where
  pub fill : Fill read base first listing.items listing.stop
  pub gives : IsAnswer listing answer
