-- A list (DWARF 4 and 5, sections 2.17.3 and 2.6.2), whatever follows its spans: a listing of its items, and what they give.
use Rattle.std.specs.Prelude.{ℕ, zero, suc, ◌-◌, List, [], ◌∷◌, length, Option, Some, None, Result, Ok, Err, if◌then◌else◌}
use Rattle.std.specs.List.{filter_map}
use Rattle.ds_base.specs.declared.fault.Fault.{Fault}
use Rattle.ds_base.specs.declared.fault.Kind.TheVariants as kinds
use Rattle.ds_base.specs.declared.fault.Part.{Part}
use Rattle.ds_base.specs.Spot.{Spot, fault_at}
use Rattle.ds_base.specs.Reading.{◌>>=◌}
pub use Rattle.ds_base.specs.Reading.{unless_stopped}
use Rattle.dwarf_types.specs.declared.address.Addr.{Addr}
use Rattle.dwarf_types.specs.declared.lists.RawSpan.{RawSpan}
use Rattle.list_items.specs.declared.item.Item.{Item}
use Rattle.list_items.specs.declared.item.Item.TheVariants as items
use Rattle.list_items.specs.Context.{Context}
use Rattle.list_items.specs.Ends.{is_empty}
use Rattle.list_items.specs.Reading.{item_at}

-- ---- an item

-- what is read behind the span of an item, if it gives one, and the item begins at a place
abbrev pub Behind : Type 0 → Type 0
Behind A = ℕ → Option RawSpan → Spot → Result (A × Spot) Fault

-- what an item says: that the list ends, the base of the items behind it, or, by default or for a span, what is read behind that
pub data Says (A : Type 0) : Type 0 where
  ends : Says A
  selects : Addr → Says A
  defaults : A → Says A
  spans : RawSpan → A → Says A

-- what follows an item's span
abbrev pub said_at : {A : Type 0} → Behind A → ℕ → Item → Spot → Result (Says A × Spot) Fault
said_at behind place items.End s = Ok (ends, s)
said_at behind place (items.Base selected) s = Ok (selects selected, s)
said_at behind place items.Default s = behind place None s >>= λ x. Ok (defaults x.0, x.1)
said_at behind place (items.Span span) s = behind place (Some span) s >>= λ x. Ok (spans span x.0, x.1)

-- the next item of a list that has this base, and what follows its span
abbrev pub whole_at : {A : Type 0} → Context → Behind A → Addr → Spot → Result (Says A × Spot) Fault
whole_at c behind base s = item_at c base s >>= λ item. said_at behind s.place item.0 item.1

-- ---- the items of a list

-- an item of a list: where it begins and where it ends, and what it says
pub record ListItem (A : Type 0) : Type 0 where
  pub place : ℕ
  pub end : ℕ
  pub says : Says A

-- the items of a list, up to the mark that ends it or the first that is faulty
pub record Listing (A : Type 0) : Type 0 where
  pub items : List (ListItem A)
  pub stop : Option Fault

-- the items behind one that says so: none behind the mark that ends the list, else those under the base that was selected last
abbrev pub behind_it : {A : Type 0} → Says A → Addr → (Addr → Listing A) → Listing A
behind_it ends base more = record { items = []; stop = None }
behind_it (selects selected) base more = more selected
behind_it (defaults x) base more = more base
behind_it (spans span x) base more = more base

-- an item before those behind it
abbrev pub listed : {A : Type 0} → Spot → Result (Says A × Spot) Fault → (Says A → Spot → Listing A) → Listing A
listed first (Ok item) more =
    record (more item.0 item.1) { items = record { place = first.place; end = item.1.place; says = item.0 } ∷ (more item.0 item.1).items }
listed first (Err f) more = record { items = []; stop = Some f }

-- The items from where a cursor stands, in a list that has this base. Each takes a byte at least, so the count of the bytes that are left bounds them; where it ran out before the mark, that would be a fault.
abbrev pub items_from : {A : Type 0} → (Addr → Spot → Result (Says A × Spot) Fault) → ℕ → Addr → Spot → Listing A
items_from read zero base s = record { items = []; stop = Some (fault_at s kinds.Truncated) }
items_from read (suc left) base s = listed s (read base s) (λ says t. behind_it says base (λ b. items_from read left b t))

abbrev pub list_spot : Part → List ℕ → ℕ → Spot
list_spot part bytes offset = record { bytes = bytes; part = part; place = offset; end = length bytes }

-- the items of the list that begins at a place of the section
abbrev pub items_in : {A : Type 0} → Part → List ℕ → Context → Behind A → ℕ → Addr → Listing A
items_in part bytes c behind offset base =
    let s = list_spot part bytes offset in items_from (whole_at c behind) (s.end - s.place) base s

-- ---- what they give

-- a span that is not empty gives what is read behind it, and so does a default
abbrev pub given : {A : Type 0} → Says A → Option A
given ends = None
given (selects selected) = None
given (defaults x) = Some x
given (spans span x) = if is_empty span then None else Some x

-- what a listing means
abbrev pub list_of : {A : Type 0} → Listing A → Result (List A) Fault
list_of listing = unless_stopped listing.stop >>= λ _. Ok (filter_map (λ item. given item.says) listing.items)

-- the list that begins at a place of the section
abbrev pub list_in : {A : Type 0} → Part → List ℕ → Context → Behind A → ℕ → Addr → Result (List A) Fault
list_in part bytes c behind offset base = list_of (items_in part bytes c behind offset base)
