-- What a cell stands for.
use Rattle.std.specs.Prelude.{◌≡◌, ℕ, ◌+◌, ◌^◌, ◌<◌, ◌≤◌, List, [], ◌++◌, length, get_or, All, IfSome, IsSome, Option, None, Result, Ok, Err, map, ⊤}
use Rattle.std.specs.Option.{option_map, unwrap_or}
use Rattle.ds_base.specs.declared.fault.NoMemory.{NoMemory}
use Rattle.ds_base.specs.Reading.{text_of}
use Rattle.dwarf_types.specs.declared.address.Addr.TheVariants as addrs
use Rattle.dwarf_types.specs.declared.address.Place.{Place}
use Rattle.dwarf_types.specs.declared.expr.Op.{Op}
use Rattle.dwarf_types.specs.declared.expr.PlainOp.{PlainOp}
use Rattle.dwarf_types.specs.declared.lists.Location.{Location}
use Rattle.dwarf_types.specs.declared.put.NewValue.{NewValue}
use Rattle.dwarf_types.specs.declared.put.NewValue.TheVariants as news
use Rattle.dwarf_types.specs.declared.sides.Held.{Held}
use Rattle.dwarf_types.specs.declared.sides.InnerRow.{InnerRow}
use Rattle.dwarf_types.specs.declared.sides.ItemRow.{ItemRow}
use Rattle.dwarf_types.specs.declared.sides.Kind.{Kind}
use Rattle.dwarf_types.specs.declared.sides.Kind.TheVariants as kinds
use Rattle.dwarf_types.specs.declared.sides.OpRow.{OpRow}
use Rattle.dwarf_types.specs.declared.sides.Sides.{Sides}
use Rattle.dwarf_types.specs.declared.runs.Run.{Run}
use Rattle.dwarf_types.specs.declared.value.Value.{Value}
use Rattle.dwarf_types.specs.declared.value.Value.TheVariants as values
use Rattle.dwarf_types.specs.Put.{number_form}
use Rattle.dwarf_types.specs.Runs.{InRun, no_run, run_of}

-- an address that is stored, and has gone nowhere
abbrev pub stored_place : ℕ → Place
stored_place number = record { at = addrs.Fixed number; linked = None; linked_end = None }

abbrev pub no_place : Place
no_place = stored_place 0

abbrev pub run_at : Sides → ℕ → Run
run_at s i = get_or s.runs.items i no_run

-- the same of operations, spans and items of location lists
abbrev pub list_at : Sides → ℕ → Run
list_at s i = get_or s.lists.items i no_run

-- ---- operations

abbrev pub address_at : Sides → Option ℕ → Option Place
address_at s at = option_map (λ i. get_or s.addresses.items i no_place) at

abbrev pub inner_of : Sides → InnerRow → PlainOp
inner_of s r = record { code = r.code; bytes = run_of s.bytes.items r.bytes; address = address_at s r.address; base = r.base }

abbrev pub op_of : Sides → OpRow → Op
op_of s r = record { code = r.code; bytes = run_of s.bytes.items r.bytes; address = address_at s r.address; base = r.base; inner = map (inner_of s) (run_of s.inner.items r.inner) }

abbrev pub item_of : Sides → ItemRow → Location
item_of s r = record { span = r.span; ops = map (op_of s) (run_of s.ops r.ops) }

-- ---- values

-- the value of a cell, by its kind, its form and its payload
abbrev pub held_value : Sides → Kind → ℕ → ℕ → Value
held_value s kinds.Small form n = values.Number (number_form form) n
held_value s kinds.Large form i = values.Number (number_form form) (get_or s.large.items i 0)
held_value s kinds.Text form place = values.Text (unwrap_or (text_of s.bytes.items place) [])
held_value s kinds.OwnText form i = values.Text (run_of s.bytes.items (run_at s i))
held_value s kinds.Wide form i = values.Wide (run_of s.bytes.items (run_at s i))
held_value s kinds.Block form i = values.Block form (run_of s.bytes.items (run_at s i))
held_value s kinds.Stored form n = values.Address (stored_place n)
held_value s kinds.Address form i = values.Address (get_or s.places.items i no_place)
held_value s kinds.Ref form n = values.Ref n
held_value s kinds.Expr form i = values.Expr (map (op_of s) (run_of s.ops (list_at s i)))
held_value s kinds.Ranges form i = values.Ranges (run_of s.spans.items (list_at s i))
held_value s kinds.Locations form i = values.Locations (map (item_of s) (run_of s.items.items (list_at s i)))
held_value s kinds.Lines form n = values.Lines
held_value s kinds.Offset form n = values.Offset n
held_value s kinds.LargeOffset form i = values.Offset (get_or s.large.items i 0)

-- ---- payloads that lie in their columns

abbrev pub IsAddress : Sides → Option ℕ → Type 0
IsAddress s at = IfSome at (λ i. i < length s.addresses.items)

abbrev pub InnerWithin : Sides → InnerRow → Type 0
InnerWithin s r = InRun s.bytes.items r.bytes × IsAddress s r.address

abbrev pub OpWithin : Sides → OpRow → Type 0
OpWithin s r = (InRun s.bytes.items r.bytes × IsAddress s r.address) × (InRun s.inner.items r.inner × All (InnerWithin s) (run_of s.inner.items r.inner))

abbrev pub ItemWithin : Sides → ItemRow → Type 0
ItemWithin s r = InRun s.ops r.ops × All (OpWithin s) (run_of s.ops r.ops)

-- the place of a run, which lies in its column
abbrev pub IsRun : {A : Type 0} → Sides → List A → ℕ → Type 0
IsRun s items i = (i < length s.runs.items) × InRun items (run_at s i)

abbrev pub IsList : {A : Type 0} → Sides → List A → ℕ → Type 0
IsList s items i = (i < length s.lists.items) × InRun items (list_at s i)

abbrev pub IsWithin : Sides → Kind → ℕ → Type 0
IsWithin s kinds.Small n = ⊤
IsWithin s kinds.Large i = i < length s.large.items
IsWithin s kinds.Text place = IsSome (text_of s.bytes.items place)
IsWithin s kinds.OwnText i = IsRun s s.bytes.items i
IsWithin s kinds.Wide i = IsRun s s.bytes.items i
IsWithin s kinds.Block i = IsRun s s.bytes.items i
IsWithin s kinds.Stored n = ⊤
IsWithin s kinds.Address i = i < length s.places.items
IsWithin s kinds.Ref n = ⊤
IsWithin s kinds.Expr i = IsList s s.ops i × All (OpWithin s) (run_of s.ops (list_at s i))
IsWithin s kinds.Ranges i = IsList s s.spans.items i
IsWithin s kinds.Locations i = IsList s s.items.items i × All (ItemWithin s) (run_of s.items.items (list_at s i))
IsWithin s kinds.Lines n = ⊤
IsWithin s kinds.Offset n = ⊤
IsWithin s kinds.LargeOffset i = i < length s.large.items

-- ---- columns that grow

abbrev pub Begins : {A : Type 0} → List A → List A → Type 0
Begins {A} old new = (more : List A) × (new ≡ old ++ more)

-- each column begins with what stood in it
pub record Grows (old new : Sides) : Type 0 where
  pub large : Begins old.large.items new.large.items
  pub bytes : Begins old.bytes.items new.bytes.items
  pub runs : Begins old.runs.items new.runs.items
  pub lists : Begins old.lists.items new.lists.items
  pub places : Begins old.places.items new.places.items
  pub addresses : Begins old.addresses.items new.addresses.items
  pub spans : Begins old.spans.items new.spans.items
  pub ops : Begins old.ops new.ops
  pub inner : Begins old.inner.items new.inner.items
  pub items : Begins old.items.items new.items.items

-- each column has what another one has
pub record AreCopies (old new : Sides) : Type 0 where
  pub large : new.large.items ≡ old.large.items
  pub bytes : new.bytes.items ≡ old.bytes.items
  pub runs : new.runs.items ≡ old.runs.items
  pub lists : new.lists.items ≡ old.lists.items
  pub places : new.places.items ≡ old.places.items
  pub addresses : new.addresses.items ≡ old.addresses.items
  pub spans : new.spans.items ≡ old.spans.items
  pub ops : new.ops ≡ old.ops
  pub inner : new.inner.items ≡ old.inner.items
  pub items : new.items.items ≡ old.items.items

-- ---- how many items the columns have

-- in those into which only values that are read are put
abbrev pub read_items : Sides → ℕ
read_items s = length s.large.items + length s.runs.items

-- and in those of addresses and lists
abbrev pub own_items : Sides → ℕ
own_items s = length s.places.items + length s.lists.items

-- how many of the latter a cell of a kind has: it keeps that one for good
abbrev pub own_item : Kind → ℕ
own_item kinds.Address = 1
own_item kinds.Expr = 1
own_item kinds.Ranges = 1
own_item kinds.Locations = 1
own_item kind = 0

abbrev pub HaveNone : Sides → Type 0
HaveNone s = (read_items s ≡ 0) × (own_items s ≡ 0)

-- 32 bits hold the place of one item more
abbrev pub HaveRoom : Sides → Type 0
HaveRoom s = (read_items s < 2 ^ 32) × (own_items s < 2 ^ 32)

abbrev pub AreAsMany : Sides → Sides → Type 0
AreAsMany old new = (read_items new ≡ read_items old) × (own_items new ≡ own_items old)

-- the item of an address is a new one
abbrev pub IsNew : Sides → Kind → ℕ → Type 0
IsNew s kinds.Address i = i ≡ length s.places.items
IsNew s kind n = ⊤

-- a value that is read puts one item at most into the columns, and none where it fails
abbrev pub PutsRead : Sides → Sides → Result Held NoMemory → Type 0
PutsRead old new (Ok h) = (read_items new ≤ read_items old + 1) × (own_items new ≡ own_items old + own_item h.kind) × IsNew old h.kind h.payload
PutsRead old new (Err e) = AreAsMany old new

-- one that is understood puts the item that its cell has of its own, if any
abbrev pub PutsOwn : Sides → Sides → Result Held NoMemory → Type 0
PutsOwn old new (Ok h) = (read_items new ≡ read_items old) × (own_items new ≡ own_items old + own_item h.kind) × IsNew old h.kind h.payload
PutsOwn old new (Err e) = AreAsMany old new

-- ---- a value in the place of another

-- what may be put into a cell of a kind: anything where it has no item of its own, else an address for an address
abbrev pub MayHold : Kind → NewValue → Type 0
MayHold kind (news.Address place) = (kind ≡ kinds.Address → ⊥) → own_item kind ≡ 0
MayHold kind new = own_item kind ≡ 0

-- the item of an address is a new one, or that of the address before
abbrev pub IsNewOver : Held → Sides → Kind → ℕ → Type 0
IsNewOver was s kinds.Address i = i < length s.places.items → (was.kind ≡ kinds.Address) × (i ≡ was.payload)
IsNewOver was s kind n = ⊤

-- another value of a cell: the columns have as many items more as the cell has of its own
abbrev pub PutsOver : Held → Sides → Sides → Result Held NoMemory → Type 0
PutsOver was old new (Ok h) = (read_items new ≡ read_items old) × (own_items new + own_item was.kind ≡ own_items old + own_item h.kind) × IsNewOver was old h.kind h.payload
PutsOver was old new (Err e) = AreAsMany old new

-- all values stay but that of a cell, and those of cells that would share its address
pub record KeepsOthers (was : Held) (old new : Sides) : Type 0 where
  pub value : (kind : Kind) (form n : ℕ) → IsWithin old kind n → (was.kind ≡ kinds.Address → kind ≡ kinds.Address → n ≡ was.payload → ⊥) → held_value new kind form n ≡ held_value old kind form n
  pub within : (kind : Kind) (n : ℕ) → IsWithin old kind n → IsWithin new kind n
