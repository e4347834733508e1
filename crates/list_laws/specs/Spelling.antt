-- How range and location lists are spelled where no relocation stands among their items (DWARF 4, sections 2.17.3 and 2.6.2; DWARF 5, sections 7.25 and 7.29).
use Rattle.std.specs.Prelude.{◌≡◌, ◌<◌, ◌^◌, ◌+◌, ◌==◌, ℕ, Bool, true, false, List, [], ◌∷◌, ◌++◌, length, replicate, drop, Option, Some, None, if◌then◌else◌}
use Rattle.byteorder.specs.Endian.{little_bytes}
use Rattle.dwarf_types.specs.declared.address.Addr.{Addr}
use Rattle.dwarf_types.specs.declared.address.Addr.TheVariants as addrs
use Rattle.dwarf_types.specs.declared.lists.RawLocation.{RawLocation}
use Rattle.dwarf_types.specs.declared.lists.RawSpan.{RawSpan}
use Rattle.dwarf_types.specs.Addresses.{plus}
use Rattle.dwarf_types.specs.Spelled.{IsNumber, IsUleb}
use Rattle.list_items.specs.declared.context.ListForm.{ListForm}
use Rattle.list_items.specs.declared.context.ListForm.TheVariants as forms
use Rattle.list_items.specs.declared.item.Item.{Item}
use Rattle.list_items.specs.declared.item.Item.TheVariants as items
use Rattle.list_items.specs.Context.{Context}
use Rattle.list_items.specs.Ends.{belong_together, is_empty}
use Rattle.list_items.specs.Items.{covered}
use Rattle.list_items.specs.Spelling.{SpellsItem}
use Rattle.list_items.specs.Words.{largest_offset}
use Rattle.loc_lists.specs.declared.locations.LocationItem.{LocationItem}

-- ---- an item of version 4

abbrev pub two_words : ℕ → ℕ → List ℕ
two_words low high = little_bytes 8 low ++ little_bytes 8 high

-- two numbers that count from a base
abbrev pub behind_base : Addr → ℕ → ℕ → RawSpan
behind_base base low high = record { low = plus base low; high = plus base high }

-- Two words: two zeros end the list; behind "the value of the largest representable address offset" stands a base; all others are the ends of a span, counted from the base.
pub data SpellsPair (base : Addr) (bytes : List ℕ) (item : Item) : Type 0 where
  is_end : bytes ≡ replicate 16 0 → item ≡ items.End → SpellsPair base bytes item
  is_base : (selected : ℕ) → selected < 2 ^ 64 → bytes ≡ two_words largest_offset selected → item ≡ items.Base (addrs.Fixed selected) → SpellsPair base bytes item
  is_span : (low high : ℕ) → 0 < low + high → low < largest_offset → high < 2 ^ 64 → bytes ≡ two_words low high → belong_together (behind_base base low high) ≡ true
      → item ≡ items.Span (behind_base base low high) → SpellsPair base bytes item

-- ---- an item of either version

-- up to what follows its span, in a list that has this base
abbrev pub SpellsAny : ListForm → Context → Addr → List ℕ → Item → Type 0
SpellsAny forms.Words c base = SpellsPair base
SpellsAny forms.RangeEntries c base = SpellsItem c base
SpellsAny forms.LocationEntries c base = SpellsItem c base

abbrev pub SpellsNext : Context → Addr → List ℕ → Item → Type 0
SpellsNext c base = SpellsAny c.form c base

-- ---- what follows the span of an item

-- By the place of the item, its span if it gives one, and the place of the bytes: what they spell.
abbrev pub Follows : Type 0 → Type 1
Follows A = ℕ → Option RawSpan → ℕ → List ℕ → A → Type 0

-- in a range list nothing
abbrev pub FollowsRange : Follows RawSpan
FollowsRange item span place bytes given = (bytes ≡ []) × (given ≡ covered span)

-- a length, in version 5 a ULEB, and before that two bytes
abbrev pub SpellsLength : Bool → List ℕ → ℕ → Type 0
SpellsLength true = IsUleb
SpellsLength false = IsNumber 2

-- in a location list the length of an expression, and the expression
pub record FollowsItem (version item : ℕ) (span : Option RawSpan) (place : ℕ) (bytes : List ℕ) (given : LocationItem) : Type 0 where
  pub size : List ℕ
  pub is : bytes ≡ size ++ given.bytes
  pub counts : SpellsLength (version == 5) size (length given.bytes)
  pub covers : given.span ≡ span
  pub begins : given.place ≡ item
  pub behind : given.first ≡ place + length size

-- the same item, where a default covers all numbers
abbrev pub as_location : LocationItem → RawLocation
as_location item = record { span = covered item.span; place = item.place; first = item.first; bytes = item.bytes }

pub record FollowsLocation (version item : ℕ) (span : Option RawSpan) (place : ℕ) (bytes : List ℕ) (given : RawLocation) : Type 0 where
  pub of : LocationItem
  pub spells : FollowsItem version item span place bytes of
  pub is : given ≡ as_location of

-- ---- lists

-- What a list gives from an item on, under a base: nothing at its end, nothing for a base, which counts from there on, and what follows a default or a span; that of an empty span is left out.
pub data SpellsList {A : Type 0} (c : Context) (Behind : Follows A) : Addr → ℕ → List ℕ → List A → Type 0 where
  at_end : (base : Addr) (place : ℕ) (bytes : List ℕ) → SpellsNext c base bytes items.End → SpellsList c Behind base place bytes []
  at_base : (base selected : Addr) (place : ℕ) (bytes more : List ℕ) (given : List A) → SpellsNext c base bytes (items.Base selected) → SpellsList c Behind selected (place + length bytes) more given
      → SpellsList c Behind base place (bytes ++ more) given
  at_default : (base : Addr) (place : ℕ) (bytes behind more : List ℕ) (x : A) (given : List A) → SpellsNext c base bytes items.Default → Behind place None (place + length bytes) behind x
      → SpellsList c Behind base (place + length bytes + length behind) more given → SpellsList c Behind base place (bytes ++ (behind ++ more)) (x ∷ given)
  at_span : (base : Addr) (place : ℕ) (span : RawSpan) (bytes behind more : List ℕ) (x : A) (given : List A) → SpellsNext c base bytes (items.Span span) → Behind place (Some span) (place + length bytes) behind x
      → SpellsList c Behind base (place + length bytes + length behind) more given → SpellsList c Behind base place (bytes ++ (behind ++ more)) (if is_empty span then given else x ∷ given)

-- a list stands at a place of a section, whatever follows it there
pub record StandsAt {A : Type 0} (c : Context) (Behind : Follows A) (base : Addr) (section : List ℕ) (offset : ℕ) (given : List A) : Type 0 where
  pub bytes : List ℕ
  pub more : List ℕ
  pub is : drop offset section ≡ bytes ++ more
  pub spells : SpellsList c Behind base offset bytes given
