-- Reading a location list (DWARF 4 and 5, section 2.6.2): its items, or the first fault in their order.
use Rattle.std.specs.Prelude.{ℕ, ◌==◌, Bool, List, [], ◌∷◌, Option, Result, Ok, if◌then◌else◌}
use Rattle.ds_base.specs.declared.fault.Fault.{Fault}
use Rattle.ds_base.specs.declared.fault.Kind.{Kind}
use Rattle.ds_base.specs.declared.fault.Kind.TheVariants.{Truncated, LebTooWide, BadList, BadIndex, UnknownListEntry}
use Rattle.ds_base.specs.declared.fault.Part.{Part}
use Rattle.ds_base.specs.declared.fault.Part.TheVariants as parts
use Rattle.ds_base.specs.Spot.{Spot}
use Rattle.ds_base.specs.Reading.{◌>>=◌, number_at, bytes_at, uleb_at}
use Rattle.dwarf_types.specs.declared.address.Addr.{Addr}
use Rattle.dwarf_types.specs.declared.lists.RawLocation.{RawLocation}
use Rattle.dwarf_types.specs.declared.lists.RawSpan.{RawSpan}
use Rattle.dwarf_types.specs.SectionBytes.{SectionBytes, location_bytes}
use Rattle.macho_read.specs.declared.image.Image.{Image}
use Rattle.reloc_table.specs.declared.relocation.Relocs.{Relocs}
use Rattle.list_items.specs.declared.context.ListForm.{ListForm}
use Rattle.list_items.specs.declared.context.ListForm.TheVariants as forms
use Rattle.list_items.specs.Context.{Context}
use Rattle.loc_lists.specs.declared.locations.LocationItem.{LocationItem}
use Rattle.list_items.specs.Items.{covered}
use Rattle.list_items.specs.Lists.{Listing, items_in, list_in, list_of}

-- ---- where the lists of a unit stand, by the unit's version

abbrev pub location_part : ℕ → Part
location_part version = if version == 5 then parts.Loclists else parts.Loc

abbrev pub location_form : ℕ → ListForm
location_form version = if version == 5 then forms.LocationEntries else forms.Words

-- the kinds of their faults
abbrev pub location_faults : ℕ → List Kind
location_faults version = if version == 5 then Truncated ∷ LebTooWide ∷ BadList ∷ BadIndex ∷ UnknownListEntry ∷ [] else Truncated ∷ BadList ∷ []

-- ---- expressions

-- the length of an expression: a ULEB in version 5, and two bytes before
abbrev pub len_at : Bool → Spot → Result (ℕ × Spot) Fault
len_at five s = if five then uleb_at s else number_at 2 s

-- the place of an expression's first byte and its bytes, behind their length
unfoldable pub expression_at : ℕ → Spot → Result ((ℕ × List ℕ) × Spot) Fault
expression_at version s = do
  len ← len_at (version == 5) s
  bytes ← bytes_at len.0 len.1
  Ok ((len.1.place, bytes.0), bytes.1)

-- ---- lists

-- an expression follows a span, also an empty one
abbrev pub location_at : ℕ → ℕ → Option RawSpan → Spot → Result (RawLocation × Spot) Fault
location_at version place span s = do
  expression ← expression_at version s
  Ok (record { span = covered span; place = place; first = expression.0.0; bytes = expression.0.1 }, expression.1)

-- what the items are understood by: the relocations of their section and those of __debug_addr, where the unit's addresses begin at a base
abbrev pub location_context : SectionBytes → Relocs → Image → ℕ → Relocs → ℕ → Context
location_context sections relocs image version addresses addr_base =
    record { form = location_form version; image = image; relocs = relocs; sections = sections; addresses = addresses; addr_base = addr_base }

-- the items of the list at a place, whose base at first is the unit's
abbrev pub location_items : SectionBytes → Relocs → Image → ℕ → ℕ → Addr → Relocs → ℕ → Listing RawLocation
location_items sections relocs image offset version base addresses addr_base =
    items_in (location_part version) (location_bytes sections version) (location_context sections relocs image version addresses addr_base) (location_at version) offset base

-- the locations that they give
unfoldable pub locations_of : SectionBytes → Relocs → Image → ℕ → ℕ → Addr → Relocs → ℕ → Result (List RawLocation) Fault
locations_of sections relocs image offset version base addresses addr_base = list_of (location_items sections relocs image offset version base addresses addr_base)

-- ---- items that tell defaults apart

-- an expression follows a span or a default
abbrev pub item_behind : ℕ → ℕ → Option RawSpan → Spot → Result (LocationItem × Spot) Fault
item_behind version place span s = do
  expression ← expression_at version s
  Ok (record { span = span; place = place; first = expression.0.0; bytes = expression.0.1 }, expression.1)

-- the items of the list at a place, each with its span where it gives one
unfoldable pub location_items_of : SectionBytes → Relocs → Image → ℕ → ℕ → Addr → Relocs → ℕ → Result (List LocationItem) Fault
location_items_of sections relocs image offset version base addresses addr_base =
    list_in (location_part version) (location_bytes sections version) (location_context sections relocs image version addresses addr_base) (item_behind version) offset base
