-- Reading a range list (DWARF 4 and 5, section 2.17.3): its spans, or the first fault in the order of its items.
use Rattle.std.specs.Prelude.{ℕ, ◌==◌, List, [], ◌∷◌, Option, Result, Ok, if◌then◌else◌}
use Rattle.ds_base.specs.declared.fault.Fault.{Fault}
use Rattle.ds_base.specs.declared.fault.Kind.{Kind}
use Rattle.ds_base.specs.declared.fault.Kind.TheVariants.{Truncated, LebTooWide, BadList, BadIndex, UnknownListEntry}
use Rattle.ds_base.specs.declared.fault.Part.{Part}
use Rattle.ds_base.specs.declared.fault.Part.TheVariants as parts
use Rattle.ds_base.specs.Spot.{Spot}
use Rattle.dwarf_types.specs.declared.address.Addr.{Addr}
use Rattle.dwarf_types.specs.declared.lists.RawSpan.{RawSpan}
use Rattle.dwarf_types.specs.SectionBytes.{SectionBytes, range_bytes}
use Rattle.macho_read.specs.declared.image.Image.{Image}
use Rattle.reloc_table.specs.declared.relocation.Relocs.{Relocs}
use Rattle.list_items.specs.declared.context.ListForm.{ListForm}
use Rattle.list_items.specs.declared.context.ListForm.TheVariants as forms
use Rattle.list_items.specs.Context.{Context}
use Rattle.list_items.specs.Items.{covered}
use Rattle.list_items.specs.Lists.{Listing, items_in, list_of}

-- ---- where the lists of a unit stand, by the unit's version

abbrev pub range_part : ℕ → Part
range_part version = if version == 5 then parts.Rnglists else parts.Ranges

abbrev pub range_form : ℕ → ListForm
range_form version = if version == 5 then forms.RangeEntries else forms.Words

-- the kinds of their faults
abbrev pub range_faults : ℕ → List Kind
range_faults version = if version == 5 then Truncated ∷ LebTooWide ∷ BadList ∷ BadIndex ∷ UnknownListEntry ∷ [] else Truncated ∷ BadList ∷ []

-- ---- lists

-- nothing follows a span
abbrev pub range_at : ℕ → Option RawSpan → Spot → Result (RawSpan × Spot) Fault
range_at place span s = Ok (covered span, s)

-- what the items are understood by: the relocations of their section and those of __debug_addr, where the unit's addresses begin at a base
abbrev pub range_context : SectionBytes → Relocs → Image → ℕ → Relocs → ℕ → Context
range_context sections relocs image version addresses addr_base =
    record { form = range_form version; image = image; relocs = relocs; sections = sections; addresses = addresses; addr_base = addr_base }

-- the items of the list at a place, whose base at first is the unit's
abbrev pub range_items : SectionBytes → Relocs → Image → ℕ → ℕ → Addr → Relocs → ℕ → Listing RawSpan
range_items sections relocs image offset version base addresses addr_base =
    items_in (range_part version) (range_bytes sections version) (range_context sections relocs image version addresses addr_base) range_at offset base

-- the spans that they give
unfoldable pub ranges_of : SectionBytes → Relocs → Image → ℕ → ℕ → Addr → Relocs → ℕ → Result (List RawSpan) Fault
ranges_of sections relocs image offset version base addresses addr_base = list_of (range_items sections relocs image offset version base addresses addr_base)
