-- All frame descriptions of `__debug_frame` (DWARF 4, section 6.4.1), or the first fault: a listing of the section's entries, and what it means.
use Rattle.std.specs.Prelude.{◌≡◌, ℕ, zero, suc, ◌<◌, ◌==◌, List, [], ◌∷◌, length, nat_le, Option, Some, None, Result, Ok, Err, if◌then◌else◌}
use Rattle.std.specs.List.{filter, filter_map}
use Rattle.ds_base.specs.declared.fault.Fault.{Fault}
use Rattle.ds_base.specs.declared.fault.Kind.TheVariants as kinds
use Rattle.ds_base.specs.Spot.{fault_at}
use Rattle.ds_base.specs.Reading.{◌>>=◌}
pub use Rattle.ds_base.specs.Reading.{unless_stopped}
use Rattle.dwarf_types.specs.declared.frames.RawFrame.{RawFrame}
use Rattle.macho_read.specs.declared.image.Image.{Image}
use Rattle.reloc_table.specs.declared.relocation.Relocs.{Relocs}
use Rattle.frame_table.specs.declared.entry.FrameEntry.{FrameEntry}
use Rattle.frame_table.specs.Entry.{entry_at, content_of, frame_spot, is_cie}
use Rattle.frame_table.specs.Naming.{cie_at, all_named}
use Rattle.frame_table.specs.Description.{Said, description_at, values_at, framed}

-- ---- entries

-- the entries of a section, up to the first whose length or id is faulty
pub record Listing : Type 0 where
  pub entries : List FrameEntry
  pub stop : Option Fault

-- an entry before those that begin where it ends
abbrev pub listed : Result FrameEntry Fault → (ℕ → Listing) → Listing
listed (Ok entry) more = record (more entry.end) { entries = entry ∷ (more entry.end).entries }
listed (Err f) more = record { entries = []; stop = Some f }

-- The entries from a place to the section's end. Each takes a byte at least, so a count of more than the bytes that are left never runs out; it would be a fault.
abbrev pub entries_from : ℕ → List ℕ → ℕ → Listing
entries_from zero bytes place = record { entries = []; stop = Some (fault_at (frame_spot bytes place (length bytes)) kinds.Truncated) }
entries_from (suc left) bytes place =
    if place == length bytes then record { entries = []; stop = None }
    else listed (entry_at bytes place) (λ end. entries_from left bytes end)

-- the entries of the section
abbrev pub entries_of : List ℕ → Listing
entries_of bytes = entries_from (suc (length bytes)) bytes 0

-- Entries end at a place: the section ends there, or the entry that begins there is wrong.
abbrev pub Ends : List ℕ → ℕ → Option Fault → Type 0
Ends bytes place None = place ≡ length bytes
Ends bytes place (Some f) = (place < length bytes) × (entry_at bytes place ≡ Err f)

-- entries that follow each other without a gap from a place on: each is the one that begins where the one before ends
abbrev pub Fill : List ℕ → ℕ → List FrameEntry → Option Fault → Type 0
Fill bytes from [] stop = Ends bytes from stop
Fill bytes from (entry ∷ more) stop = (entry_at bytes from ≡ Ok entry) × (entry.place ≡ from) × (from < entry.end) × Fill bytes entry.end more stop

-- ---- the first fault

-- the entries up to one and with it: those that do not begin behind it
abbrev pub up_to : List FrameEntry → FrameEntry → List FrameEntry
up_to entries entry = filter (λ e. nat_le e.place entry.place) entries

-- An entry is tried: first the CIEs that are due where it ends, among the entries up to it, and then its own values.
abbrev pub tried : List ℕ → List FrameEntry → FrameEntry → Result (Unit {0}) Fault
tried bytes entries entry = do
  _ ← all_named (length bytes) entry.end (up_to entries entry)
  values_at bytes entry

-- the first fault of those that are tried in turn
abbrev pub in_turn : {A : Type 0} → (A → Result (Unit {0}) Fault) → List A → Result (Unit {0}) Fault
in_turn try [] = Ok tt
in_turn try (x ∷ more) = try x >>= λ _. in_turn try more

-- ---- the frames

-- the frame of an FDE, if its CIE and its values are there
abbrev pub frame_from : Image → Relocs → List ℕ → FrameEntry → Option FrameEntry → Result Said Fault → Option RawFrame
frame_from image relocs bytes entry (Some cie) (Ok said) = Some (framed image relocs entry (content_of bytes cie) said)
frame_from image relocs bytes entry None said = None
frame_from image relocs bytes entry (Some cie) (Err f) = None

-- what an entry describes; a CIE describes nothing of its own
abbrev pub frame_of : Image → Relocs → List ℕ → List FrameEntry → FrameEntry → Option RawFrame
frame_of image relocs bytes entries entry =
    if is_cie entry then None else frame_from image relocs bytes entry (cie_at entries entry.id) (description_at bytes entry)

-- What a listing means. An entry whose length or id is faulty stands behind all that are listed, so these are tried first. Each FDE has its CIE among all entries.
abbrev pub frames_listed : Image → Relocs → List ℕ → Listing → Result (List RawFrame) Fault
frames_listed image relocs bytes listing = do
  _ ← in_turn (tried bytes listing.entries) listing.entries
  _ ← unless_stopped listing.stop
  Ok (filter_map (frame_of image relocs bytes listing.entries) listing.entries)

-- the frames of the section
unfoldable pub frames_of : Image → Relocs → List ℕ → Result (List RawFrame) Fault
frames_of image relocs bytes = frames_listed image relocs bytes (entries_of bytes)
