-- What the parts of the reader know of one another: where entries stand, and which of several faults comes first.
use Rattle.std.specs.Prelude.{◌≡◌, ℕ, ◌+◌, ◌<◌, ◌≤◌, ◌&&◌, Bool, true, false, List, slice_index_or, Option, Some, None, Result, Ok, nat_le, if◌then◌else◌}
use Rattle.std.specs.List.{All, AllPairs, filter_map}
use Rattle.ds_base.specs.declared.fault.Fault.{Fault}
use Rattle.ds_base.specs.Reading.{◌>>=◌}
use Rattle.dwarf_types.specs.declared.frames.RawFrame.{RawFrame}
use Rattle.macho_read.specs.declared.image.Image.{Image}
use Rattle.reloc_table.specs.declared.relocation.Relocs.{Relocs}
use Rattle.frame_table.specs.declared.entry.FrameEntry.{FrameEntry}
use Rattle.frame_table.specs.declared.naming.Missed.{Missed}
use Rattle.frame_table.specs.Naming.{is_due, lacks_cie}
use Rattle.frame_table.specs.Description.{values_at}
use Rattle.frame_table.specs.Frames.{entries_of, tried, in_turn, frame_of}

-- each entry has its length and id, and ends before those behind it begin
pub record StandApart (entries : List FrameEntry) : Type 0 where
  pub rise : AllPairs (λ e later. e.end ≤ later.place) entries
  pub filled : All (λ e. e.place + 8 ≤ e.end) entries

-- these are the entries of the section, up to the first whose length or id is faulty
abbrev pub AreAllEntries : List ℕ → List FrameEntry → Option Fault → Type 0
AreAllEntries bytes entries stop = entries_of bytes ≡ record { entries = entries; stop = stop }

-- the frames of entries that stand one after the other, or the first fault in them
abbrev pub frames_among : Image → Relocs → List ℕ → List FrameEntry → Result (List RawFrame) Fault
frames_among image relocs bytes entries = in_turn (tried bytes entries) entries >>= λ _. Ok (filter_map (frame_of image relocs bytes entries) entries)

-- the frame of an entry, if it has one, or the fault in its values
abbrev pub frame_at : Image → Relocs → List ℕ → List FrameEntry → FrameEntry → Result (Option RawFrame) Fault
frame_at image relocs bytes entries entry = values_at bytes entry >>= λ _. Ok (frame_of image relocs bytes entries entry)

-- the entry of an index, which counts from 0
abbrev pub entry_of : List FrameEntry → ℕ → FrameEntry
entry_of entries i = slice_index_or entries i (record { place = 0; end = 0; id = 0 })

-- where the entry of an index ends
abbrev pub end_of : List FrameEntry → ℕ → ℕ
end_of entries i = (entry_of entries i).end

-- at an entry the CIE of an FDE up to it is due; both are told by their indices
abbrev pub is_due_at : ℕ → List FrameEntry → ℕ → ℕ → Bool
is_due_at size entries i at = nat_le i at && is_due size (end_of entries at) (entry_of entries i)

-- at an entry it shows that an FDE up to it names no CIE; both are told by their indices
abbrev pub is_missed : ℕ → List FrameEntry → ℕ → ℕ → Bool
is_missed size entries at i = nat_le i at && lacks_cie size (end_of entries at) entries (entry_of entries i)

-- the first index below a count with a property
abbrev pub IsFirst : (ℕ → Bool) → ℕ → Option ℕ → Type 0
IsFirst p n None = (k : ℕ) → k < n → p k ≡ false
IsFirst p n (Some first) = (first < n) × (p first ≡ true) × ((k : ℕ) → k < first → p k ≡ false)

-- an FDE that is missed: none is missed before, and none before it at the same entry
pub record IsLeast (p : ℕ → ℕ → Bool) (n bound : ℕ) (missed : Missed) : Type 0 where
  pub within : missed.at < n
  pub below : missed.entry < bound
  pub is : p missed.at missed.entry ≡ true
  pub before : (at i : ℕ) → at < missed.at → i < bound → p at i ≡ false
  pub first : (i : ℕ) → i < missed.entry → p missed.at i ≡ false

-- the FDE that is missed first, of those whose index is below a bound
abbrev pub IsFirstMissed : (ℕ → ℕ → Bool) → ℕ → ℕ → Option Missed → Type 0
IsFirstMissed p n below None = (at i : ℕ) → at < n → i < below → p at i ≡ false
IsFirstMissed p n below (Some missed) = IsLeast p n below missed

abbrev pub earlier_of : Option Missed → Option ℕ → ℕ → Option Missed
earlier_of first None entry = first
earlier_of None (Some at) entry = Some (record { at = at; entry = entry })
earlier_of (Some missed) (Some at) entry = if nat_le missed.at at then Some missed else Some (record { at = at; entry = entry })
