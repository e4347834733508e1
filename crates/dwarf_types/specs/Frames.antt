-- Frame descriptions as bytes (DWARF 4, section 6.4.1): each common information entry once, before the first description that names it.
use Rattle.std.specs.Prelude.{ℕ, ◌+◌, Bool, false, List, [], ◌∷◌, ◌++◌, length, if◌then◌else◌}
use Rattle.std.specs.List.{flat_map, sum_by}
use Rattle.std.specs.Str.{bytes_eq}
use Rattle.byteorder.specs.Endian.{little_bytes}
use Rattle.ds_base.specs.DwarfNumbers.{DW_CIE_ID}
use Rattle.ds_base.specs.FirstUse.{once}
use Rattle.dwarf_types.specs.declared.frames.OutFrame.{OutFrame}

-- an entry of the section: a CIE by what stands behind its id, or an FDE
pub data FrameEntry : Type 0 where
  Common : List ℕ → FrameEntry
  Description : OutFrame → FrameEntry

-- two CIEs of one content are one; an FDE is never another
abbrev pub same_entry : FrameEntry → FrameEntry → Bool
same_entry (Common a) (Common b) = bytes_eq a b
same_entry _ _ = false

abbrev pub frame_entries : List OutFrame → List FrameEntry
frame_entries frames = once same_entry (flat_map (λ f. Common f.cie ∷ Description f ∷ []) frames)

-- a CIE: length, CIE_id, its content; an FDE: length, CIE_pointer, initial_location, address_range, instructions
abbrev pub frame_entry_len : FrameEntry → ℕ
frame_entry_len (Common content) = 8 + length content
frame_entry_len (Description f) = 24 + length f.code

-- where the CIE of a content stands: behind the entries before it
abbrev pub cie_place : List FrameEntry → List ℕ → ℕ
cie_place [] content = 0
cie_place (e ∷ es) content = if same_entry e (Common content) then 0 else frame_entry_len e + cie_place es content

abbrev pub frame_entry_bytes : List FrameEntry → FrameEntry → List ℕ
frame_entry_bytes all (Common content) = little_bytes 4 (4 + length content) ++ (little_bytes 4 DW_CIE_ID ++ content)
frame_entry_bytes all (Description f) =
    little_bytes 4 (20 + length f.code) ++ (little_bytes 4 (cie_place all f.cie) ++ (little_bytes 8 f.address ++ (little_bytes 8 f.length ++ f.code)))

abbrev pub frames_len : List OutFrame → ℕ
frames_len frames = sum_by frame_entry_len (frame_entries frames)

abbrev pub frames_bytes : List OutFrame → List ℕ
frames_bytes frames = flat_map (frame_entry_bytes (frame_entries frames)) (frame_entries frames)
