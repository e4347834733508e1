-- How the section of frames is spelled where no relocation stands in it (DWARF 4, section 6.4.1).
use Rattle.std.specs.Prelude.{◌≡◌, ◌<◌, ◌^◌, ◌+◌, ◌==◌, ℕ, false, List, [], ◌∷◌, ◌++◌, length, Option, Some, None, if◌then◌else◌}
use Rattle.std.specs.List.{All, filter_map, flat_map}
use Rattle.std.specs.Option.{option_map}
use Rattle.byteorder.specs.Endian.{little_bytes}
use Rattle.ds_base.specs.DwarfNumbers.{DW_CIE_ID, LENGTH_RESERVED}
use Rattle.dwarf_types.specs.declared.address.Addr.TheVariants as addrs
use Rattle.dwarf_types.specs.declared.frames.RawFrame.{RawFrame}

-- an entry: a CIE by what stands behind its id, or an FDE by CIE_pointer, initial_location, address_range and its instructions
pub data Entry : Type 0 where
  cie : List ℕ → Entry
  fde : ℕ → ℕ → ℕ → List ℕ → Entry

-- CIE_id, or CIE_pointer
abbrev pub id_of : Entry → ℕ
id_of (cie content) = DW_CIE_ID
id_of (fde pointer address range code) = pointer

-- what stands behind it
abbrev pub content_of : Entry → List ℕ
content_of (cie content) = content
content_of (fde pointer address range code) = little_bytes 8 address ++ (little_bytes 8 range ++ code)

-- length, which counts all behind it, then the id, and the rest
abbrev pub entry_bytes : Entry → List ℕ
entry_bytes e = little_bytes 4 (4 + length (content_of e)) ++ (little_bytes 4 (id_of e) ++ content_of e)

-- what fits its numbers; the greatest lengths are reserved, and no FDE has the id of a CIE
abbrev pub IsSpelled : Entry → Type 0
IsSpelled (cie content) = 4 + length content < LENGTH_RESERVED
IsSpelled (fde pointer address range code) = (20 + length code < LENGTH_RESERVED) × (pointer < 2 ^ 32) × ((pointer == DW_CIE_ID) ≡ false) × (address < 2 ^ 64) × (range < 2 ^ 64)

-- ---- what they describe

abbrev pub common : Entry → Option (List ℕ)
common (cie content) = Some content
common (fde pointer address range code) = None

-- the content of the CIE that begins at a place, among entries the first of which begins at another
abbrev pub cie_content : ℕ → List Entry → ℕ → Option (List ℕ)
cie_content from [] place = None
cie_content from (e ∷ entries) place = if from == place then common e else cie_content (from + length (entry_bytes e)) entries place

-- the frame of an FDE, by the CIE that stands at its CIE_pointer
abbrev pub frame_told : List Entry → Entry → Option RawFrame
frame_told all (cie content) = None
frame_told all (fde pointer address range code) = option_map (λ content. record { cie = content; at = addrs.Fixed address; length = range; code = code }) (cie_content 0 all pointer)

-- the CIE of an FDE is there
abbrev pub IsNamed : List Entry → Entry → Type 0
IsNamed all (cie content) = Unit {0}
IsNamed all (fde pointer address range code) = (content : List ℕ) × (cie_content 0 all pointer ≡ Some content)

-- entries one after the other fill the section, each FDE with its CIE among them, and the frames are those of the FDEs in their order
pub record SpellsFrames (bytes : List ℕ) (frames : List RawFrame) : Type 0 where
  pub entries : List Entry
  pub whole : bytes ≡ flat_map entry_bytes entries
  pub each : All IsSpelled entries
  pub named : All (IsNamed entries) entries
  pub told : frames ≡ filter_map (frame_told entries) entries
