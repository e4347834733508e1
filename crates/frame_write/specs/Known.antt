-- A station between the code and the definitions: frames written one after the other, with the places of the CIEs that were written.
use Rattle.std.specs.Prelude.{ℕ, ◌+◌, List, [], ◌∷◌, ◌++◌, length, map, Option, is_some, if◌then◌else◌}
use Rattle.std.specs.Map.{lookup}
use Rattle.std.specs.Option.{unwrap_or}
use Rattle.std.specs.Str.{bytes_eq}
use Rattle.byteorder.specs.Endian.{little_bytes}
use Rattle.indexmap.specs.IndexMap.{IndexMap}
use Rattle.ds_base.specs.DwarfNumbers.{DW_CIE_ID}
use Rattle.ds_base.specs.declared.text_key.TextKey.{TextKey}
use Rattle.dwarf_types.specs.declared.frames.OutFrame.{OutFrame}

-- the contents of the CIEs so far, each with its place
abbrev pub Known : Type 0
Known = List (List ℕ × ℕ)

module _ {S : Type 0} where
  abbrev pub known_in : IndexMap TextKey ℕ S → Known
  known_in places = map (λ e. (e.0.text.now, e.1)) places.entries

abbrev pub place_in : Known → List ℕ → Option ℕ
place_in known cie = lookup (bytes_eq cie) known

-- the place of a CIE, which is written here where it is new
abbrev pub told : Known → List ℕ → ℕ → ℕ
told known cie at = unwrap_or (place_in known cie) at

abbrev pub with_cie : Known → List ℕ → ℕ → Known
with_cie known cie at = if is_some (place_in known cie) then known else known ++ (cie, at) ∷ []

-- a CIE: length, CIE_id, its content
abbrev pub cie_bytes : List ℕ → List ℕ
cie_bytes cie = little_bytes 4 (4 + length cie) ++ (little_bytes 4 DW_CIE_ID ++ cie)

abbrev pub new_bytes : Known → List ℕ → List ℕ
new_bytes known cie = if is_some (place_in known cie) then [] else cie_bytes cie

-- what an FDE tells of a frame: initial_location, address_range, instructions
abbrev pub described_bytes : OutFrame → List ℕ
described_bytes f = little_bytes 8 f.address ++ (little_bytes 8 f.length ++ f.code)

-- an FDE whose CIE has a place: length, CIE_pointer, what it tells
abbrev pub fde_bytes : ℕ → OutFrame → List ℕ
fde_bytes cie f = little_bytes 4 (20 + length f.code) ++ (little_bytes 4 cie ++ described_bytes f)

-- what a frame adds here: its CIE where that is new, and its FDE
abbrev pub frame_bytes : Known → OutFrame → ℕ → List ℕ
frame_bytes known f at = new_bytes known f.cie ++ fde_bytes (told known f.cie at) f

-- what frames add from a place on
abbrev pub bytes_from : Known → ℕ → List OutFrame → List ℕ
bytes_from known at [] = []
bytes_from known at (f ∷ fs) = frame_bytes known f at ++ bytes_from (with_cie known f.cie at) (at + length (frame_bytes known f at)) fs
