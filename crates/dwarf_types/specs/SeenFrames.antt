-- Frames where they stand, as the values of which contracts speak.
use Rattle.std.specs.Prelude.{ℕ, List, [], ◌∷◌, Option, Some, None}
use Rattle.dwarf_types.specs.declared.frames.FrameRef.{FrameRef}
use Rattle.dwarf_types.specs.declared.frames.OutFrame.{OutFrame}
use Rattle.dwarf_types.specs.declared.frames.RawFrame.{RawFrame}
use Rattle.dwarf_types.specs.declared.frames.RawFrameRef.{RawFrameRef}

abbrev pub raw_frame_seen : RawFrameRef → RawFrame
raw_frame_seen f = record { cie = f.cie.now; at = f.at; length = f.length; code = f.code.now }

abbrev pub frame_seen : FrameRef → OutFrame
frame_seen f = record { cie = f.cie.now; address = f.address; length = f.length; code = f.code.now }

-- a frame whose first instruction is at an address of the linked program
abbrev pub at_address : RawFrame → ℕ → OutFrame
at_address f address = record { cie = f.cie; address = address; length = f.length; code = f.code }

-- the frames that have an address
abbrev pub at_addresses : List RawFrame → List (Option ℕ) → List OutFrame
at_addresses [] addresses = []
at_addresses (f ∷ frames) [] = []
at_addresses (f ∷ frames) (Some address ∷ addresses) = at_address f address ∷ at_addresses frames addresses
at_addresses (f ∷ frames) (None ∷ addresses) = at_addresses frames addresses
