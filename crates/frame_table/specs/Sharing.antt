-- Which frames have a CIE in common.
use Rattle.std.specs.Prelude.{◌≡◌, ℕ, List, Option, Some, slice_get}
use Rattle.dwarf_types.specs.declared.frames.RawFrame.{RawFrame}

-- a frame stands here, and has this content of a CIE
abbrev pub HasCie : List RawFrame → ℕ → List ℕ → Type 0
HasCie frames k cie = (f : RawFrame) × (slice_get frames k ≡ Some f) × (f.cie ≡ cie)

-- of a CIE, by its index, the frame that is noted has its content
abbrev pub AreFirsts : (ℕ → List ℕ) → List RawFrame → List (Option ℕ) → Type 0
AreFirsts contents frames firsts = (i k : ℕ) → slice_get firsts i ≡ Some (Some k) → HasCie frames k (contents i)
