-- What a symbol of an image stands for (mach-o/nlist.h, n_type and n_sect).
use Rattle.std.specs.Prelude.{ℕ, ◌==◌, ◌&&◌, not, Bool, true, false, length, bit_and, nat_lt, nat_le, if◌then◌else◌}
use Rattle.ds_base.specs.MachONumbers.{N_EXT, N_SECT, N_STAB, N_TYPE, N_UNDF}
use Rattle.macho_read.specs.declared.image.Image.{Image}
use Rattle.macho_read.specs.declared.image.Symbol.{Symbol}
use Rattle.macho_read.specs.declared.standing.Standing.{Standing}
use Rattle.macho_read.specs.declared.standing.Standing.TheVariants as standings

-- a symbol of the debugger
abbrev pub is_stab : Symbol → Bool
is_stab symbol = not (bit_and symbol.kind N_STAB == 0)

-- an undefined symbol asks for room: it is external, and its value is the size
abbrev pub is_common : Symbol → Bool
is_common symbol = not (bit_and symbol.kind N_EXT == 0) && not (symbol.value == 0)

-- the image has a section of this ordinal, which counts from 1
abbrev pub has_section : Image → ℕ → Bool
has_section image ordinal = nat_lt 0 ordinal && nat_le ordinal (length image.sections)

-- a stab stands for a number, as does a symbol of another type or of a section that isn't there
unfoldable pub standing_of : Image → Symbol → Standing
standing_of image symbol =
    if is_stab symbol then standings.Absolute
    else if bit_and symbol.kind N_TYPE == N_UNDF then (if is_common symbol then standings.Common else standings.Undefined)
    else if bit_and symbol.kind N_TYPE == N_SECT && has_section image symbol.sect then standings.Defined symbol.sect
    else standings.Absolute

abbrev pub is_placed : Standing → Bool
is_placed (standings.Defined section) = true
is_placed standings.Common = false
is_placed standings.Undefined = false
is_placed standings.Absolute = false

-- it stands for an address in a section of the image
abbrev pub is_defined : Image → Symbol → Bool
is_defined image symbol = is_placed (standing_of image symbol)
