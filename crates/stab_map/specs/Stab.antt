-- What a symbol says to the debug map (mach-o/stab.h), by its kind and by whether it has a name.
use Rattle.std.specs.Prelude.{ℕ, ◌==◌, ◌||◌, not, Bool, true, false, length, Option, Some, None, if◌then◌else◌}
use Rattle.ds_base.specs.MachONumbers.{N_GSYM, N_FUN, N_STSYM, N_LCSYM, N_SO, N_OSO}
use Rattle.macho_read.specs.declared.image.Symbol.{Symbol}
use Rattle.stab_map.specs.declared.stab.Stab.{Stab}
use Rattle.stab_map.specs.declared.stab.Stab.TheVariants as stabs

abbrev pub is_named : Symbol → Bool
is_named s = not (length s.name == 0)

-- N_OSO opens an object or ends one, N_SO without a name ends one, N_FUN is a function or its size, and the others with a name are variables
unfoldable pub stab_of : Symbol → Stab
stab_of s =
    if s.kind == N_OSO then (if is_named s then stabs.Object else stabs.End)
    else if s.kind == N_SO then (if is_named s then stabs.Silent else stabs.End)
    else if s.kind == N_FUN then (if is_named s then stabs.Function else stabs.Size)
    else if s.kind == N_STSYM || s.kind == N_LCSYM then (if is_named s then stabs.Static else stabs.Silent)
    else if s.kind == N_GSYM then (if is_named s then stabs.Global else stabs.Silent)
    else stabs.Other

-- the stab is one of the six kinds
abbrev pub is_used : Stab → Bool
is_used stabs.Other = false
is_used _ = true

-- an object ends before it
abbrev pub is_bound : Stab → Bool
is_bound stabs.Object = true
is_bound stabs.End = true
is_bound _ = false

-- the size that it tells, if it tells one
abbrev pub size_in : Stab → ℕ → Option ℕ
size_in stabs.Size value = Some value
size_in _ value = None

-- it asks for the address of its name
abbrev pub asks : Stab → Bool
asks stabs.Global = true
asks _ = false
