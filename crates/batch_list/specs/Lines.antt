-- The programs that a batch's list names.
use Rattle.std.specs.Prelude.{ℕ, is_none, length, nat_eq, ◌==◌, Bool, not, ◌&&◌, List, [], Option, Some, None, Result, Ok, Err, codes, slice_index, if◌then◌else◌}
use Rattle.std.specs.List.{enumerate_from, filter, find, slice_split}
use Rattle.std.specs.Option.{option_map_or}
use Rattle.std.specs.Str.{bytes_eq}
use Rattle.stab_map.specs.Origin.{text_in}
use Rattle.link_status.specs.Names.{last_part}

-- what ends a line
abbrev pub is_newline : ℕ → Bool
is_newline b = b == 0x0a

-- a path that names a file: its last part is not empty and not that of a folder
abbrev pub names_file : List ℕ → Bool
names_file path = not (bytes_eq (last_part path) []) && not (bytes_eq (last_part path) (codes ".")) && not (bytes_eq (last_part path) (codes ".."))

-- a text that names a program: it is no option, and names a file
abbrev pub names_program : List ℕ → Bool
names_program text = not (slice_index text 0 == 0x2d) && names_file text

-- a text, where it names a program
abbrev pub program_named : Option (List ℕ) → Option (List ℕ)
program_named None = None
program_named (Some text) = if names_program text then Some text else None

-- the program that a line names, if it names one
abbrev pub program_in : List ℕ → Option (List ℕ)
program_in line = program_named (text_in line)

-- a line's number, and its bytes
abbrev pub Line : Type 0
Line = ℕ × List ℕ

-- it is not empty
abbrev pub is_filled : Line → Bool
is_filled line = not (nat_eq (length line.1) 0)

-- it names no program
abbrev pub is_refused : Line → Bool
is_refused line = is_none (program_in line.1)

-- these lines, where each names a program, or the number of the first one that does not
abbrev pub accepted : List Line → Result (List Line) ℕ
accepted lines = option_map_or (λ line. Err line.0) (find is_refused lines) (Ok lines)

-- those of these lines that are not empty, counted from 1
abbrev pub programs_among : List (List ℕ) → Result (List Line) ℕ
programs_among lines = accepted (filter is_filled (enumerate_from 1 lines))

-- The lines of a list that are not empty, each of which names a program; or the number of the first one that names none.
abbrev pub programs_of : List ℕ → Result (List Line) ℕ
programs_of list = programs_among (slice_split is_newline list)
