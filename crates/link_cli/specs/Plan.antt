-- The plan that the command's words give: the command is a simple one of `clap`, whose own definition of matches says what its words are.
use Rattle.std.specs.Prelude.{ℕ, ◌≤◌, ◌==◌, ◌&&◌, Bool, false, not, true, List, [], ◌∷◌, ◌++◌, Option, Some, None, codes, nat_le, option_and_then, option_map, slice_index, if◌then◌else◌}
use Rattle.std.specs.Char.{is_digit}
use Rattle.std.specs.List.{list_all}
use Rattle.std.specs.Option.{option_map_or}
use Rattle.std.specs.Str.{bytes_eq}
use Rattle.std.specs.Str.Parse.{digits_value}
use Rattle.clap.specs.Words.{App, Kinds, Row, Rule, Text, fault_of, first_of, matches_of, new_app, new_rule}
use Rattle.clap.specs.declared.builder.action.ArgAction.TheVariants.{SetTrue}
use Rattle.link_cli.specs.declared.plan.Mode.{Mode}
use Rattle.link_cli.specs.declared.plan.Mode.TheVariants as modes
use Rattle.link_cli.specs.Words.{names_file}

-- ---- the command

-- an option with a value, by its letter
abbrev pub letter : Text → ℕ → Rule
letter id code = record (new_rule id) { short = Some code }

-- an option without a value, by its name
abbrev pub flag : Text → Rule
flag name = record (new_rule name) { long = Some name; action = Some SetTrue }

-- an option with a value, by its name
abbrev pub named : Text → Rule
named name = record (new_rule name) { long = Some name }

-- the one word that is no option, and has to be there
abbrev pub program_word : Rule
program_word = record (new_rule (codes "EXE")) { required = true }

-- `[-o OUT] [-j N] [--no-odr] [--keep-going] [--statistics] [--dump-map] [--generate N] EXE`
abbrev pub rules : List Rule
rules =
    letter (codes "o") 0x6f ∷ letter (codes "j") 0x6a ∷ flag (codes "no-odr") ∷ flag (codes "keep-going") ∷ flag (codes "statistics")
    ∷ flag (codes "dump-map") ∷ named (codes "generate") ∷ program_word ∷ []

-- The program's own name is none of the words, and there are no flags for help and version.
abbrev pub plain_command : App
plain_command = record (new_app (codes "dsymlink")) { top = record (new_app (codes "dsymlink")).top { no_binary_name = true; disable_help_flag = true; disable_version_flag = true } }

-- the command
abbrev pub command : App
command = record plain_command { top = record plain_command.top { rules = rules } }

-- ---- what the words give

-- a plan, its texts by their bytes
pub record Planned : Type 0 where
  pub exe : List ℕ
  pub out : List ℕ
  pub workers : ℕ
  pub odr : Bool
  pub keep_going : Bool
  pub statistics : Bool
  pub mode : Mode

-- a flag is among the words: its value is then `true`
abbrev pub is_set : Option Text → Bool
is_set value = option_map_or (bytes_eq (codes "true")) value false

-- the program, which has the name of a file
abbrev pub exe_of : Option Text → Option (List ℕ)
exe_of None = None
exe_of (Some exe) = if names_file exe then Some exe else None

-- the bundle of a program: the one that is named, which isn't empty, or that beside the program
abbrev pub out_of : List ℕ → Option Text → Option (List ℕ)
out_of exe None = Some (exe ++ codes ".dSYM")
out_of exe (Some []) = None
out_of exe (Some (b ∷ bs)) = Some (b ∷ bs)

-- a number from 1 to `most`
abbrev pub up_to : ℕ → ℕ → Option ℕ
up_to most n = if nat_le 1 n && nat_le n most then Some n else None

-- the number from 1 to `most` that decimal digits write, without a sign and without a leading zero
abbrev pub number_up_to : ℕ → Text → Option ℕ
number_up_to most text = if list_all (λ b. is_digit b 10) text && not (slice_index text 0 == 0x30) then up_to most (digits_value 10 text) else None

-- the number of workers, which is 4 where none is named
abbrev pub workers_of : Option Text → Option ℕ
workers_of None = Some 4
workers_of (Some text) = number_up_to 64 text

-- a number of workers that can be named
abbrev pub HasWorkers : ℕ → Type 0
HasWorkers workers = (1 ≤ workers) × (workers ≤ 64)

-- what is done with the program; nothing where two modes are asked, or the number of objects is none from 1 to 1000
abbrev pub mode_of : Bool → Option Text → Option Mode
mode_of dump_map None = Some (if dump_map then modes.Map else modes.Link)
mode_of dump_map (Some text) = if dump_map then None else option_map (λ count. modes.Generate count) (number_up_to 1000 text)

-- the program is generated, and not read
abbrev pub is_generated : Mode → Bool
is_generated (modes.Generate count) = true
is_generated modes.Link = false
is_generated modes.Map = false

-- a number of objects that can be named, where the program is generated
abbrev pub HasCount : Mode → Type 0
HasCount (modes.Generate count) = (1 ≤ count) × (count ≤ 1000)
HasCount modes.Link = Unit {0}
HasCount modes.Map = Unit {0}

-- what remains of the options
abbrev pub plan_with : List Row → List ℕ → ℕ → Mode → List ℕ → Planned
plan_with rows exe workers mode out =
    record {
      exe = exe;
      out = out;
      workers = workers;
      odr = not (is_set (first_of (codes "no-odr") rows));
      keep_going = is_set (first_of (codes "keep-going") rows);
      statistics = is_set (first_of (codes "statistics") rows);
      mode = mode;
    }

-- the plan of what the command found in the words
abbrev pub plan_in : List Row → Option Planned
plan_in rows =
    option_and_then (λ exe.
    option_and_then (λ workers.
    option_and_then (λ mode. option_map (plan_with rows exe workers mode) (out_of exe (first_of (codes "o") rows)))
    (mode_of (is_set (first_of (codes "dump-map") rows)) (first_of (codes "generate") rows)))
    (workers_of (first_of (codes "j") rows)))
    (exe_of (first_of (codes "EXE") rows))

-- the plan of what the command found, where it refuses nothing
abbrev pub plan_given : Kinds → List Row → Option Planned
plan_given [] rows = plan_in rows
plan_given (kind ∷ kinds) rows = None

-- The plan of the words: none exactly where the command refuses them, the program names no file, the bundle's name is empty, the number of workers is none from 1 to 64, or of objects none from 1 to 1000, or both the map and a generated program are asked.
abbrev pub plan_of : List Text → Option Planned
plan_of words = plan_given (fault_of command words) (matches_of command words)
