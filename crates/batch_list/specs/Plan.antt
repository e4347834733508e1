-- The plan that a batch's words give: the command is a simple one of `clap`, whose own definition of matches says what its words are.
use Rattle.std.specs.Prelude.{ℕ, ◌-◌, ◌≤◌, ◌&&◌, Bool, false, not, true, List, [], ◌∷◌, Option, Some, None, codes, nat_le, option_and_then, option_map, if◌then◌else◌}
use Rattle.std.specs.Option.{option_map_or}
use Rattle.std.specs.Str.{bytes_eq}
use Rattle.clap.specs.Words.{App, Kinds, Row, Rule, Text, fault_of, first_of, matches_of, new_app, new_rule}
use Rattle.clap.specs.declared.builder.action.ArgAction.TheVariants.{SetTrue}

-- ---- the command

-- an option with a value, by its letter
abbrev pub letter : Text → ℕ → Rule
letter id code = record (new_rule id) { short = Some code }

-- an option without a value, by its name
abbrev pub flag : Text → Rule
flag name = record (new_rule name) { long = Some name; action = Some SetTrue }

-- the one word that is no option, and has to be there
abbrev pub list_word : Rule
list_word = record (new_rule (codes "LIST")) { required = true }

-- `[-j N] [--no-odr] [--keep-going] LIST`
abbrev pub rules : List Rule
rules = letter (codes "j") 0x6a ∷ flag (codes "no-odr") ∷ flag (codes "keep-going") ∷ list_word ∷ []

-- The program's own name is none of the words, and there are no flags for help and version.
abbrev pub plain_command : App
plain_command = record (new_app (codes "dsymbatch")) { top = record (new_app (codes "dsymbatch")).top { no_binary_name = true; disable_help_flag = true; disable_version_flag = true } }

-- the command
abbrev pub command : App
command = record plain_command { top = record plain_command.top { rules = rules } }

-- ---- what the words give

-- a plan, its list by the bytes of its name
pub record Planned : Type 0 where
  pub list : List ℕ
  pub workers : ℕ
  pub odr : Bool
  pub keep_going : Bool

-- a flag is among the words: its value is then `true`
abbrev pub is_set : Option Text → Bool
is_set value = option_map_or (bytes_eq (codes "true")) value false

-- the number from 1 to 8 that a text is: its decimal digit
abbrev pub digit_up_to_eight : Text → Option ℕ
digit_up_to_eight [] = None
digit_up_to_eight (b ∷ []) = if nat_le 0x31 b && nat_le b 0x38 then Some (b - 0x30) else None
digit_up_to_eight (b ∷ c ∷ bs) = None

-- how many programs are linked at the same time: 2 where no number is named
abbrev pub workers_of : Option Text → Option ℕ
workers_of None = Some 2
workers_of (Some text) = digit_up_to_eight text

-- a number of programs that can be named
abbrev pub HasWorkers : ℕ → Type 0
HasWorkers workers = (1 ≤ workers) × (workers ≤ 8)

-- what remains of the options
abbrev pub plan_with : List Row → List ℕ → ℕ → Planned
plan_with rows list workers =
    record {
      list = list;
      workers = workers;
      odr = not (is_set (first_of (codes "no-odr") rows));
      keep_going = is_set (first_of (codes "keep-going") rows);
    }

-- the plan of what the command found in the words
abbrev pub plan_in : List Row → Option Planned
plan_in rows =
    option_and_then (λ list. option_map (plan_with rows list) (workers_of (first_of (codes "j") rows)))
    (first_of (codes "LIST") rows)

-- the plan of what the command found, where it refuses nothing
abbrev pub plan_given : Kinds → List Row → Option Planned
plan_given [] rows = plan_in rows
plan_given (kind ∷ kinds) rows = None

-- The plan of the words: none exactly where the command refuses them, or the number of programs that are linked at the same time is none from 1 to 8.
abbrev pub plan_of : List Text → Option Planned
plan_of words = plan_given (fault_of command words) (matches_of command words)
