-- How a batch ends.
use Rattle.std.specs.Prelude.{ℕ, Bool, true, false, List, if◌then◌else◌}
use Rattle.std.specs.List.{find, list_any}
use Rattle.std.specs.Option.{option_map_or}
use Rattle.link_status.specs.declared.status.Status.{Status}
use Rattle.link_status.specs.declared.status.Status.TheVariants as statuses
use Rattle.batch_list.specs.declared.answer.BatchStatus.{BatchStatus}
use Rattle.batch_list.specs.declared.answer.BatchStatus.TheVariants as answers
use Rattle.batch_list.specs.declared.answer.Told.{Told}

-- the exit codes
abbrev pub code_of : BatchStatus → ℕ
code_of answers.Done = 0
code_of answers.Usage = 1
code_of answers.Missing = 2
code_of answers.ReadFault = 3
code_of (answers.BadLine line) = 4
code_of answers.Limit = 5
code_of answers.NoMemory = 7
code_of answers.MessageFault = 8
code_of (answers.Programs first) = 9

-- a program's status is neither Done nor NoMemory
abbrev pub refuses : Status → Bool
refuses statuses.Done = false
refuses statuses.NoMemory = false
refuses _ = true

abbrev pub is_refused : Told → Bool
is_refused told = refuses told.status

-- a program's status is NoMemory
abbrev pub lacks_memory : Status → Bool
lacks_memory statuses.NoMemory = true
lacks_memory _ = false

abbrev pub lacked_memory : Told → Bool
lacked_memory told = lacks_memory told.status

-- no program is refused: memory ran out for one of them, or all are done
abbrev pub unrefused : List Told → BatchStatus
unrefused told = if list_any lacked_memory told then answers.NoMemory else answers.Done

-- The answer of a batch whose programs were all told: the line of the first one that is refused, if one is.
abbrev pub answer_of : List Told → BatchStatus
answer_of told = option_map_or (λ first. answers.Programs first.line) (find is_refused told) (unrefused told)
