-- The exit codes of the statuses.
use Rattle.std.specs.Prelude.{ℕ}
use Rattle.link_status.specs.declared.status.Status.{Status}
use Rattle.link_status.specs.declared.status.Status.TheVariants as statuses

abbrev pub code_of : Status → ℕ
code_of statuses.Done = 0
code_of statuses.Usage = 1
code_of (statuses.Missing file) = 2
code_of (statuses.ReadFault file) = 3
code_of (statuses.Faulty file fault) = 4
code_of (statuses.Limit which number) = 5
code_of (statuses.WriteFault file) = 6
code_of statuses.NoMemory = 7
code_of statuses.MessageFault = 8
