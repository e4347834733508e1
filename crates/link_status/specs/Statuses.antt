-- The status with which a refusal ends a link.
use Rattle.link_status.specs.declared.refusal.Refusal.{Refusal}
use Rattle.link_status.specs.declared.refusal.Refusal.TheVariants as refusals
use Rattle.link_status.specs.declared.status.Status.{Status}
use Rattle.link_status.specs.declared.status.Status.TheVariants as statuses

-- the status for what the content of the files refuses
abbrev pub refused_status : Refusal → Status
refused_status (refusals.Faulty file fault) = statuses.Faulty file fault
refused_status (refusals.Limit which number) = statuses.Limit which number
refused_status refusals.NoMemory = statuses.NoMemory
