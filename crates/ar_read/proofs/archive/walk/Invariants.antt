use Rattle.std.proofs.Common.{◌≡◌, ◌-◌, ℕ, List, length}
use Rattle.ar_read.specs.Archive.{found_in, members_of}
use Rattle.ar_read.specs.Table.{or_else, content_in}
use Rattle.ar_read.proofs.Listing.{from_place}
use Rattle.ar_read.proofs.archive.walk.Given as goal

-- what the table tells, or else what is found from here on, is what it told, or else what is found in all
abbrev pub invariant-loop-place : goal.invariant-loop-place
invariant-loop-place l = (name : List ℕ) → or_else (content_in l.contents name) (found_in name (from_place l.bytes l.place)) ≡ or_else (content_in l.fn.contents name) (found_in name (members_of l.bytes))

abbrev pub decreases-loop-place : goal.decreases-loop-place
decreases-loop-place l = length l.bytes - l.place
