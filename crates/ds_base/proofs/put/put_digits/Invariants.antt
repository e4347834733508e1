use Rattle.std.proofs.Common.{◌≡◌, ◌+◌, ◌-◌}
use Rattle.ds_base.specs.Leb.{leb_digits}
use Rattle.ds_base.specs.Room.{put}
use Rattle.ds_base.proofs.put.put_digits.Given as goal

-- what is still to be put makes the room that all of it makes
abbrev pub invariant-loop-i : goal.invariant-loop-i
invariant-loop-i l = put l.room (l.at + l.i) (leb_digits l.flip (l.len - l.i) l.left) ≡ put l.fn.room l.at (leb_digits l.flip l.len l.n)
