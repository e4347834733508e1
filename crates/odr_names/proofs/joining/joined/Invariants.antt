use Rattle.std.proofs.Common.{◌≡◌, ◌++◌, length}
use Rattle.odr_names.specs.Numbered.{objects_of}
use Rattle.odr_names.specs.Joining.{AreJoinedTo}
use Rattle.odr_names.proofs.joining.joined.Given as goal

-- the objects so far are joined
abbrev pub invariant-loop-one : goal.invariant-loop-one
invariant-loop-one l =
    (l.yielded ++ l.one-iterator.rest.items ≡ l.initial.one-iterator.rest.items)
    × AreJoinedTo (objects_of l.seen l.live) l.names.items l.rows.items (length l.yielded)
