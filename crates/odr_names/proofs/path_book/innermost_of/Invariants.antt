use Rattle.std.proofs.Common.{◌≡◌, ◌+◌, ◌<◌, length}
use Rattle.std.specs.Option.{ForSome, option_map_or}
use Rattle.odr_names.specs.Book.{objects_in, path_above, path_in}
use Rattle.odr_names.specs.Innermost.{innermost}
use Rattle.odr_names.proofs.path_book.innermost_of.Given as goal

-- the rows passed have no such piece
abbrev pub invariant-loop-next : goal.invariant-loop-next
invariant-loop-next l = ForSome l.next (λ y. y < length l.rows) × (innermost (path_in (objects_in l.objects) l.rows l.x) ≡ innermost (path_above (objects_in l.objects) l.rows l.next))

-- each row's parent stands before it
abbrev pub decreases-loop-next : goal.decreases-loop-next
decreases-loop-next l = option_map_or (λ y. y + 1) l.next 0
