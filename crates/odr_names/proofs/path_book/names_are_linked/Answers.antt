use Rattle.std.proofs.Common.{List, ℕ, ◌<◌, length, subst}
use Rattle.type_names.specs.Names.{Named}
use Rattle.odr_names.specs.Book.{objects_in}
use Rattle.odr_names.specs.Numbered.{IsLinkedUp}
use Rattle.odr_names.proofs.BookPaths.{names_linked}
use Rattle.odr_names.proofs.path_book.names_are_linked.Goals as goal

pub returns : goal.returns
returns c = subst (λ (names : List Named). (x : ℕ) → x < length names → IsLinkedUp names x) c.names.view_is (names_linked (objects_in c.names.inside.objects) c.names.inside.rows.items c.names.invariant.are_rows)
