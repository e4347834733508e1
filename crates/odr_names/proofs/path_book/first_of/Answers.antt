use Rattle.std.proofs.Common.{List, subst}
use Rattle.type_names.specs.Names.{Named}
use Rattle.odr_names.specs.Book.{objects_in}
use Rattle.odr_names.specs.Stretches.{IsFirstOf}
use Rattle.odr_names.proofs.Stretches.{first_is}
use Rattle.odr_names.proofs.path_book.first_of.Goals as goal

pub returns : goal.returns
returns c =
    let objects = objects_in c.names.inside.objects in
    let rows = c.names.inside.rows.items in
    subst (λ (names : List Named). IsFirstOf names c.args.object c.count_before.result) c.names.view_is
    (first_is objects rows c.args.object c.count_before.result (rw c.deref.ensures.value at c.count_before.ensures.within) (rw c.deref.ensures.value at c.count_before.ensures.parted))
