use Rattle.std.proofs.Common.{◌≡◌, ◌∙◌, ◌-◌, ℕ, List, length, ap, arith, subst, sym}
use Rattle.type_names.specs.Names.{Named}
use Rattle.odr_names.specs.Book.{objects_in}
use Rattle.odr_names.specs.Stretches.{AreOfObjects, last_object, object_at}
use Rattle.odr_names.proofs.Stretches.{last_is, last_small, of_objects}
use Rattle.odr_names.proofs.path_book.object_count.Goals as goal

pub returns-clause-last : goal.returns-clause-last
returns-clause-last c =
    let rows = c.names.inside.rows.items in
    let last : c.last_object.result ≡ last_object rows = c.last_object.ensures ∙ ap last_object c.deref.ensures.value in
    last ∙ subst (λ (names : List Named). last_object rows ≡ object_at names (length names - 1)) c.names.view_is (last_is (objects_in c.names.inside.objects) rows)

pub returns-clause-objects : goal.returns-clause-objects
returns-clause-objects c =
    let rows = c.names.inside.rows.items in
    let last : c.last_object.result ≡ last_object rows = c.last_object.ensures ∙ ap last_object c.deref.ensures.value in
    subst (λ (n : ℕ). AreOfObjects c.args.names.now n) (sym last)
    (subst (λ (names : List Named). AreOfObjects names (last_object rows)) c.names.view_is (of_objects c.names.inside.objects rows c.names.invariant))

pub returns-clause-few : goal.returns-clause-few
returns-clause-few c =
    let rows = c.names.inside.rows.items in
    let last : c.last_object.result ≡ last_object rows = c.last_object.ensures ∙ ap last_object c.deref.ensures.value in
    omega (arith, last, last_small c.names.inside.objects rows c.names.invariant)
