use Rattle.std.proofs.Common.{◌≡◌, ◌∙◌, ◌<◌, ◌^◌, List, length, map, ap, subst, sym, arith}
use Rattle.dwarf_types.specs.declared.analysis.Analysis.{Analysis}
use Rattle.odr_names.specs.Book.{AreRows, objects_in, row_name}
use Rattle.odr_names.specs.Numbered.{objects_of}
use Rattle.type_names.specs.Heads.{Object}
use Rattle.type_names.specs.Names.{names}
use Rattle.odr_names.proofs.BookPaths.{length_names}
use Rattle.odr_names.proofs.Stretches.{rows_in_order}
use Rattle.odr_names.proofs.path_book.joined_book.Goals as goal

pub invariant_of-result : goal.invariant_of-result
invariant_of-result c =
    let objects : List Object = objects_of c.args.seen.now c.args.live.now in
    let count = sym (length_names objects c.in_ok-objects.rows.items) ∙ ap length c.in_ok-objects.ensures.named in
    let same : objects ≡ objects_in c.in_ok-objects.objects = (λ i. objects_of (sym c.in_ok-objects.ensures.told.1 i) (sym c.in_ok-objects.ensures.told.2 i)) in
    let rows : AreRows (objects_in c.in_ok-objects.objects) c.in_ok-objects.rows.items = subst (λ (os : List Object). AreRows os c.in_ok-objects.rows.items) same c.in_ok-objects.ensures.rows in
    record {
      told = c.in_ok-objects.ensures.told.0;
      few_objects = subst (λ (xs : List Analysis). length xs < 2 ^ 16) (sym c.in_ok-objects.ensures.told.1) c.requires.few;
      few = omega (arith, count, c.requires.total.0, c.requires.total.1);
      are_rows = rows;
      in_order = rows_in_order objects objects c.in_ok-objects.rows.items c.in_ok-objects.ensures.named;
    }

pub returns : goal.returns
returns c =
    let objects : List Object = objects_of c.args.seen.now c.args.live.now in
    let same : objects ≡ objects_in c.in_ok-objects.objects = (λ i. objects_of (sym c.in_ok-objects.ensures.told.1 i) (sym c.in_ok-objects.ensures.told.2 i)) in
    let is : map (row_name (objects_in c.in_ok-objects.objects)) c.in_ok-objects.rows.items ≡ names objects = subst (λ (os : List Object). map (row_name os) c.in_ok-objects.rows.items ≡ names objects) same c.in_ok-objects.ensures.named in
    (is, omega (arith, ap length is, c.requires.total.0, c.requires.total.1))
