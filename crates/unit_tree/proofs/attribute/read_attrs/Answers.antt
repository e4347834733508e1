use Rattle.std.proofs.Common.{arith, pos}
use Rattle.std.proofs.lemmas.Result.{err_from_is_err_and}
use Rattle.dwarf_types.specs.declared.abbrev.Field.{Field}
use Rattle.ds_base.proofs.Onward.{small_kept}
use Rattle.unit_tree.proofs.AttrLoop.{attr_fails, attr_more, attrs_end, one_put}
use Rattle.unit_tree.proofs.Onward.{attr_onward}
use Rattle.unit_tree.proofs.attribute.read_attrs.Goals as goal

pub returns-in_err-end-clause-read : goal.returns-in_err-end-clause-read
returns-in_err-end-clause-read c =
    let d : Field = record { name = 0; form = 0; fixed = pos 0 } in
    let p = err_from_is_err_and c.from_residual.result c.from_residual.ensures.1 in
    let h = attr_fails _ _ _ c.args.fields.now c.loop-field.field-index d _ c.loop-field.cursor _ _ c.loop-field-test.true c.in_err-end.ensures.read c.loop-field.invariant.2 in
    rw (p.1, p.2) h

pub loop-field-preserved : goal.loop-field-preserved
loop-field-preserved c =
    let d : Field = record { name = 0; form = 0; fixed = pos 0 } in (
      small_kept _ _ (attr_onward _ _ _ _ _ c.loop-field.cursor _ c.in_ok-end.ensures.read) c.loop-field.invariant.0,
      rw c.in_ok-push.ensures.ok c.loop-field.invariant.1,
      rw (c.in_ok-push.ensures.ok, c.in_ok-keep.ensures) (attr_more _ _ _ c.args.fields.now c.loop-field.field-index d _ c.loop-field.cursor _ _ _ _ c.loop-field-test.true c.in_ok-end.ensures.read c.loop-field.invariant.2),
      rw c.in_ok-push.ensures.ok (one_put _ _ _ _ c.loop-field.invariant.3 (omega arith)),
    )

pub returns-clause-read : goal.returns-clause-read
returns-clause-read c = attrs_end _ _ _ _ c.loop-field.field-index _ c.loop-field.cursor _ (omega (arith, c.loop-field-test.false)) c.loop-field.invariant.2

pub push-requires-clause-few : goal.push-requires-clause-few
push-requires-clause-few c = omega (arith, c.requires.few, c.loop-field.invariant.3)

pub push-requires-clause-room : goal.push-requires-clause-room
push-requires-clause-room c = rw c.loop-field.invariant.1 c.requires.room
