use Rattle.std.proofs.Common.{Some}
use Rattle.type_names.specs.Spell.{named_by, qualified_name}
use Rattle.std.proofs.lemmas.Result.{err_from_is_err_and}
use Rattle.type_names.proofs.Texts.{joined, stopped}
use Rattle.type_names.proofs.spell.write_qualified.Goals as goal

pub returns-in_err-write_named_by : goal.returns-in_err-write_named_by
returns-in_err-write_named_by c =
    let p = err_from_is_err_and c.from_residual.result c.from_residual.ensures.1 in
    rw (p.1, p.2) (stopped c.args.out.now.items _ _ (Some (named_by c.args.entry.now.tag)) (qualified_name c.args.types.now.entries.now c.args.k c.args.entry.now) _ (rw c.tag.ensures at c.in_err-write_named_by.ensures))

pub returns : goal.returns
returns c = joined c.args.out.now.items _ _ (Some (named_by c.args.entry.now.tag)) (qualified_name c.args.types.now.entries.now c.args.k c.args.entry.now) _ (rw c.tag.ensures at c.in_ok-write_named_by.ensures) c.write_qualified_name.ensures
