use Rattle.std.proofs.Common.{Some}
use Rattle.std.specs.Prelude.{codes}
use Rattle.type_names.specs.Spell.{scope_name}
use Rattle.std.proofs.lemmas.Result.{err_from_is_err_and}
use Rattle.type_names.proofs.Texts.{joined, stopped}
use Rattle.type_names.proofs.spell.write_scope.Goals as goal

pub returns-in_err-write_scope_name : goal.returns-in_err-write_scope_name
returns-in_err-write_scope_name c =
    let p = err_from_is_err_and c.from_residual.result c.from_residual.ensures.1 in
    rw (p.1, p.2) (stopped c.args.out.now.items _ _ (scope_name c.args.entry.now) (Some (codes "::")) _ c.in_err-write_scope_name.ensures)

pub returns : goal.returns
returns c = joined c.args.out.now.items _ _ (scope_name c.args.entry.now) (Some (codes "::")) _ c.in_ok-write_scope_name.ensures c.write.ensures
