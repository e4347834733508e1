use Rattle.std.proofs.Common.{Some}
use Rattle.type_names.specs.Entries.{own_name}
use Rattle.std.proofs.lemmas.Result.{err_from_is_err_and}
use Rattle.type_names.proofs.Texts.{joined, stopped}
use Rattle.type_names.proofs.spell.write_named.Goals as goal

pub returns-in_err-write : goal.returns-in_err-write
returns-in_err-write c =
    let p = err_from_is_err_and c.from_residual.result c.from_residual.ensures.1 in
    rw (p.1, p.2) (stopped c.args.out.now.items _ _ (Some c.args.begins.now) (own_name c.args.entry.now) _ c.in_err-write.ensures)

pub returns : goal.returns
returns c = joined c.args.out.now.items _ _ (Some c.args.begins.now) (own_name c.args.entry.now) _ c.in_ok-write.ensures c.write_own_name.ensures
