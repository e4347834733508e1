use Rattle.std.proofs.Common.{Some, map}
use Rattle.std.specs.Prelude.{codes}
use Rattle.dwarf_types.specs.declared.entry.Entry.{Entry}
use Rattle.type_names.specs.Entries.{own_name}
use Rattle.type_names.specs.Spell.{◌&◌, all_of, scope_name}
use Rattle.type_names.specs.Tree.{above}
use Rattle.std.proofs.lemmas.Result.{err_from_is_err_and}
use Rattle.type_names.proofs.Texts.{joined, stopped}
use Rattle.type_names.proofs.spell.write_qualified_name.Goals as goal

pub returns-in_err-write_scopes : goal.returns-in_err-write_scopes
returns-in_err-write_scopes c =
    let p = err_from_is_err_and c.from_residual.result c.from_residual.ensures.1 in
    rw (p.1, p.2) (stopped c.args.out.now.items _ _ (all_of (map (λ (a : Entry). scope_name a & Some (codes "::")) (above c.args.types.now.entries.now c.args.k))) (own_name c.args.entry.now) _ c.in_err-write_scopes.ensures)

pub returns : goal.returns
returns c = joined c.args.out.now.items _ _ (all_of (map (λ (a : Entry). scope_name a & Some (codes "::")) (above c.args.types.now.entries.now c.args.k))) (own_name c.args.entry.now) _ c.in_ok-write_scopes.ensures c.write_own_name.ensures
