use Rattle.std.proofs.Common.{Some}
use Rattle.std.specs.Prelude.{codes}
use Rattle.ds_base.specs.DwarfNumbers.{DW_AT_count, DW_AT_upper_bound}
use Rattle.dwarf_types.specs.Moves.{value_of}
use Rattle.type_names.specs.Spell.{count_in}
use Rattle.std.proofs.lemmas.Result.{err_from_is_err_and}
use Rattle.type_names.proofs.Texts.{joined, stopped}
use Rattle.type_names.proofs.spell.write_count_and_mark.Goals as goal

pub returns-in_err-write_count : goal.returns-in_err-write_count
returns-in_err-write_count c =
    let p = err_from_is_err_and c.from_residual.result c.from_residual.ensures.1 in
    rw (p.1, p.2) (stopped c.args.out.now.items _ _ (count_in (value_of DW_AT_count c.args.entry.now) (value_of DW_AT_upper_bound c.args.entry.now)) (Some (codes ";")) _ c.in_err-write_count.ensures)

pub returns : goal.returns
returns c = joined c.args.out.now.items _ _ (count_in (value_of DW_AT_count c.args.entry.now) (value_of DW_AT_upper_bound c.args.entry.now)) (Some (codes ";")) _ c.in_ok-write_count.ensures c.write.ensures
