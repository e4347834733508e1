use Rattle.std.proofs.Common.{◌∙◌, List, ap, sym}
use Rattle.std.specs.List.{list_any}
use Rattle.dwarf_types.specs.declared.entry.InUnit.{InUnit}
use Rattle.type_names.specs.Heads.{has_one_definition}
use Rattle.type_names.proofs.Unmerged.{told_none}
use Rattle.type_names.proofs.pooled.names_of.Goals as goal

pub returns-then-not-has_merged_unit : goal.returns-then-not-has_merged_unit
returns-then-not-has_merged_unit c =
    let none = ap (λ (units : List InUnit). list_any (λ unit. has_one_definition unit.language) units) (sym c.as_slice.ensures) ∙ sym c.has_merged_unit.ensures ∙ c.if-not-has_merged_unit.true in
    told_none c.args.seen.now c.args.live.now none c.len.result c.no_names.result c.len.ensures c.no_names.ensures.pooled c.no_names.ensures.in_heads c.no_names.ensures.spelled
