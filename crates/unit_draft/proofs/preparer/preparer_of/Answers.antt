use Rattle.std.proofs.Common.{List, fold, refl, ap, ◌∙◌, arith}
use Rattle.dwarf_types.specs.declared.abbrev.Declaration.{Declaration}
use Rattle.abbrev_write.specs.Table.{declared, with_declaration}
use Rattle.abbrev_write.proofs.Tables.{table_is}
use Rattle.unit_draft.proofs.preparer.preparer_of.Goals as goal

pub returns-clause-ready : goal.returns-clause-ready
returns-clause-ready g c =
    let nodes = (g.S.UnitSource.unit c.args.unit.now).nodes in
    record {
      source = refl;
      numbered = refl;
      few = c.requires.few;
      some = c.requires.most;
      within = omega arith;
      marks = c.in_ok-parents.ensures.len;
      parents = c.in_ok-parents.ensures.marked;
      depths = c.in_ok-depths.ensures;
      declared = ap (λ (ds : List Declaration). fold with_declaration ds (declared c.args.number nodes)) c.new.ensures ∙ table_is c.args.number nodes;
      few_declared = rw c.new.ensures (omega arith);
    }
