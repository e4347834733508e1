use Rattle.std.proofs.Common.{◌≡◌, ◌∙◌, length, arith}
use Rattle.type_names.specs.Names.{names}
use Rattle.odr_names.proofs.JoinedRows.{count_all, each_few}
use Rattle.odr_names.proofs.together.names_together.Goals as goal

pub rows_in-total-requires-clause-each : goal.rows_in-total-requires-clause-each
rows_in-total-requires-clause-each c = each_few c.requires.own.0 c.args.own.now c.requires.own.1

pub returns-then-total-ge-POOLED_ENTRIES : goal.returns-then-total-ge-POOLED_ENTRIES
returns-then-total-ge-POOLED_ENTRIES c = λ objects are few.
    let total : c.rows_in-total.result ≡ length (names objects) = c.rows_in-total.ensures ∙ count_all objects c.args.own.now are in
    omega (arith, total, few, c.if-total-ge-POOLED_ENTRIES.true)

pub returns : goal.returns
returns c = λ objects are.
    let total : c.rows_in-total.result ≡ length (names objects) = c.rows_in-total.ensures ∙ count_all objects c.args.own.now are in
    (omega (arith, total, c.if-total-ge-POOLED_ENTRIES.false), total)
