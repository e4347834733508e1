use Rattle.std.proofs.Common.{arith, sym, ◌∙◌}
use Rattle.std.proofs.lemmas.Bool.{eq-eqb, ne_eqb, not-false, not-true}
use Rattle.std.proofs.lemmas.Result.{err_from_is_err_and}
use Rattle.abbrev_read.proofs.DeclarationLoop.{code_fails, table_ends, code_twice, declaration_refused, declaration_more, bytes_end, declared_more}
use Rattle.abbrev_read.proofs.Few.{table_few}
use Rattle.abbrev_read.proofs.table.read_table.Goals as goal

pub returns-in_err-code-clause-exact : goal.returns-in_err-code-clause-exact
returns-in_err-code-clause-exact c =
    let p = err_from_is_err_and c.from_residual.result c.from_residual.ensures.1 in
    rw (p.1, p.2) (code_fails _ c.loop.counter c.loop.table c.loop.cursor _ _ (omega arith) c.in_err-code.ensures.0 c.loop.invariant.0)

pub returns-then-code-eq0 : goal.returns-then-code-eq0
returns-then-code-eq0 c =
    let exact = table_ends _ c.loop.counter c.loop.table c.loop.cursor c.uleb.new.self _ _ (omega arith) c.in_ok-code.ensures (eq-eqb _ _ c.if-code-eq0.true) c.loop.invariant.0 in
    record { exact = exact; few = table_few c.args.bytes.now c.args.offset _ exact }

pub returns-then-not-new-clause-exact : goal.returns-then-not-new-clause-exact
returns-then-not-new-clause-exact c =
    let some = ne_eqb _ _ c.if-code-eq0.false in
    let seen = sym (c.loop.invariant.1 c.in_ok-code.code) ∙ not-false _ (sym c.in_ok-new.ensures.new ∙ c.if-not-new.true) in
    rw (c.fault.ensures, c.fork-first.ensures) (code_twice _ c.loop.counter c.loop.table c.loop.cursor c.uleb.new.self c.in_ok-code.code _ (omega arith) c.in_ok-code.ensures some seen c.loop.invariant.0)

pub returns-in_err-declared-clause-exact : goal.returns-in_err-declared-clause-exact
returns-in_err-declared-clause-exact c =
    let some = ne_eqb _ _ c.if-code-eq0.false in
    let fresh = sym (c.loop.invariant.1 c.in_ok-code.code) ∙ not-true _ (sym c.in_ok-new.ensures.new ∙ c.if-not-new.false) in
    let p = err_from_is_err_and c.from_residual-in_err-declared.result c.from_residual-in_err-declared.ensures.1 in
    rw (p.1, p.2) (declaration_refused _ c.loop.counter c.loop.table c.loop.cursor c.uleb.new.self c.read_declaration.new.cursor c.in_ok-code.code _ _ (omega arith) c.in_ok-code.ensures some fresh (rw (← c.fork-first.ensures) c.in_err-declared.ensures.read) c.loop.invariant.0)

pub loop-preserved : goal.loop-preserved
loop-preserved c =
    let some = ne_eqb _ _ c.if-code-eq0.false in
    let fresh = sym (c.loop.invariant.1 c.in_ok-code.code) ∙ not-true _ (sym c.in_ok-new.ensures.new ∙ c.if-not-new.false) in
    rw c.in_ok-push.ensures.ok (
      declaration_more _ c.loop.counter c.loop.table c.loop.cursor c.uleb.new.self c.read_declaration.new.cursor c.in_ok-code.code _ _ (omega arith) c.in_ok-code.ensures some fresh (rw (← c.fork-first.ensures) c.in_ok-declared.ensures.read) c.loop.invariant.0,
      declared_more _ _ c.loop.table _ c.in_ok-code.code c.in_ok-declared.ensures.code c.loop.invariant.1 c.in_ok-new.ensures.added,
    )

pub returns-clause-exact : goal.returns-clause-exact
returns-clause-exact c = rw c.fault-2.ensures (bytes_end _ c.loop.counter c.loop.table c.loop.cursor _ (omega arith) c.loop.invariant.0)
