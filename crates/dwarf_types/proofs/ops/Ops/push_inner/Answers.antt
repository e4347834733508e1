use Rattle.std.proofs.Common.{rules}
use Rattle.dwarf_types.proofs.Gathering.{gathered_inner, gathered_stay, rows_inner, rows_stay}
use Rattle.dwarf_types.proofs.ops.Ops.push_inner.Goals as goal

pub invariant_of-self : goal.invariant_of-self
invariant_of-self c = rows_stay _ _ _ _ c.store_inner.ensures.grows c.in_err-store_inner.ensures.unchanged c.self.invariant

pub returns-in_err-store_inner-clause-unchanged : goal.returns-in_err-store_inner-clause-unchanged
returns-in_err-store_inner-clause-unchanged c =
    let kept = gathered_stay _ _ _ _ c.store_inner.ensures.grows c.in_err-store_inner.ensures.unchanged c.self.invariant in
    search rules

pub invariant_of-self-2 : goal.invariant_of-self-2
invariant_of-self-2 c =
    let row = c.in_ok-store_inner.ensures.row in
    rows_inner _ _ _ _ row.0 c.store_inner.ensures.grows row.1 row.3 c.self.invariant

pub returns-clause-ok : goal.returns-clause-ok
returns-clause-ok c =
    let row = c.in_ok-store_inner.ensures.row in
    let made = gathered_inner _ _ _ _ row.0 c.store_inner.ensures.grows row.1 c.self.invariant in
    rw (← c.self.view_is, ← row.2) made
