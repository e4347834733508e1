use Rattle.std.proofs.Common.{rules, ◌≡◌, [], ◌∷◌, ◌++◌, ℕ, List, Option, map, length, arith, ap, ◌∙◌}
use Rattle.dwarf_types.specs.declared.address.Place.{Place}
use Rattle.dwarf_types.specs.declared.sides.OpRow.{OpRow}
use Rattle.dwarf_types.specs.declared.runs.Run.{Run}
use Rattle.dwarf_types.specs.Cells.{inner_of}
use Rattle.dwarf_types.specs.Gathered.{Gathered, gathered_of}
use Rattle.dwarf_types.specs.Runs.{run_between}
use Rattle.dwarf_types.proofs.Gathering.{gathered_put, gathered_stay, open_part, rows_put, rows_stay}
use Rattle.dwarf_types.proofs.ops.Ops.push.Goals as goal

pub invariant_of-self : goal.invariant_of-self
invariant_of-self c = rows_stay _ _ _ _ c.store_parts.ensures.grows c.store_parts.ensures.others.1 c.self.invariant

pub returns-in_err-bytes-clause-unchanged : goal.returns-in_err-bytes-clause-unchanged
returns-in_err-bytes-clause-unchanged c =
    let kept = gathered_stay _ _ _ _ c.store_parts.ensures.grows c.store_parts.ensures.others.1 c.self.invariant in
    search rules

pub invariant_of-self-in_err-push : goal.invariant_of-self-in_err-push
invariant_of-self-in_err-push c =
    rw c.in_err-push.ensures.unchanged (rows_stay _ c.store_parts.new.self _ _ c.store_parts.ensures.grows c.store_parts.ensures.others.1 c.self.invariant)

pub returns-in_err-push-clause-unchanged : goal.returns-in_err-push-clause-unchanged
returns-in_err-push-clause-unchanged c =
    let kept = gathered_stay _ c.store_parts.new.self _ _ c.store_parts.ensures.grows c.store_parts.ensures.others.1 c.self.invariant in
    search rules

pub invariant_of-self-2 : goal.invariant_of-self-2
invariant_of-self-2 c =
    let s = c.store_parts.new.self in
    let at = c.self.inside.open_from in
    let stay = rows_stay _ s _ at c.store_parts.ensures.grows c.store_parts.ensures.others.1 c.self.invariant in
    let end : c.len-end.result ≡ length s.inner.items = omega arith in
    let inner : Run = run_between at (length s.inner.items) in
    let part = open_part s.inner.items at stay.few in
    let row : OpRow = record { code = c.args.op.now.code; bytes = c.in_ok-bytes.bytes; address = c.in_ok-bytes.address; base = c.args.op.now.base; inner = inner } in
    let own = c.in_ok-bytes.ensures.within in
    rw (c.in_ok-push.ensures.ok, c.run_between.ensures, end) (rows_put s _ at row (own, (part.1, rw part.0 stay.inside)) stay)

pub returns-clause-ok : goal.returns-clause-ok
returns-clause-ok c =
    let s = c.store_parts.new.self in
    let at = c.self.inside.open_from in
    let rows = c.self.inside.rows in
    let stay = rows_stay _ s _ at c.store_parts.ensures.grows c.store_parts.ensures.others.1 c.self.invariant in
    let kept : gathered_of s rows at ≡ c.args.self.now = gathered_stay _ s _ _ c.store_parts.ensures.grows c.store_parts.ensures.others.1 c.self.invariant ∙ c.self.view_is in
    let end : c.len-end.result ≡ length s.inner.items = omega arith in
    let inner : Run = run_between at (length s.inner.items) in
    let part = open_part s.inner.items at stay.few in
    let row : OpRow = record { code = c.args.op.now.code; bytes = c.in_ok-bytes.bytes; address = c.in_ok-bytes.address; base = c.args.op.now.base; inner = inner } in
    let with_parts : List ℕ → Option Place → Gathered → Gathered = λ bytes address g. record { ops = g.ops ++ record { code = c.args.op.now.code; bytes = bytes; address = address; base = c.args.op.now.base; inner = g.inner } ∷ []; inner = [] } in
    let own = c.in_ok-bytes.ensures.value in
    let taken = ap (map (inner_of s)) part.0 in
    rw (c.in_ok-push.ensures.ok, c.run_between.ensures, end, ← kept, ← own.0, ← own.1, ← taken) (gathered_put s rows row)
