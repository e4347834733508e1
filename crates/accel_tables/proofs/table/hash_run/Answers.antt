use Rattle.std.proofs.Common.{ℕ, ◌+◌, ◌<◌, ◌∙◌, List, ◌∷◌, length, drop, ap, sym, arith}
use Rattle.std.proofs.lemmas.List.{drop-drop}
use Rattle.accel_tables.specs.declared.rows.Row.{Row}
use Rattle.accel_tables.specs.Table.{groups}
use Rattle.accel_tables.proofs.Groups.{run_of}
use Rattle.accel_tables.proofs.table.hash_run.Goals as goal

pub returns-clause-group : goal.returns-clause-group
returns-clause-group c =
    let d : Row = record { hash = 0; text = 0; entry = 0 } in
    let rest : List Row = c.rows_from-rest.result.now in
    let n : ℕ = c.same_hashes.result in
    let some : 0 < length rest = omega (arith, c.rows_from-rest.ensures.len, c.requires) in
    let first = run_of (λ (r : Row). r.hash) rest d n some c.same_hashes.ensures.is in
    ap (groups (λ (r : Row). r.hash)) (sym c.rows_from-rest.ensures.is)
    ∙ first.0
    ∙ ap (λ (front : List Row). front ∷ groups (λ (r : Row). r.hash) (drop n rest)) (sym c.rows_to.ensures.is)
    ∙ ap (λ (more : List Row). c.rows_to.result.now ∷ groups (λ (r : Row). r.hash) more)
    (ap (drop n) c.rows_from-rest.ensures.is ∙ drop-drop n c.args.i c.args.rows.now ∙ ap (λ (m : ℕ). drop (c.args.i + m) c.args.rows.now) (sym c.rows_to.ensures.len))
