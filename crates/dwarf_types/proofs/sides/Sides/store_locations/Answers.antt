use Rattle.std.proofs.Common.{sym, subst, All}
use Rattle.dwarf_types.specs.declared.runs.Run.{Run}
use Rattle.dwarf_types.specs.Cells.{ItemWithin}
use Rattle.dwarf_types.specs.Runs.{InRun, run_of}
use Rattle.dwarf_types.proofs.Kept.{last_run}
use Rattle.dwarf_types.proofs.sides.Sides.store_locations.Goals as goal

pub returns-clause-within : goal.returns-clause-within
returns-clause-within c =
    let last = last_run c.store_items.new.self.lists.items c.push_at.new.column.items c.in_ok-payload.payload c.in_ok-run.run' c.in_ok-payload.ensures.ok.1 c.in_ok-payload.ensures.ok.0 in
    let rows = c.in_ok-run.ensures.rows in
    let items = c.store_items.new.self.items.items in
    let there = subst (λ (s : Run). InRun items s × All (ItemWithin c.store_items.new.self) (run_of items s)) (sym last.1) (rows.0, rows.2) in
    ((last.0, there.0), there.1)
