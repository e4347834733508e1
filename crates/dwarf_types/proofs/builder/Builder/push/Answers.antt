use Rattle.std.proofs.Common.{rules, ℕ, List, [], ◌∷◌, ◌++◌, ◌<◌, ◌^◌, ap, ap₂, length, ◌∙◌}
use Rattle.dwarf_types.specs.declared.columns.Cell.{Cell}
use Rattle.dwarf_types.specs.Built.{Built}
use Rattle.dwarf_types.specs.Columns.{built_of, raw_attr_of}
use Rattle.dwarf_types.proofs.Building.{built_cell, built_grows, few_cells, raw_grows}
use Rattle.dwarf_types.proofs.Ends.{raw_push}
use Rattle.dwarf_types.proofs.Few.{few_put, few_same, room_more}
use Rattle.dwarf_types.proofs.builder.Builder.push.Goals as goal

pub store_read-requires : goal.store_read-requires
store_read-requires c =
    let attrs = rw (← c.self.view_is) at c.requires.few in
    let entries = rw (← c.self.view_is) at c.requires.room in
    room_more c.self.inside.sides c.self.inside.cells.items c.self.invariant.columns (few_cells _ _ _ _ _ c.self.invariant attrs entries)

pub invariant_of-self-in_err-held : goal.invariant_of-self-in_err-held
invariant_of-self-in_err-held c =
    rw (c.reserve.ensures.items, c.reserve-2.ensures.items) (record {
      raw = raw_grows _ _ _ _ _ _ c.store_read.ensures.grows c.self.invariant.raw;
      few = c.self.invariant.few;
      columns = few_same c.self.inside.sides c.store_read.new.self c.self.inside.cells.items c.self.invariant.columns c.in_err-held.ensures.few;
    })

pub returns-in_err-held-clause-unchanged : goal.returns-in_err-held-clause-unchanged
returns-in_err-held-clause-unchanged c =
    let built : List Cell → List ℕ → Built = λ cells ends. built_of c.store_read.new.self c.self.inside.heads.items cells ends c.self.inside.open_from in
    let kept = ap₂ built c.reserve.ensures.items c.reserve-2.ensures.items ∙ built_grows _ _ _ _ _ _ c.store_read.ensures.grows c.self.invariant.raw in
    search rules

pub invariant_of-self-2 : goal.invariant_of-self-2
invariant_of-self-2 c =
    let cell : Cell = record { name = c.args.name; form = c.args.form; kind = c.in_ok-held.held.kind; payload = c.in_ok-held.held.payload } in
    let attrs = rw (← c.self.view_is) at c.requires.few in
    let entries = rw (← c.self.view_is) at c.requires.room in
    let lt : length c.self.inside.cells.items < 2 ^ 32 = few_cells _ _ _ _ _ c.self.invariant attrs entries in
    let put = c.in_ok-held.ensures.few in
    rw (c.push_reserved.ensures.items, c.push_reserved-2.ensures.items, c.reserve.ensures.items, c.reserve-2.ensures.items) (record {
      raw = raw_push c.store_read.new.self _ _ _ _ cell c.args.end c.in_ok-held.ensures.within (raw_grows _ _ _ _ _ _ c.store_read.ensures.grows c.self.invariant.raw);
      few = c.self.invariant.few;
      columns = few_put c.self.inside.sides c.store_read.new.self c.self.inside.cells.items cell c.self.invariant.columns c.self.invariant.raw.flat.within lt put.0 put.1 put.2;
    })

pub returns-clause-ok : goal.returns-clause-ok
returns-clause-ok c =
    let raw = raw_grows _ _ _ _ _ _ c.store_read.ensures.grows c.self.invariant.raw in
    let kept = built_grows _ _ _ _ _ _ c.store_read.ensures.grows c.self.invariant.raw in
    let cell : Cell = record { name = c.args.name; form = c.args.form; kind = c.in_ok-held.held.kind; payload = c.in_ok-held.held.payload } in
    let pair : Cell × ℕ = (cell, c.args.end) in
    let more = built_cell c.store_read.new.self _ _ _ _ cell c.args.end raw in
    let with_attr : Built → Built = λ b. record b { attrs = b.attrs ++ raw_attr_of c.store_read.new.self pair ∷ [] } in
    rw (c.push_reserved.ensures.items, c.push_reserved-2.ensures.items, c.reserve.ensures.items, c.reserve-2.ensures.items, ← c.self.view_is, ← c.in_ok-held.ensures.value) (more ∙ ap with_attr kept)
