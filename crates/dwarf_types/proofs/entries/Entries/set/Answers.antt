use Rattle.std.proofs.Common.{rules, ◌+◌, arith}
use Rattle.dwarf_types.specs.declared.columns.Cell.{Cell}
use Rattle.dwarf_types.specs.declared.sides.Held.{Held}
use Rattle.dwarf_types.specs.Columns.{CellWithin, attr_of, cell_count}
use Rattle.dwarf_types.proofs.Building.{entries_grow}
use Rattle.dwarf_types.proofs.Few.{few_over, may_hold, room_own}
use Rattle.dwarf_types.proofs.Heads.{flat_as}
use Rattle.dwarf_types.proofs.Replacing.{attr_there, cell_there, entries_over}
use Rattle.dwarf_types.proofs.Setting.{flat_set}
use Rattle.std.proofs.lemmas.List.Elements.{All-get_or}
use Rattle.dwarf_types.proofs.entries.Entries.set.Goals as goal

pub overflow_add-k : goal.overflow_add-k
overflow_add-k c =
    let read = rw (← c.self.view_is) at c.requires.stands.1 in
    let lt = cell_there c.self.inside.sides c.self.inside.heads.items c.self.inside.cells.items c.args.i c.args.j c.index.result.now c.requires.stands.0 c.self.invariant c.index.ensures read c.requires.stands.2 in
    omega arith

pub index-requires-2 : goal.index-requires-2
index-requires-2 c =
    let read = rw (← c.self.view_is) at c.requires.stands.1 in
    let lt = cell_there c.self.inside.sides c.self.inside.heads.items c.self.inside.cells.items c.args.i c.args.j c.index.result.now c.requires.stands.0 c.self.invariant c.index.ensures read c.requires.stands.2 in
    omega arith

pub store_over-requires-clause-within : goal.store_over-requires-clause-within
store_over-requires-clause-within c =
    let read = rw (← c.self.view_is) at c.requires.stands.1 in
    let lt = cell_there c.self.inside.sides c.self.inside.heads.items c.self.inside.cells.items c.args.i c.args.j c.index.result.now c.requires.stands.0 c.self.invariant c.index.ensures read c.requires.stands.2 in
    let within = All-get_or (CellWithin c.self.inside.sides) c.self.inside.cells.items (c.index.result.now.first + c.args.j) c.index-2.result.now lt c.self.invariant.flat.within in
    rw (c.held.ensures) (rw (← c.index-2.ensures) at within)

pub store_over-requires-clause-becomes : goal.store_over-requires-clause-becomes
store_over-requires-clause-becomes c =
    let cell : Cell = c.index-2.result.now in
    let read = rw (← c.self.view_is) at c.requires.stands.1 in
    let there = attr_there c.self.inside.sides c.self.inside.heads.items c.self.inside.cells.items c.args.i c.args.j c.index.result.now cell c.requires.stands.0 c.self.invariant c.index.ensures read c.requires.stands.2 c.index-2.ensures in
    rw c.held.ensures (may_hold c.self.inside.sides cell.kind cell.form cell.payload c.args.value (c.requires.becomes c.requires.stands.0 (attr_of c.self.inside.sides cell) c.requires.stands.1 there))

pub store_over-requires-clause-room : goal.store_over-requires-clause-room
store_over-requires-clause-room c =
    let read = rw (← c.self.view_is) at c.requires.stands.1 in
    let lt = cell_there c.self.inside.sides c.self.inside.heads.items c.self.inside.cells.items c.args.i c.args.j c.index.result.now c.requires.stands.0 c.self.invariant c.index.ensures read c.requires.stands.2 in
    rw c.held.ensures (room_own c.self.inside.sides c.self.inside.cells.items (c.index.result.now.first + c.args.j) c.index-2.result.now c.self.invariant.columns lt c.index-2.ensures)

pub returns-in_err-held-clause-unchanged : goal.returns-in_err-held-clause-unchanged
returns-in_err-held-clause-unchanged c =
    let kept = entries_grow _ _ _ _ _ c.in_err-held.ensures.unchanged c.self.invariant.flat in
    search rules

pub index_mut-requires : goal.index_mut-requires
index_mut-requires c =
    let read = rw (← c.self.view_is) at c.requires.stands.1 in
    let lt = cell_there c.self.inside.sides c.self.inside.heads.items c.self.inside.cells.items c.args.i c.args.j c.index.result.now c.requires.stands.0 c.self.invariant c.index.ensures read c.requires.stands.2 in
    omega arith

pub invariant_of-self-2 : goal.invariant_of-self-2
invariant_of-self-2 c =
    let old = c.self.inside.sides in
    let new = c.store_over.new.self in
    let heads = c.self.inside.heads.items in
    let cells = c.self.inside.cells.items in
    let cell : Cell = c.index-2.result.now in
    let held : Held = c.in_ok-held.held in
    let read = rw (← c.self.view_is) at c.requires.stands.1 in
    let lt = cell_there old heads cells c.args.i c.args.j c.index.result.now c.requires.stands.0 c.self.invariant c.index.ensures read c.requires.stands.2 in
    let put = rw c.held.ensures at c.in_ok-held.ensures.few in
    let others = c.store_over.ensures.others in
    rw c.with_value.ensures (record {
      flat = flat_set (CellWithin new) heads cells (cell_count heads) (c.index.result.now.first + c.args.j) (record cell { kind = held.kind; payload = held.payload }) c.in_ok-held.ensures.within (flat_as (CellWithin old) (CellWithin new) (λ (x : Cell) w. others.within x.kind x.payload w) heads cells (cell_count heads) c.self.invariant.flat);
      columns = few_over old new cells (c.index.result.now.first + c.args.j) cell held.kind held.payload c.self.invariant.columns c.self.invariant.flat.within lt c.index-2.ensures put.0 put.1 put.2;
    })

pub returns-clause-ok : goal.returns-clause-ok
returns-clause-ok c e a read this =
    let cell : Cell = c.index-2.result.now in
    let held : Held = c.in_ok-held.held in
    let stands = rw (← c.self.view_is) at read in
    let others = rw c.held.ensures at c.store_over.ensures.others in
    let written = entries_over c.self.inside.sides c.store_over.new.self c.self.inside.heads.items c.self.inside.cells.items c.args.i c.args.j c.index.result.now cell held.kind held.payload e a c.self.invariant others c.index.ensures stands this c.index-2.ensures in
    rw (c.with_value.ensures, ← c.self.view_is, ← c.in_ok-held.ensures.value cell.form) written
