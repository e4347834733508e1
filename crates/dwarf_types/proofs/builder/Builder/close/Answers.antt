use Rattle.std.proofs.Common.{◌≡◌, ◌-◌, ◌≤◌, length, refl, arith}
use Rattle.dwarf_types.specs.declared.columns.Head.{Head}
use Rattle.dwarf_types.proofs.Building.{built_close, open_long, still_built}
use Rattle.dwarf_types.proofs.builder.Builder.close.Goals as goal

pub overflow_cast-head-2 : goal.overflow_cast-head-2
overflow_cast-head-2 c =
    let few = rw (← c.self.view_is, open_long c.self.inside.sides c.self.inside.heads.items c.self.inside.cells.items c.self.inside.ends.items c.self.inside.open_from c.self.invariant.raw.beside) at c.requires.few in
    omega (arith, few)

pub invariant_of-self-2 : goal.invariant_of-self-2
invariant_of-self-2 c =
    let head : Head = record { parent = c.stored_parent.result; unit = c.args.unit; place = c.args.place; first = c.self.inside.open_from; count = c.len.result - c.self.inside.open_from; tag = c.args.tag } in
    let few = rw (← c.self.view_is, open_long c.self.inside.sides c.self.inside.heads.items c.self.inside.cells.items c.self.inside.ends.items c.self.inside.open_from c.self.invariant.raw.beside) at c.requires.few in
    let within : c.self.inside.open_from ≤ length c.self.inside.cells.items = c.self.invariant.raw.flat.few in
    let end : c.len-self-inside.result ≡ length c.self.inside.cells.items = omega arith in
    rw (c.in_ok-push.ensures.items, end) (still_built c.self.inside.sides _ _ _ _ head refl (omega arith) (omega (arith, few)) c.self.invariant)

pub returns-clause-ok : goal.returns-clause-ok
returns-clause-ok c =
    let head : Head = record { parent = c.stored_parent.result; unit = c.args.unit; place = c.args.place; first = c.self.inside.open_from; count = c.len.result - c.self.inside.open_from; tag = c.args.tag } in
    let within : c.self.inside.open_from ≤ length c.self.inside.cells.items = c.self.invariant.raw.flat.few in
    let closed = built_close c.self.inside.sides c.self.inside.heads.items c.self.inside.cells.items c.self.inside.ends.items c.self.inside.open_from head refl (omega arith) c.self.invariant.raw.beside in
    let end : c.len-self-inside.result ≡ length c.self.inside.cells.items = omega arith in
    rw (c.in_ok-push.ensures.items, end, ← c.self.view_is, ← c.stored_parent.ensures) closed
