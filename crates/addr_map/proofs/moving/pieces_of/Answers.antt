use Rattle.std.proofs.Common.{◌∙◌, ◌++◌, List, sym, ap, append-nil}
use Rattle.dwarf_types.specs.declared.address.Span.{Span}
use Rattle.addr_map.proofs.Holding.{begun_out}
use Rattle.addr_map.proofs.moving.pieces_of.Goals as goal

pub returns-then-high-range : goal.returns-then-high-range
returns-then-high-range c =
    let none = begun_out c.args.ranges.now c.args.low c.args.high c.loop-range.range-index _ c.requires.sound c.requires.apart c.loop-range-test.true c.if-high-range.true in
    sym (append-nil c.loop-range.pieces) ∙ sym (ap (λ (spans : List Span). c.loop-range.pieces ++ spans) none) ∙ c.loop-range.invariant
