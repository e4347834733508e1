use Rattle.std.proofs.Common.{◌<◌, ◌+◌, length, arith}
use Rattle.section_write.proofs.Between.{read_draft, size_before, size_more}
use Rattle.section_write.proofs.units.cut_at.Goals as goal

pub overflow_add-bytes : goal.overflow_add-bytes
overflow_add-bytes c =
    let all = c.requires.2 in
    let inside : c.loop-unit.unit < length c.args.layout.now.drafts = omega (arith, c.loop-unit-test.true, all.within) in
    let more = size_more c.args.layout.now c.args.first c.loop-unit.unit c.loop-unit.bytes _ c.loop-unit.invariant inside (read_draft c.args.layout.now c.drafts-drafts.result.now c.loop-unit.unit c.index-drafts-unit.result c.drafts-drafts.ensures inside) in
    let le = size_before c.args.layout.now c.args.first (c.loop-unit.unit + 1) c.args.end c.requires.0 _ all more (omega (arith, c.loop-unit-test.true)) in
    record { fits = omega (arith, le, c.requires.1) }

pub overflow_add-bytes-in-loop-unit : goal.overflow_add-bytes-in-loop-unit
overflow_add-bytes-in-loop-unit c =
    let all = c.requires.2 in
    let inside : c.loop-unit.unit < length c.args.layout.now.drafts = omega (arith, c.loop-unit-test.true, all.within) in
    let more = size_more c.args.layout.now c.args.first c.loop-unit.unit c.loop-unit.bytes _ c.loop-unit.invariant inside (read_draft c.args.layout.now c.drafts-drafts.result.now c.loop-unit.unit c.index-drafts-unit.result c.drafts-drafts.ensures inside) in
    let le = size_before c.args.layout.now c.args.first (c.loop-unit.unit + 1) c.args.end c.requires.0 _ all more (omega (arith, c.loop-unit-test.true)) in
    record { fits = omega (arith, le, c.requires.1) }

pub loop-unit-preserved : goal.loop-unit-preserved
loop-unit-preserved c =
    let inside : c.loop-unit.unit < length c.args.layout.now.drafts = omega (arith, c.loop-unit-test.true, c.requires.2.within) in
    size_more c.args.layout.now c.args.first c.loop-unit.unit c.loop-unit.bytes _ c.loop-unit.invariant inside (read_draft c.args.layout.now c.drafts-drafts.result.now c.loop-unit.unit c.index-drafts-unit.result c.drafts-drafts.ensures inside)
