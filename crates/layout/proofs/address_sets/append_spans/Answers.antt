use Rattle.dwarf_types.specs.declared.address.Span.{Span}
use Rattle.dwarf_types.specs.Aranges.{arange_bytes}
use Rattle.appending.proofs.Places.{append_item}
use Rattle.layout.proofs.address_sets.append_spans.Goals as goal

pub loop-span-preserved : goal.loop-span-preserved
loop-span-preserved c =
    let none : Span = record { low = 0; high = 0 } in
    append_item arange_bytes c.args.spans.now c.loop-span.span-index none c.loop-span.out c.append_span.new.out _ c.loop-span-test.true c.in_ok-append_span.ensures c.loop-span.invariant
