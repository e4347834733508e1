use Rattle.type_names.specs.Onto.{onto}
use Rattle.type_names.specs.Spell.{subrange_in, subranges_in}
use Rattle.type_names.proofs.Reading.{IsReading, left_of}
use Rattle.type_names.proofs.spell.write_subranges.Given as goal

abbrev pub invariant-loop-child : goal.invariant-loop-child
invariant-loop-child l = IsReading subrange_in l.types.entries.now l.k l.child l.out.items (onto l.fn.out.items (subranges_in l.types.entries.now l.k))

abbrev pub decreases-loop-child : goal.decreases-loop-child
decreases-loop-child l = left_of l.types.entries.now l.child
