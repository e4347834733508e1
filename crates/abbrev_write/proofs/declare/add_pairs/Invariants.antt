use Rattle.std.proofs.Common.{◌≡◌, ◌++◌, drop, map}
use Rattle.dwarf_types.specs.Forms.{form_of}
use Rattle.unit_source.specs.Given.{attr_given}
use Rattle.abbrev_write.proofs.declare.add_pairs.Given as goal

abbrev pub invariant-loop-attr : goal.invariant-loop-attr
invariant-loop-attr l =
    l.pairs.items ++ map (λ a. (a.name, form_of l.number a.value)) (map attr_given (drop l.attr-index l.attrs)) ≡ l.fn.pairs.items ++ map (λ a. (a.name, form_of l.number a.value)) (map attr_given l.attrs)
