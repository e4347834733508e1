use Rattle.std.proofs.Common.{◌≡◌, ◌++◌, drop, map}
use Rattle.unit_source.specs.Given.{attr_given}
use Rattle.unit_source.proofs.whole.lend_attrs.Given as goal

-- those so far and those that are left
abbrev pub invariant-loop-attr : goal.invariant-loop-attr
invariant-loop-attr l = map attr_given l.lent.items ++ drop l.attr-index l.attrs ≡ map attr_given l.fn.lent.items ++ l.attrs
