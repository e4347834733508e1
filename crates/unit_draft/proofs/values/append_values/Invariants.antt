use Rattle.std.proofs.Common.{drop, map}
use Rattle.unit_source.specs.Given.{attr_given}
use Rattle.unit_draft.specs.declared.drafting.Drafting.{Drafting}
use Rattle.unit_draft.specs.Appends.{AppendsValues}
use Rattle.unit_draft.proofs.values.append_values.Given as goal

abbrev pub invariant-loop-attr : goal.invariant-loop-attr
invariant-loop-attr l =
    (new : Drafting) → AppendsValues l.number l.version l.drafting new (map attr_given (drop l.attr-index l.attrs)) → AppendsValues l.number l.version l.fn.drafting new (map attr_given l.attrs)
