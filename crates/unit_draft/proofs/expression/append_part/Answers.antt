use Rattle.unit_draft.proofs.expression.append_part.Goals as goal

pub returns-in-Nested : goal.returns-in-Nested
returns-in-Nested c = rw (c.in-Nested.is, ← c.as_slice-in-Nested.ensures) c.append_nested.ensures
