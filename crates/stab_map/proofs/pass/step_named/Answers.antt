use Rattle.std.proofs.Common.{sym, ◌∙◌}
use Rattle.stab_map.proofs.StabPass.{named_size, named_passed}
use Rattle.stab_map.proofs.pass.step_named.Goals as goal

pub returns-in-Size : goal.returns-in-Size
returns-in-Size c =
    λ index address objects rest. rw (c.in_ok-with_entry-in-Size.ensures, c.in_ok-entry-in-Size.ensures) (sym (named_size address objects _ _ _ _ _ index _ rest (sym c.requires ∙ c.in-Size.is)))

pub returns-in-Other : goal.returns-in-Other
returns-in-Other c = λ index address objects rest. sym (named_passed address objects _ _ _ _ _ index _ rest (sym c.requires ∙ c.in-Other.is))
