use Rattle.std.proofs.Common.{sym, true≢false, ◌∙◌}
use Rattle.stab_map.proofs.AddressLemmas.{none_named}
use Rattle.stab_map.proofs.addresses.addresses_by_name.Goals as goal

pub returns-then-is_empty : goal.returns-then-is_empty
returns-then-is_empty c name asked =
    let none = none_named c.in_ok-names.names (c.is_empty.ensures.0 c.if-is_empty.true) name in
    absurd (true≢false (sym (sym none ∙ c.in_ok-names.ensures name ∙ asked)))
