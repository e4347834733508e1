use Rattle.std.proofs.Common.{◌+◌, ◌%◌, ◌^◌, ◌==◌, ◌∙◌, ap}
use Rattle.std.specs.List.{find}
use Rattle.std.specs.Option.{option_map}
use Rattle.addr_map.specs.declared.map.MapName.{MapName}
use Rattle.addr_map.proofs.moving.moved.Goals as goal

pub returns-in_ok-name-in-Named : goal.returns-in_ok-name-in-Named
returns-in_ok-name-in-Named c =
    let found = c.in_ok-name-in-Named.ensures ∙ ap (find (λ n. n.symbol == c.in-Named.symbol)) c.as_slice-in-Named.ensures in
    rw c.in-Named.is (ap (option_map (λ (n : MapName). (n.linked + c.in-Named.addend) % 2 ^ 64)) found)
