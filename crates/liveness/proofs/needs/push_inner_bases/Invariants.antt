use Rattle.std.proofs.Common.{◌≡◌, ◌++◌, drop, map}
use Rattle.std.specs.List.{filter_map}
use Rattle.dwarf_types.specs.declared.expr.PlainOp.{PlainOp}
use Rattle.dwarf_types.specs.Live.{base_in}
use Rattle.liveness.proofs.needs.push_inner_bases.Given as goal

-- what is found so far and from here on is what is found in all
abbrev pub invariant-loop-k : goal.invariant-loop-k
invariant-loop-k l =
    l.out.items ++ filter_map base_in (map (λ (plain : PlainOp). plain.base) (drop l.k l.inner)) ≡ l.fn.out.items ++ filter_map base_in (map (λ (plain : PlainOp). plain.base) l.inner)
