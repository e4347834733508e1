use Rattle.std.proofs.Common.{◌≡◌, ◌++◌, drop}
use Rattle.std.specs.List.{flat_map}
use Rattle.ds_base.specs.Leb.{uleb}
use Rattle.abbrev_write.proofs.append.append_pairs.Given as goal

abbrev pub invariant-loop-name : goal.invariant-loop-name
invariant-loop-name l = l.out ++ flat_map (λ p. uleb p.0 ++ uleb p.1) (drop l.name-index l.pairs) ≡ l.fn.out ++ flat_map (λ p. uleb p.0 ++ uleb p.1) l.pairs
