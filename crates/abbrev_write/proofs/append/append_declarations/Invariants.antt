use Rattle.std.proofs.Common.{◌≡◌, ◌+◌, ◌++◌, [], ◌∷◌, drop}
use Rattle.std.specs.List.{enumerate_from, flat_map}
use Rattle.dwarf_types.specs.Abbreviations.{declaration_bytes, declarations_bytes}
use Rattle.abbrev_write.specs.Keys.{all_declared}
use Rattle.abbrev_write.proofs.append.append_declarations.Given as goal

abbrev pub invariant-loop-i : goal.invariant-loop-i
invariant-loop-i l = l.out ++ (flat_map (λ d. declaration_bytes d.0 d.1) (enumerate_from (l.i + 1) (all_declared (drop l.i l.declarations))) ++ (0 ∷ [])) ≡ l.fn.out ++ declarations_bytes (all_declared l.declarations)
