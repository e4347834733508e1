-- Names of the generated program are short.
use Rattle.std.proofs.Common.{◌≤◌, ◌<◌, ◌++◌, ℕ, codes, length, arith, length-append}
use Rattle.std.specs.Fmt.{decimal}
use Rattle.std.proofs.lemmas.Fmt.{length-decimal-le}
use Rattle.sample_objects.specs.GeneratedProgram.{path_of, symbol_name}

pub short_decimal : (n : ℕ) → n < 10000 → length (decimal n) ≤ 4
short_decimal n few = length-decimal-le 4 n (omega arith) (omega (arith, few)) (omega (arith, few))

pub symbol_short : (i j : ℕ) → i ≤ 1000 → j < 100 → length (symbol_name i j) ≤ 12
symbol_short i j object number =
    omega (arith, length-append (decimal i) (codes "_" ++ decimal j), short_decimal i (omega (arith, object)), short_decimal j (omega (arith, number)))

pub path_short : (i : ℕ) → i ≤ 1000 → length (path_of i) ≤ 12
path_short i object = omega (arith, length-append (decimal i) (codes ".o"), short_decimal i (omega (arith, object)))
