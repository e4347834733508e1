use Rattle.std.proofs.Common.{◌≡◌, ◌≤◌, ◌-◌, ◌∙◌, ℕ, Ok, ap, arith, drop, false, length, take, true}
use Rattle.std.proofs.lemmas.List.{length-drop}
use Rattle.std.proofs.lemmas.List.Sums.{prefix_len-le-length}
use Rattle.macho_read.specs.Fields.{text_len}
use Rattle.macho_read.proofs.TextEnds.{before_first, end_of_name, name_is, no_end_of_name}
use Rattle.macho_read.proofs.symbols.name_len.Goals as goal

pub zero_from-requires : goal.zero_from-requires
zero_from-requires c = rw c.requires (before_first c.args.strings.now c.args.strx)

pub overflow_sub-result : goal.overflow_sub-result
overflow_sub-result c =
    let found = end_of_name c.args.strings.now c.args.zeros.now c.args.strx c.in-Some.end c.requires c.in-Some.ensures in
    omega (arith, found.len)

pub returns-in-Some-clause-read : goal.returns-in-Some-clause-read
returns-in-Some-clause-read c =
    let found = end_of_name c.args.strings.now c.args.zeros.now c.args.strx c.in-Some.end c.requires c.in-Some.ensures in
    let len : text_len (drop c.args.strx c.args.strings.now) ≡ c.in-Some.end - c.args.strx = omega (arith, found.len) in
    name_is c.args.strings.now c.args.index c.args.strx false (λ e. omega (arith, e, c.if-strx-eq0.false)) (omega (arith, c.if-strx-strings.false)) found.ends
    ∙ ap (λ (n : ℕ). Ok (take n (drop c.args.strx c.args.strings.now))) len

pub returns-in-Some-clause-within : goal.returns-in-Some-clause-within
returns-in-Some-clause-within c =
    let found = end_of_name c.args.strings.now c.args.zeros.now c.args.strx c.in-Some.end c.requires c.in-Some.ensures in
    let few : text_len (drop c.args.strx c.args.strings.now) ≤ length (drop c.args.strx c.args.strings.now) = prefix_len-le-length _ (drop c.args.strx c.args.strings.now) in
    omega (arith, found.len, few, length-drop c.args.strx c.args.strings.now, c.if-strx-strings.false)

pub returns-in-None-clause-read : goal.returns-in-None-clause-read
returns-in-None-clause-read c =
    let ends = no_end_of_name c.args.strings.now c.args.zeros.now c.args.strx c.requires c.in-None.ensures in
    rw c.bad_symbols-in-None.ensures (name_is c.args.strings.now c.args.index c.args.strx true (λ e. omega (arith, e, c.if-strx-eq0.false)) (omega (arith, c.if-strx-strings.false)) ends)
