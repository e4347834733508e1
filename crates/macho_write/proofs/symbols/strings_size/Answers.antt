use Rattle.std.proofs.Common.{◌≡◌, [], List, ap, arith, drop, length}
use Rattle.std.specs.List.{flat_map}
use Rattle.std.proofs.lemmas.List.{drop_all}
use Rattle.macho_read.specs.declared.image.Symbol.{Symbol}
use Rattle.macho_write.specs.SymbolTable.{text_of}
use Rattle.macho_write.proofs.PlacedSymbols.{strings_are}
use Rattle.macho_write.proofs.symbols.strings_size.Goals as goal

pub returns-clause-size : goal.returns-clause-size
returns-clause-size c =
    let end : drop c.loop-i.i c.args.symbols.now ≡ [] = drop_all c.loop-i.i c.args.symbols.now (omega (arith, c.loop-i-test.false, c.len-i-end.ensures)) in
    omega (arith, ap length (strings_are c.args.stabs c.args.symbols.now), ap (λ (left : List Symbol). length (flat_map (text_of c.args.stabs) left)) end, c.loop-i.invariant.summed)
