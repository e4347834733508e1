use Rattle.std.proofs.Common.{◌≡◌, ℕ, ◌*◌, ap, arith, length, length-append}
use Rattle.macho_write.specs.SymbolTable.{strings_bytes, symbols_bytes}
use Rattle.macho_write.proofs.PlacedSymbols.{length-symbols}
use Rattle.sample_objects.proofs.symbols.symbols_of.Goals as goal

pub overflow_add-table : goal.overflow_add-table
overflow_add-table c =
    let table : c.from.result * c.len.result ≡ 16 * c.len.result = ap (λ (n : ℕ). n * c.len.result) c.from.ensures in
    omega (arith, table, c.len.ensures, c.len.type_inv, c.strings_size.ensures.room)

pub write_symbols-requires : goal.write_symbols-requires
write_symbols-requires c =
    let symbols = c.args.symbols.now in
    let table : c.from.result * c.len.result ≡ 16 * c.len.result = ap (λ (n : ℕ). n * c.len.result) c.from.ensures in
    omega (
      arith,
      table,
      c.len.ensures,
      c.strings_size.ensures.size,
      c.in_ok-room.ensures,
      ap length c.as_mut_slice.ensures.value,
      length-append (symbols_bytes symbols) (strings_bytes symbols),
      length-symbols symbols,
    )
