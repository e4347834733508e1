use Rattle.std.proofs.Common.{◌*◌, drop, arith}
use Rattle.macho_read.specs.Symbols.{symbol_of}
use Rattle.macho_read.proofs.Soundness.{counted}
use Rattle.macho_read.proofs.symbols.read_table.Goals as goal

pub returns-clause-few : goal.returns-clause-few
returns-clause-few c = counted (λ i. symbol_of c.cut-strings.result.now i (drop (16 * i) c.bytes_from-table.result.now)) c.args.symtab.nsyms c.read_entries.result c.read_entries.ensures (omega arith)
