use Rattle.std.proofs.Common.{◌∙◌, refl, sym}
use Rattle.macho_read.specs.Seen.{symbol_seen}
use Rattle.addr_map.specs.Entries.{has_name}
use Rattle.addr_map.proofs.Named.{found_whole, found_within}
use Rattle.addr_map.proofs.entry.find_named.Goals as goal

pub symbol-requires : goal.symbol-requires
symbol-requires c =
    found_within (has_name c.args.name.now) c.args.image.now.symbols _ c.in_ok-index.field-0.now refl (c.in_ok-index.ensures.value ∙ c.requires c.args.name.now)

pub returns : goal.returns
returns c =
    found_whole (has_name c.args.name.now) c.args.image.now.symbols _ c.in_ok-index.field-0.now (symbol_seen c.symbol.result) refl (c.in_ok-index.ensures.value ∙ c.requires c.args.name.now) (sym c.symbol.ensures.stands)
