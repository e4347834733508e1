use Rattle.std.proofs.Common.{◌<◌, length, sym}
use Rattle.std.proofs.lemmas.List.{length-map}
use Rattle.dwarf_types.proofs.Ends.{place_read}
use Rattle.dwarf_types.proofs.entries.Entries.place_of.Goals as goal

pub returns : goal.returns
returns c =
    let lt : c.args.i < length c.self.inside.heads.items = rw (← c.self.view_is, length-map) at c.requires in
    rw (← c.self.view_is) (sym (place_read c.self.inside.sides c.self.inside.heads.items c.self.inside.cells.items c.args.i c.index.result.now lt c.index.ensures))
