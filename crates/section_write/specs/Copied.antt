-- What of a draft is copied as it is, by the section in which it stands.
use Rattle.std.specs.Prelude.{ℕ, List, []}
use Rattle.unit_draft.specs.declared.unit.Draft.{Draft}
use Rattle.layout.specs.Pass.{in_five, in_others}
use Rattle.layout.specs.declared.table.Piece.{Piece}
use Rattle.layout.specs.declared.table.Piece.TheVariants as pieces

abbrev pub part_in : Piece → Draft → List ℕ
part_in pieces.Tables draft = draft.table
part_in pieces.Ranges draft = in_others draft.version [] draft.ranges
part_in pieces.Rnglists draft = in_five draft.version [] draft.ranges
part_in pieces.Loc draft = in_others draft.version [] draft.locations
part_in pieces.Loclists draft = in_five draft.version [] draft.locations
