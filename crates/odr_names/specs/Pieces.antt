-- What stands in pieces that borrow their texts, as the values of which definitions speak.
use Rattle.std.specs.Prelude.{◌≡◌, ℕ, Some, slice_get}
use Rattle.std.specs.Option.{option_map}
use Rattle.dwarf_types.specs.declared.entry.Entry.{Entry}
use Rattle.odr_names.specs.declared.piece.PartsRef.{PartsRef}
use Rattle.odr_names.specs.declared.piece.PieceRef.{PieceRef}
use Rattle.odr_names.specs.declared.piece.Private.{Private}
use Rattle.type_names.specs.Heads.{Object, entries_of}
use Rattle.type_names.specs.Paths.{Parts, Piece, piece_text, spelled_of}

abbrev pub own_seen : Private → ℕ × ℕ
own_seen own = (own.object, own.entry)

abbrev pub parts_seen : PartsRef → Parts
parts_seen p = record {
  tag = p.tag;
  name = option_map (λ text. text.now) p.name;
  linkage = option_map (λ text. text.now) p.linkage;
  spelled = option_map (λ text. text.now) p.spelled;
  private = option_map own_seen p.private;
}

abbrev pub piece_seen : PieceRef → Piece
piece_seen p = record { parts = parts_seen p.parts; ordinal = p.ordinal }

-- the spelled text is the one that its piece has
abbrev pub IsSpelled : Object → ℕ → Type 0
IsSpelled o k = (e : Entry) → slice_get (entries_of o) k ≡ Some e → piece_text o k ≡ spelled_of o k e
