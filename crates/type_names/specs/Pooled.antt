-- What is told of an object's names.
use Rattle.std.specs.Prelude.{ℕ, Bool, List, length, Option, Some, None, if◌then◌else◌}
use Rattle.type_names.specs.declared.pooled.TypeNames.{TypeNames}
use Rattle.type_names.specs.Entries.{Text}
use Rattle.type_names.specs.Heads.{Object, entries_of, is_head, is_in_head, is_pooled}
use Rattle.type_names.specs.Paths.{piece_text}
use Rattle.type_names.specs.Rows.{IsRow, IsRowTo}
use Rattle.type_names.specs.TextTable.{AreTexts}

-- the text that was written, where one was
abbrev pub text_if : Bool → List ℕ → Option Text
text_if written out = if written then Some out else None

-- which entries are pooled, which stand in subtrees of heads, and the spelled texts of the pieces of these
pub record AreNames (o : Object) (names : TypeNames) : Type 0 where
  pub pooled : IsRow (is_pooled o) (length (entries_of o)) names.pooled
  pub in_heads : IsRow (is_in_head o) (length (entries_of o)) names.in_heads
  pub spelled : AreTexts names.spelled (piece_text o) (length (entries_of o))

-- of the first i entries: which are heads, which stand in subtrees of heads, and the spelled texts of their pieces
pub record IsToldTo (o : Object) (heads in_heads : List Bool) (texts : List (Option Text)) (i : ℕ) : Type 0 where
  pub its_heads : IsRowTo (is_head o) (length (entries_of o)) heads i
  pub inside : IsRowTo (is_in_head o) (length (entries_of o)) in_heads i
  pub spelled : AreTexts texts (piece_text o) i
