-- A table of string offsets with two of them, 0 and 4.
use Rattle.std.proofs.Common.{◌≡◌, ℕ, List, [], ◌∷◌, Some, None, refl}
use Rattle.dwarf_types.specs.SectionBytes.{SectionBytes}
use Rattle.index_tables.specs.Tables.{is_table, text_count, text_place}

abbrev offsets : List ℕ
offsets = 0x0c ∷ 0 ∷ 0 ∷ 0 ∷ 5 ∷ 0 ∷ 0 ∷ 0 ∷ 0 ∷ 0 ∷ 0 ∷ 0 ∷ 4 ∷ 0 ∷ 0 ∷ 0 ∷ []

abbrev sections : SectionBytes
sections = record { info = []; abbrev_ = []; strings = []; str_offs = offsets; addr = []; line = []; line_str = []; ranges = []; rnglists = []; loc = []; loclists = []; aranges = []; frame = [] }

first : text_place sections 8 0 ≡ Some 0
unfolding text_place text_count is_table
first = refl

second : text_place sections 8 1 ≡ Some 4
unfolding text_place text_count is_table
second = refl

one_past : text_place sections 8 2 ≡ None
unfolding text_place text_count is_table
one_past = refl

no_table : text_place sections 4 0 ≡ None
unfolding text_place text_count is_table
no_table = refl
