-- The path of an entry: the pieces that tell it apart, from below its unit down.
use Rattle.std.specs.Prelude.{ℕ, ◌==◌, ◌||◌, ◌&&◌, not, Bool, true, false, List, length, slice_get, Option, Some, None, is_some, if◌then◌else◌, nat_lt}
use Rattle.std.specs.List.{filter_map, filter}
use Rattle.std.specs.Option.{option_and_then, option_map, option_map_or}
use Rattle.std.specs.Str.{bytes_eq}
use Rattle.ds_base.specs.DwarfNumbers as dw
use Rattle.dwarf_types.specs.declared.entry.Entry.{Entry}
use Rattle.type_names.specs.Tree.{below_unit, children}
use Rattle.type_names.specs.Entries.{Text, is_named_type, linkage_of, name_of}
use Rattle.type_names.specs.Spell.{spelled_parameters}
use Rattle.type_names.specs.Heads.{Object, derived_name, entries_of, is_in_head}

-- what tells an entry apart from most of its siblings
pub record Parts : Type 0 where
  pub tag : ℕ
  pub name : Option Text
  pub linkage : Option Text
  pub spelled : Option Text
  -- the object and the entry, where nothing else tells it from entries of other objects
  pub private : Option (ℕ × ℕ)

pub record Piece : Type 0 where
  pub parts : Parts
  -- which one it is of the siblings with the same parts
  pub ordinal : ℕ

-- ---- parts

-- a class is a structure
abbrev pub tag_of : Entry → ℕ
tag_of e = if e.tag == dw.DW_TAG_class_type then dw.DW_TAG_structure_type else e.tag

-- a subprogram that only its parameters tell apart
abbrev pub is_overloaded : Entry → Bool
is_overloaded e = e.tag == dw.DW_TAG_subprogram && not (is_some (linkage_of e))

-- its spelled parameters, or as a derived head its spelling
abbrev pub spelled_of : Object → ℕ → Entry → Option Text
spelled_of o k e = if is_overloaded e then spelled_parameters (entries_of o) k else derived_name o k

-- the same, for entries in subtrees of heads alone
abbrev pub piece_text : Object → ℕ → Option Text
piece_text o k = if is_in_head o k then option_and_then (spelled_of o k) (slice_get (entries_of o) k) else None

-- the object and the entry of a subprogram that only its parameters tell apart, where these can't be spelled
abbrev pub private_of : ℕ → ℕ → Entry → Bool → Option (ℕ × ℕ)
private_of n k e spelled = if is_overloaded e && not spelled then Some (n, k) else None

-- the parts of entry k of object n
abbrev pub parts_of : ℕ → Object → ℕ → Entry → Parts
parts_of n o k e = record { tag = tag_of e; name = name_of e; linkage = linkage_of e; spelled = spelled_of o k e; private = private_of n k e (is_some (spelled_of o k e)) }

-- ---- ordinals

abbrev pub same_text : Option Text → Option Text → Bool
same_text None None = true
same_text (Some a) (Some b) = bytes_eq a b
same_text _ _ = false

abbrev pub same_entry : Option (ℕ × ℕ) → Option (ℕ × ℕ) → Bool
same_entry None None = true
same_entry (Some a) (Some b) = a.0 == b.0 && a.1 == b.1
same_entry _ _ = false

abbrev pub same_parts : Parts → Parts → Bool
same_parts a b = a.tag == b.tag && (same_text a.name b.name && (same_text a.linkage b.linkage && (same_text a.spelled b.spelled && same_entry a.private b.private)))

-- namespaces and types with a name or a spelling are one entry wherever they stand
abbrev pub is_told_by_parts : Object → ℕ → Entry → Bool
is_told_by_parts o k e = e.tag == dw.DW_TAG_namespace || (is_named_type e || is_some (derived_name o k))

-- the siblings before entry k with these parts, as they were read
abbrev pub earlier_twins : ℕ → Object → ℕ → ℕ → Parts → List (ℕ × Entry)
earlier_twins n o parent k parts = filter (λ e. nat_lt e.0 k && same_parts (parts_of n o e.0 e.1) parts) (children (entries_of o) parent)

abbrev pub ordinal_of : ℕ → Object → ℕ → Entry → ℕ
ordinal_of n o k e = if is_told_by_parts o k e then 0 else option_map_or (λ parent. length (earlier_twins n o parent k (parts_of n o k e))) e.parent 0

-- ---- paths

abbrev pub piece_of : ℕ → Object → ℕ → Option Piece
piece_of n o k = option_map (λ e. record { parts = parts_of n o k e; ordinal = ordinal_of n o k e }) (slice_get (entries_of o) k)

-- the pieces from below the unit down to entry k
abbrev pub path_of : ℕ → Object → ℕ → List Piece
path_of n o k = filter_map (piece_of n o) (below_unit (entries_of o) k)
