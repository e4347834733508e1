-- Which entries of an object have a node in their own unit, by its live entries and by those that are merged with others of their name.
use Rattle.std.specs.Prelude.{ℕ, ◌==◌, ◌&&◌, ◌||◌, not, Bool, false, List, map, slice_index_or}
use Rattle.std.specs.List.{enumerate_from, list_any}
use Rattle.ds_base.specs.DwarfNumbers.{DW_TAG_namespace}
use Rattle.dwarf_types.specs.declared.entry.Entry.{Entry}
use Rattle.dwarf_types.specs.Tree.{is_in}

module _ (entries : List Entry) (live merged : List Bool) where
  -- it is live, and stands for itself alone
  abbrev pub is_plain : ℕ → Bool
  is_plain k = slice_index_or live k false && not (slice_index_or merged k false)

  -- such an entry stands in the subtree of entry a
  abbrev pub holds_plain : ℕ → Bool
  holds_plain a = list_any (λ e. is_plain e.0 && is_in entries a e.0) (enumerate_from 0 entries)

  -- a namespace is merged, and stands in its unit too where an entry below it does
  abbrev pub is_plain_above : ℕ × Entry → Bool
  is_plain_above e = slice_index_or merged e.0 false && (e.1.tag == DW_TAG_namespace && holds_plain e.0)

  abbrev pub kept_of : List Bool
  kept_of = map (λ e. is_plain e.0 || is_plain_above e) (enumerate_from 0 entries)
