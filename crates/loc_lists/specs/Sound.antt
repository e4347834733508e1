-- What each item that a location list gives keeps to.
use Rattle.std.specs.Prelude.{ℕ, ◌+◌, ◌≤◌, length, IfSome}
use Rattle.dwarf_types.specs.declared.lists.RawLocation.{RawLocation}
use Rattle.list_items.specs.Sound.{IsSoundSpan}
use Rattle.loc_lists.specs.declared.locations.LocationItem.{LocationItem}

-- its ends rise, and its expression stands in front of the section's end
pub record IsSoundLocation (end : ℕ) (location : RawLocation) : Type 0 where
  pub span : IsSoundSpan location.span
  pub inside : location.first + length location.bytes ≤ end

-- the same of an item that may give no span
pub record IsSoundItem (end : ℕ) (item : LocationItem) : Type 0 where
  pub span : IfSome item.span IsSoundSpan
  pub inside : item.first + length item.bytes ≤ end
