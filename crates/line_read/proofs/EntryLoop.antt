-- The loop over the values of an entry: the way out, and the way on.
use Rattle.std.proofs.Common.{◌≡◌, ℕ, ◌+◌, ◌<◌, List, length, drop, get_or, Result, Ok, Err, sym, ap, ◌∙◌}
use Rattle.std.proofs.lemmas.List.{get_or_default}
use Rattle.ds_base.specs.declared.fault.Fault.{Fault}
use Rattle.ds_base.specs.Spot.{Spot}
use Rattle.ds_base.specs.Reading.{◌>>=◌}
use Rattle.ds_base.proofs.Walking.{drop_one}
use Rattle.dwarf_types.specs.SectionBytes.{SectionBytes}
use Rattle.line_read.specs.declared.formats.EntryItem.{EntryItem}
use Rattle.line_read.specs.declared.names.HeaderEnd.{HeaderEnd}
use Rattle.line_read.specs.Entries.{EntryParts, item_at, parts_at}

module _ (header : HeaderEnd) (sections : SectionBytes) (format : List EntryItem) (i : ℕ) (d : EntryItem) (parts : EntryParts) where
  -- the value at hand comes first
  this_first : (s : Spot) (read total : Result (EntryParts × Spot) Fault) → i < length format → item_at header sections (get_or format i d) parts s ≡ read
      → parts_at header sections (drop i format) parts s ≡ total → (read >>= λ here. parts_at header sections (drop (i + 1) format) here.0 here.1) ≡ total
  this_first s read total lt e so_far =
      ap (λ (r : Result (EntryParts × Spot) Fault). r >>= λ here. parts_at header sections (drop (i + 1) format) here.0 here.1) (sym e)
      ∙ ap (λ (l : List EntryItem). parts_at header sections l parts s) (sym (drop_one format i (get_or format i d) lt (get_or_default format i d (get_or format i d) lt))) ∙ so_far

  pub parts_more : (new : EntryParts) (s behind : Spot) (total : Result (EntryParts × Spot) Fault) → i < length format → item_at header sections (get_or format i d) parts s ≡ Ok (new, behind)
      → parts_at header sections (drop i format) parts s ≡ total → parts_at header sections (drop (i + 1) format) new behind ≡ total
  parts_more new s behind total lt e so_far = this_first s (Ok (new, behind)) total lt e so_far

  pub parts_refused : (s : Spot) (f : Fault) (total : Result (EntryParts × Spot) Fault) → i < length format → item_at header sections (get_or format i d) parts s ≡ Err f
      → parts_at header sections (drop i format) parts s ≡ total → total ≡ Err f
  parts_refused s f total lt e so_far = sym (this_first s (Err f) total lt e so_far)
