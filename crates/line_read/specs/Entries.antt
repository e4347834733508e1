-- The tables of directories and files of version 5 (DWARF 5, section 6.2.4, from directory_entry_format_count to file_names).
use Rattle.std.specs.Prelude.{ℕ, ◌==◌, not, List, [], ◌∷◌, Option, Some, None, Result, Ok, ◌&&◌}
use Rattle.std.specs.List.{list_any}
use Rattle.std.specs.Option.{unwrap_or}
use Rattle.ds_base.specs.declared.fault.Fault.{Fault}
use Rattle.ds_base.specs.Spot.{Spot}
use Rattle.ds_base.specs.Reading.{◌>>=◌, refuse_if, or_fault, bytes_at, number_at, text_at, uleb_at, items_at, placed_text_at}
use Rattle.dwarf_types.specs.declared.lines.FileName.{FileName}
use Rattle.dwarf_types.specs.SectionBytes.{SectionBytes}
use Rattle.line_read.specs.declared.entries.EntryFormat.{EntryFormat}
use Rattle.line_read.specs.declared.formats.EntryForm.{EntryForm}
use Rattle.line_read.specs.declared.formats.EntryForm.TheVariants as forms
use Rattle.line_read.specs.declared.formats.EntryItem.{EntryItem}
use Rattle.line_read.specs.declared.formats.EntryItem.TheVariants as items
use Rattle.line_read.specs.declared.formats.NumberForm.{NumberForm}
use Rattle.line_read.specs.declared.formats.NumberForm.TheVariants as numbers
use Rattle.line_read.specs.declared.formats.TextForm.{TextForm}
use Rattle.line_read.specs.declared.formats.TextForm.TheVariants as texts
use Rattle.line_read.specs.declared.names.HeaderEnd.{HeaderEnd}
use Rattle.line_read.specs.Formats.{item_of, is_path}
use Rattle.line_read.specs.Names.{within}

-- ---- the format of a table's entries

-- a pair of a content type and a form
unfoldable pub pair_at : HeaderEnd → Spot → Result (EntryItem × Spot) Fault
pair_at header s = do
  content ← within header (uleb_at s)
  form ← within header (uleb_at content.1)
  item ← or_fault (item_of content.0 form.0) header.bad_format
  Ok (item, form.1)

-- the pairs, and how many entries there are; an entry has a path
unfoldable pub format_at : HeaderEnd → Spot → Result (EntryFormat × Spot) Fault
format_at header s = do
  pairs ← within header (number_at 1 s)
  format ← items_at (pair_at header) pairs.0 [] pairs.1
  count ← within header (uleb_at format.1)
  _ ← refuse_if (not (count.0 == 0) && not (list_any is_path format.0)) header.bad_format
  Ok (record { items = format.0; count = count.0 }, count.1)

-- ---- values

unfoldable pub form_text_at : SectionBytes → TextForm → Spot → Result (List ℕ × Spot) Fault
form_text_at sections texts.Inline s = text_at s
form_text_at sections texts.Str s = placed_text_at sections.strings s
form_text_at sections texts.LineStr s = placed_text_at sections.line_str s

unfoldable pub form_number_at : NumberForm → Spot → Result (ℕ × Spot) Fault
form_number_at numbers.One s = number_at 1 s
form_number_at numbers.Two s = number_at 2 s
form_number_at numbers.Four s = number_at 4 s
form_number_at numbers.Eight s = number_at 8 s
form_number_at numbers.Leb s = uleb_at s

-- a block is passed over: its length, and so many bytes
unfoldable pub block_at : HeaderEnd → Spot → Result (Unit {0} × Spot) Fault
block_at header s = do
  len ← within header (uleb_at s)
  bytes ← within header (bytes_at len.0 len.1)
  Ok (tt, bytes.1)

-- what is read and counts for nothing
abbrev pub dropped : {A : Type 0} → Result (A × Spot) Fault → Result (Unit {0} × Spot) Fault
dropped read = read >>= λ x. Ok (tt, x.1)

-- a value is passed over
unfoldable pub passed_at : HeaderEnd → SectionBytes → EntryForm → Spot → Result (Unit {0} × Spot) Fault
passed_at header sections (forms.Text form) s = dropped (within header (form_text_at sections form s))
passed_at header sections (forms.Number form) s = dropped (within header (form_number_at form s))
passed_at header sections forms.Wide s = dropped (within header (bytes_at 16 s))
passed_at header sections forms.Block s = block_at header s

-- ---- an entry

-- what an entry tells
pub record EntryParts : Type 0 where
  pub path : Option (List ℕ)
  pub dir : Option ℕ
  pub time : Option ℕ
  pub size : Option ℕ
  pub digest : Option (List ℕ)

-- of two values of one content the first counts
abbrev pub first : {A : Type 0} → Option A → A → A
first (Some x) y = x
first None y = y

-- a value, by its content; a time that is a block counts as 0
unfoldable pub item_at : HeaderEnd → SectionBytes → EntryItem → EntryParts → Spot → Result (EntryParts × Spot) Fault
item_at header sections (items.Path form) parts s = within header (form_text_at sections form s) >>= λ text. Ok (record parts { path = Some (first parts.path text.0) }, text.1)
item_at header sections (items.Directory form) parts s = within header (form_number_at form s) >>= λ n. Ok (record parts { dir = Some (first parts.dir n.0) }, n.1)
item_at header sections (items.Timestamp form) parts s = within header (form_number_at form s) >>= λ n. Ok (record parts { time = Some (first parts.time n.0) }, n.1)
item_at header sections items.TimestampBlock parts s = block_at header s >>= λ block. Ok (record parts { time = Some (first parts.time 0) }, block.1)
item_at header sections (items.Size form) parts s = within header (form_number_at form s) >>= λ n. Ok (record parts { size = Some (first parts.size n.0) }, n.1)
item_at header sections items.Digest parts s = within header (bytes_at 16 s) >>= λ bytes. Ok (record parts { digest = Some (first parts.digest bytes.0) }, bytes.1)
item_at header sections (items.Other form) parts s = passed_at header sections form s >>= λ passed. Ok (parts, passed.1)

-- the values, one of each pair
abbrev pub parts_at : HeaderEnd → SectionBytes → List EntryItem → EntryParts → Spot → Result (EntryParts × Spot) Fault
parts_at header sections [] parts s = Ok (parts, s)
parts_at header sections (item ∷ more) parts s = item_at header sections item parts s >>= λ here. parts_at header sections more here.0 here.1

abbrev pub no_parts : EntryParts
no_parts = record { path = None; dir = None; time = None; size = None; digest = None }

-- a directory is its path
unfoldable pub dir_entry_at : HeaderEnd → SectionBytes → List EntryItem → Spot → Result (List ℕ × Spot) Fault
dir_entry_at header sections format s = do
  parts ← parts_at header sections format no_parts s
  path ← or_fault parts.0.path header.bad_format
  Ok (path, parts.1)

-- a file; a number that is not there is 0
unfoldable pub file_entry_at : HeaderEnd → SectionBytes → List EntryItem → Spot → Result (FileName × Spot) Fault
file_entry_at header sections format s = do
  parts ← parts_at header sections format no_parts s
  path ← or_fault parts.0.path header.bad_format
  Ok (record { name = path; dir = unwrap_or parts.0.dir 0; time = unwrap_or parts.0.time 0; size = unwrap_or parts.0.size 0; digest = parts.0.digest }, parts.1)

-- the entries of a table
abbrev pub entries_of : {A : Type 0} → (List EntryItem → Spot → Result (A × Spot) Fault) → HeaderEnd → Spot → Result (List A × Spot) Fault
entries_of read header s = format_at header s >>= λ format. items_at (read format.0.items) format.0.count [] format.1
