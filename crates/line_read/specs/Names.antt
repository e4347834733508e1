-- The directories and files of a line table before version 5 (DWARF 4, section 6.2.4, include_directories and file_names).
use Rattle.std.specs.Prelude.{ℕ, zero, suc, ◌-◌, ◌==◌, List, [], ◌∷◌, ◌++◌, length, nat_lt, Option, Some, None, Result, Ok, Err, if◌then◌else◌}
use Rattle.std.specs.Option.{option_map_or}
use Rattle.ds_base.specs.declared.fault.Fault.{Fault}
use Rattle.ds_base.specs.declared.fault.Kind.TheVariants as kinds
use Rattle.ds_base.specs.Spot.{Spot, fault_at}
use Rattle.ds_base.specs.Reading.{◌>>=◌, refuse_if, text_at, uleb_at}
use Rattle.dwarf_types.specs.declared.lines.FileName.{FileName}
use Rattle.line_read.specs.declared.names.HeaderEnd.{HeaderEnd}

-- an item that does not pass the header's end
abbrev pub within : {A : Type 0} → HeaderEnd → Result (A × Spot) Fault → Result (A × Spot) Fault
within header item = do
  x ← item
  _ ← refuse_if (nat_lt header.place x.1.place) header.passed
  Ok x

-- a directory, or the empty name that ends them
unfoldable pub dir_at : HeaderEnd → Spot → Result (Option (List ℕ) × Spot) Fault
dir_at header s = do
  name ← within header (text_at s)
  Ok (if length name.0 == 0 then None else Some name.0, name.1)

-- what follows a file's name: the number of its directory, when it was last changed, and its size
unfoldable pub file_of : HeaderEnd → List ℕ → Spot → Result (Option FileName × Spot) Fault
file_of header name s = do
  dir ← within header (uleb_at s)
  time ← within header (uleb_at dir.1)
  size ← within header (uleb_at time.1)
  Ok (Some (record { name = name; dir = dir.0; time = time.0; size = size.0; digest = None }), size.1)

-- a file, or the empty name that ends them
unfoldable pub file_at : HeaderEnd → Spot → Result (Option FileName × Spot) Fault
file_at header s = do
  name ← within header (text_at s)
  if length name.0 == 0 then Ok (None, name.1) else file_of header name.0 name.1

-- Items up to the end mark, behind those before. Each takes a byte at least, so the count of the bytes that are left bounds them.
abbrev pub listed_at : {A : Type 0} → (Spot → Result (Option A × Spot) Fault) → ℕ → List A → Spot → Result (List A × Spot) Fault
listed_at read zero before s = Err (fault_at s kinds.Truncated)
listed_at read (suc left) before s = read s >>= λ item. option_map_or (λ x. listed_at read left (before ++ x ∷ []) item.1) item.0 (Ok (before, item.1))

-- all items up to the end mark
abbrev pub table_of : {A : Type 0} → (Spot → Result (Option A × Spot) Fault) → Spot → Result (List A × Spot) Fault
table_of read s = listed_at read (s.end - s.place) [] s
