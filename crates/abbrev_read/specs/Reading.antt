-- Reading an abbreviation table (DWARF 4, section 7.5.3): its declarations, or the first fault in the order of its items.
use Rattle.std.specs.Prelude.{ℕ, zero, suc, ◌-◌, ◌==◌, pos, Bool, List, [], ◌∷◌, ◌++◌, length, Option, Some, None, is_some, Result, Ok, Err, nat_lt, if◌then◌else◌}
use Rattle.std.specs.Option.{option_map_or}
use Rattle.ds_base.specs.DwarfNumbers.{DW_FORM_implicit_const}
use Rattle.ds_base.specs.declared.fault.Fault.{Fault}
use Rattle.ds_base.specs.declared.fault.Kind.TheVariants as kinds
use Rattle.ds_base.specs.declared.fault.Part.TheVariants as parts
use Rattle.ds_base.specs.Spot.{Spot, fault_at}
use Rattle.ds_base.specs.Reading.{◌>>=◌, refuse_if, number_at, uleb_at, sleb_at}
use Rattle.dwarf_types.specs.declared.abbrev.Field.{Field}
use Rattle.dwarf_types.specs.declared.abbrev.Abbrev.{Abbrev}
use Rattle.abbrev_read.specs.Codes.{is_declared}

-- A declaration's faults stand at its first byte, where its code is.

-- a number of 16 bits
unfoldable pub short_at : Spot → Spot → Result (ℕ × Spot) Fault
short_at first s = do
  n ← uleb_at s
  _ ← refuse_if (nat_lt 65535 n.0) (fault_at first kinds.BadAbbrev)
  Ok n

-- just one of the two is 0
abbrev pub one_is_zero : ℕ → ℕ → Bool
one_is_zero name form = if name == 0 then nat_lt 0 form else form == 0

-- an attribute's number and that of its form, or the two zeros that end the attributes
unfoldable pub pair_at : Spot → Spot → Result (Option (ℕ × ℕ) × Spot) Fault
pair_at first s = do
  name ← short_at first s
  form ← short_at first name.1
  _ ← refuse_if (one_is_zero name.0 form.0) (fault_at first kinds.BadAbbrev)
  Ok (if name.0 == 0 then None else Some (name.0, form.0), form.1)

-- what follows the two numbers: an implicit constant stands in the table (DWARF 5, section 7.5.3)
unfoldable pub field_at : ℕ × ℕ → Spot → Result (Field × Spot) Fault
field_at pair s = if pair.1 == DW_FORM_implicit_const then (sleb_at s >>= λ n. Ok (record { name = pair.0; form = pair.1; fixed = n.0 }, n.1)) else Ok (record { name = pair.0; form = pair.1; fixed = pos 0 }, s)

-- the attributes up to the two zeros, of which so many more are let through
unfoldable pub fields_at : ℕ → List Field → Spot → Spot → Result (List Field × Spot) Fault
fields_at zero before first s = do
  p ← pair_at first s
  _ ← refuse_if (is_some p.0) (fault_at first kinds.LimitAttributes)
  Ok (before, p.1)
fields_at (suc room) before first s = do
  p ← pair_at first s
  option_map_or (λ pair. field_at pair p.1 >>= λ field. fields_at room (before ++ field.0 ∷ []) first field.1) p.0 (Ok (before, p.1))

-- what follows the code of a declaration
unfoldable pub declaration_at : ℕ → Spot → Spot → Result (Abbrev × Spot) Fault
declaration_at code first s = do
  tag ← short_at first s
  _ ← refuse_if (tag.0 == 0) (fault_at first kinds.BadAbbrev)
  children ← number_at 1 tag.1
  _ ← refuse_if (nat_lt 1 children.0) (fault_at first kinds.BadAbbrev)
  fields ← fields_at 256 [] first children.1
  Ok (record { code = code; tag = tag.0; children = children.0 == 1; fields = fields.0 }, fields.1)

-- Declarations up to the code 0. Each takes a byte at least, so the count of the bytes that are left bounds them.
unfoldable pub declarations_at : ℕ → List Abbrev → Spot → Result (List Abbrev) Fault
declarations_at zero before s = Err (fault_at s kinds.Truncated)
declarations_at (suc left) before s = do
  code ← uleb_at s
  if code.0 == 0 then Ok before else (refuse_if (is_declared code.0 before) (fault_at s kinds.DuplicateCode) >>= λ u. declaration_at code.0 s code.1 >>= λ d. declarations_at left (before ++ d.0 ∷ []) d.1)

abbrev pub table_spot : List ℕ → ℕ → Spot
table_spot bytes offset = record { bytes = bytes; part = parts.Abbrev; place = offset; end = length bytes }

-- the table that begins at a place of the section
abbrev pub table_at : List ℕ → ℕ → Result (List Abbrev) Fault
table_at bytes offset = let s = table_spot bytes offset in declarations_at (s.end - s.place) [] s
