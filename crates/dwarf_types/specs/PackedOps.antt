-- What packed operations stand for.
use Rattle.std.specs.Prelude.{◌≡◌, ℕ, ◌+◌, ◌-◌, ◌<◌, ◌≤◌, ◌^◌, ◌==◌, List, length, slice_index_or, Option, None, Some, IfSome, IsNone, true, false, if◌then◌else◌}
use Rattle.std.specs.Option.{option_map_or}
use Rattle.dwarf_types.specs.declared.packed_op.PackedOp.{PackedOp}
use Rattle.dwarf_types.specs.declared.runs.Run.{Run}
use Rattle.dwarf_types.specs.declared.sides.OpRow.{OpRow}
use Rattle.dwarf_types.specs.Runs.{no_run}

-- the place of an address that is kept
abbrev pub address_of : ℕ → Option ℕ
address_of n = if n == 0 then None else Some (n - 1)

-- the operation of its own numbers
abbrev pub own_row : PackedOp → OpRow
own_row p = record {
  code = p.code;
  bytes = record { from = p.from; to = p.from + p.len };
  address = address_of p.address;
  base = None;
  inner = no_run;
}

-- the operation that it stands for: at its place among the wide ones, or that of its own numbers
abbrev pub row_of : List OpRow → PackedOp → OpRow
row_of wide p = if p.is_wide then slice_index_or wide p.from (own_row p) else own_row p

-- its bytes end at a place, and its own is one of the wide ones
abbrev pub RowWithin : List OpRow → PackedOp → Type 0
RowWithin wide p = (p.from + p.len < 2 ^ 64) × (p.is_wide ≡ true → p.from < length wide)

-- ---- how operations are packed

-- its bytes do not end before they begin, and 16 bits hold how many there are
abbrev pub IsShort : Run → Type 0
IsShort bytes = (bytes.from ≤ bytes.to) × (bytes.to - bytes.from < 2 ^ 16)

-- 32 bits hold one more than the place of its address
abbrev pub IsLow : Option ℕ → Type 0
IsLow address = IfSome address (λ i. i < 2 ^ 32 - 1)

-- it names no base type, and has the one empty run inside
abbrev pub IsPlain : OpRow → Type 0
IsPlain row = IsNone row.base × ((row.inner.from ≡ 0) × (row.inner.to ≡ 0))

-- the numbers of an operation fit
pub record IsNarrow (row : OpRow) : Type 0 where
  pub plain : IsPlain row
  pub bytes : IsShort row.bytes
  pub address : IsLow row.address

abbrev pub stored : Option ℕ → ℕ
stored address = option_map_or (λ i. i + 1) address 0

abbrev pub narrow : OpRow → PackedOp
narrow row = record {
  from = row.bytes.from;
  address = stored row.address;
  len = row.bytes.to - row.bytes.from;
  code = row.code;
  is_wide = false;
}

abbrev pub wide_at : ℕ → PackedOp
wide_at place = record { from = place; address = 0; len = 0; code = 0; is_wide = true }
