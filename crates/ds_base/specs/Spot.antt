-- Where a cursor stands.
use Rattle.std.specs.Prelude.{ℕ, ◌+◌, ◌≤◌, ◌<◌, ◌^◌, List, length, slice_range}
use Rattle.ds_base.specs.declared.fault.Fault.{Fault}
use Rattle.ds_base.specs.declared.fault.Kind.{Kind}
use Rattle.ds_base.specs.declared.fault.Part.{Part}

-- bytes of a part of a file, the place of the next item, and the place behind the last one
pub record Spot : Type 0 where
  pub bytes : List ℕ
  pub part : Part
  pub place : ℕ
  pub end : ℕ

pub record IsSpot (s : Spot) : Type 0 where
  pub before_end : s.place ≤ s.end
  pub in_bytes : s.end ≤ length s.bytes

-- its places have 32 bits
pub record IsSmall (s : Spot) : Type 0 where
  pub before_end : s.place ≤ s.end
  pub small : s.end < 2 ^ 32

-- the bytes that are left
abbrev pub rest : Spot → List ℕ
rest s = slice_range s.bytes s.place s.end

-- the spot behind the next n bytes
abbrev pub after : Spot → ℕ → Spot
after s n = record s { place = s.place + n }

-- a fault that is placed here
abbrev pub fault_at : Spot → Kind → Fault
fault_at s kind = record { kind = kind; section = s.part; place = s.place }

-- at the first of some bytes, all of which are there to be read
abbrev pub start : Part → List ℕ → Spot
start part bytes = record { bytes = bytes; part = part; place = 0; end = length bytes }
