-- The rows of a sequence that are in a range are a sequence of the linked program.
use Rattle.std.proofs.Common.{◌≡◌, ℕ, suc, ◌^◌, ◌<◌, ◌≤◌, ◌==◌, true, List, [], ◌∷◌, ◌++◌, length, Option, Some, None, IfSome, arith, inl, inr}
use Rattle.std.specs.Prelude.{nat_lt, nat_le, if◌then◌else◌}
use Rattle.std.specs.Bool.{⊤}
use Rattle.std.specs.List.{All, AllPairs, AllByRecursion, cons_option, filter_map, flat_map}
use Rattle.std.specs.Option.{option_and_then, option_to_list, unwrap_or}
use Rattle.std.proofs.lemmas.Bool.{and_parts, cases_Bool, ltb-true}
use Rattle.std.proofs.lemmas.List.Elements.{All-from_recursion, recursion_from_All}
use Rattle.dwarf_types.specs.declared.address.Addr.{Addr}
use Rattle.dwarf_types.specs.declared.lines.RawRow.{RawRow}
use Rattle.dwarf_types.specs.declared.lines.RawSequence.{RawSequence}
use Rattle.dwarf_types.specs.declared.lines.Row.{Row}
use Rattle.dwarf_types.specs.WellLines.{IsRow, IsSequence, NeverFall}
use Rattle.addr_map.specs.declared.map.AddrMap.{AddrMap}
use Rattle.addr_map.specs.declared.map.MapRange.{MapRange}
use Rattle.addr_map.specs.Moved.{holds, holds_end, moved_by}
use Rattle.addr_map.specs.Sound.{IsSound, IsSoundRange}
use Rattle.line_read.specs.Rising.{placed, DoesNotFall}
use Rattle.moved_parts.specs.Lines.{by_linked, end_by, is_first, linked_end, placed_among, row_by, sequence_by, sequences_moved}
use Rattle.object_laws.proofs.FramesMoved.{moved_by_fits, moved_end_by_fits}
use Rattle.object_laws.proofs.Spans.{each_given, both_all}

-- the registers of a row fit
pub record FitsRow (row : Row) : Type 0 where
  pub file : row.file < 2 ^ 64
  pub line : row.line < 2 ^ 32
  pub column : row.column < 2 ^ 64
  pub discriminator : row.discriminator < 2 ^ 64
  pub isa : row.isa < 2 ^ 64

abbrev pub FitsRaw : RawRow → Type 0
FitsRaw r = FitsRow r.row

-- ---- rows

row_placed : (r : MapRange) (row : Row) (a : ℕ) → IsSoundRange r → FitsRow row → IfSome (if holds a r then Some (record row { address = moved_by a r }) else None) IsRow
row_placed r row a sound fits = elim (cases_Bool (holds a r)) [
  | inl is ↦ rw is (record { address = moved_by_fits a r sound is; file = fits.file; line = fits.line; column = fits.column; discriminator = fits.discriminator; isa = fits.isa })
  | inr other ↦ rw other tt
]

row_at : (r : MapRange) (row : Row) (p : Option ℕ) → IsSoundRange r → FitsRow row → IfSome (option_and_then (λ a. if holds a r then Some (record row { address = moved_by a r }) else None) p) IsRow
row_at r row None sound fits = tt
row_at r row (Some a) sound fits = row_placed r row a sound fits

row_is : (r : MapRange) → IsSoundRange r → (row : RawRow) → FitsRaw row → IfSome (row_by r row) IsRow
row_is r sound row fits = row_at r row.row (placed row.at) sound fits

-- ---- the end

linked_end_fits : (r : MapRange) → IsSoundRange r → linked_end r < 2 ^ 64
linked_end_fits r sound = sound.fits

moved_rises : (a b : ℕ) (r : MapRange) → a ≤ b → moved_by a r ≤ moved_by b r
moved_rises a b r le = omega arith

abbrev end_of : MapRange → Option ℕ → ℕ
end_of r o = unwrap_or o (linked_end r)

end_placed : (r : MapRange) (a : ℕ) → IsSoundRange r → end_of r (if holds_end a r then Some (moved_by a r) else None) < 2 ^ 64
end_placed r a sound = elim (cases_Bool (holds_end a r)) [
  | inl is ↦ rw is (moved_end_by_fits a r sound is)
  | inr other ↦ rw other (linked_end_fits r sound)
]

end_at : (r : MapRange) (p : Option ℕ) → IsSoundRange r → end_of r (option_and_then (λ a. if holds_end a r then Some (moved_by a r) else None) p) < 2 ^ 64
end_at r None sound = linked_end_fits r sound
end_at r (Some a) sound = end_placed r a sound

end_fits : (r : MapRange) (end : Option Addr) → IsSoundRange r → end_of r (option_and_then (end_by r) end) < 2 ^ 64
end_fits r None sound = linked_end_fits r sound
end_fits r (Some at) sound = end_at r (placed at) sound

-- ---- the order

abbrev pub Rise : List ℕ → Type 0
Rise [] = ⊤
Rise (a ∷ xs) = AllByRecursion (λ later. a ≤ later) xs × Rise xs

rise_from : (xs : List ℕ) → AllPairs (λ a later. a ≤ later) xs → Rise xs
rise_from [] pairs = tt
rise_from (a ∷ xs) pairs =
    (recursion_from_All (λ later. a ≤ later) xs (λ k d within. pairs 0 (suc k) d (omega arith) (omega arith)), rise_from xs (λ i j d lt within. pairs (suc i) (suc j) d (omega arith) (omega arith)))

-- nothing moves below from
abbrev Above : MapRange → ℕ → List ℕ → Type 0
Above r from xs = AllByRecursion (λ a. from ≤ moved_by a r) xs

above_start : (r : MapRange) (xs : List ℕ) → Above r 0 xs
above_start r [] = tt
above_start r (a ∷ xs) = (omega arith, above_start r xs)

above_from : (r : MapRange) (a : ℕ) (xs : List ℕ) → AllByRecursion (λ later. a ≤ later) xs → Above r (moved_by a r) xs
above_from r a [] all = tt
above_from r a (b ∷ xs) all = (moved_rises a b r all.0, above_from r a xs all.1)

-- addresses of rows, and of the end
abbrev addrs : List RawRow → Option Addr → List ℕ
addrs rows end = filter_map (λ (row : RawRow). placed row.at) rows ++ filter_map placed (option_to_list end)

ends_placed : (r : MapRange) (from a : ℕ) → from ≤ linked_end r → from ≤ moved_by a r → from ≤ end_of r (if holds_end a r then Some (moved_by a r) else None)
ends_placed r from a le low = elim (cases_Bool (holds_end a r)) [
  | inl is ↦ rw is low
  | inr other ↦ rw other le
]

ends_at : (r : MapRange) (from : ℕ) (p : Option ℕ) → from ≤ linked_end r → Above r from (cons_option p []) → from ≤ end_of r (option_and_then (λ a. if holds_end a r then Some (moved_by a r) else None) p)
ends_at r from None le above = le
ends_at r from (Some a) le above = ends_placed r from a le above.0

ends : (r : MapRange) (from : ℕ) (end : Option Addr) → from ≤ linked_end r → Above r from (filter_map placed (option_to_list end)) → from ≤ end_of r (option_and_then (end_by r) end)
ends r from None le above = le
ends r from (Some at) le above = ends_at r from (placed at) le above

holds_below : (a : ℕ) (r : MapRange) → holds a r ≡ true → a ≤ r.end
holds_below a r e =
    let both = and_parts (nat_le r.start a) (nat_lt a r.end) e in
    let below = ltb-true a r.end both.1 in
    omega arith

-- what is left of the rows, and their addresses
abbrev Goes : MapRange → List Row → List ℕ → ℕ → Type 0
Goes r rows xs end = (from : ℕ) → from ≤ linked_end r → Above r from xs → Rise xs → NeverFall from rows end

row_goes : (r : MapRange) (row : Row) (a : ℕ) (rows : List Row) (xs : List ℕ) (end : ℕ) → Goes r rows xs end
    → Goes r (cons_option (if holds a r then Some (record row { address = moved_by a r }) else None) rows) (a ∷ xs) end
row_goes r row a rows xs end more from le above rise = elim (cases_Bool (holds a r)) [
  | inl is ↦ rw is (above.0, more (moved_by a r) (moved_rises a r.end r (holds_below a r is)) (above_from r a xs rise.0) rise.1)
  | inr other ↦ rw other (more from le above.1 rise.1)
]

row_at_goes : (r : MapRange) (row : Row) (p : Option ℕ) (rows : List Row) (xs ys : List ℕ) (end : ℕ) → Goes r rows (xs ++ ys) end
    → Goes r (cons_option (option_and_then (λ a. if holds a r then Some (record row { address = moved_by a r }) else None) p) rows) (cons_option p xs ++ ys) end
row_at_goes r row None rows xs ys end more = more
row_at_goes r row (Some a) rows xs ys end more = row_goes r row a rows (xs ++ ys) end more

rows_go : (r : MapRange) (end : Option Addr) (rows : List RawRow) → Goes r (filter_map (row_by r) rows) (addrs rows end) (end_of r (option_and_then (end_by r) end))
rows_go r end [] = λ from le above rise. ends r from end le above
rows_go r end (row ∷ rows) = row_at_goes r row.row (placed row.at) (filter_map (row_by r) rows) (filter_map (λ (row : RawRow). placed row.at) rows) (filter_map placed (option_to_list end)) _ (rows_go r end rows)

-- ---- sequences

-- the rows fit, and the addresses do not fall
pub record IsRawSequence (s : RawSequence) : Type 0 where
  pub rows : AllByRecursion FitsRaw s.rows
  pub rises : DoesNotFall s

some_rows : (rows : List Row) (end : ℕ) → AllByRecursion IsRow rows → NeverFall 0 rows end → end < 2 ^ 64 → IfSome (if length rows == 0 then None else Some (record { rows = rows; end = end })) IsSequence
some_rows [] end all order fits = tt
some_rows (row ∷ rows) end all order fits = elim (cases_Bool (length (row ∷ rows) == 0)) [
  | inl is ↦ rw is tt
  | inr other ↦ rw other (record { some = omega arith; rows = All-from_recursion IsRow (row ∷ rows) all; order = order; end = fits })
]

sequence_is : (r : MapRange) → IsSoundRange r → (s : RawSequence) → IsRawSequence s → IfSome (sequence_by s r) IsSequence
sequence_is r sound s raw =
    some_rows (filter_map (row_by r) s.rows) (end_of r (option_and_then (end_by r) s.end)) (each_given FitsRaw IsRow (row_by r) (row_is r sound) s.rows raw.rows)
    (rows_go r s.end s.rows 0 (omega arith) (above_start r (addrs s.rows s.end)) (rise_from (addrs s.rows s.end) raw.rises)) (end_fits r s.end sound)

-- ---- ranges in the order of the linked program

among_all : (P : MapRange → Type 0) (r : MapRange) (rs : List MapRange) → P r → AllByRecursion P rs → AllByRecursion P (placed_among r rs)
among_all P r [] p all = (p, tt)
among_all P r (x ∷ xs) p all = elim (cases_Bool (is_first r x)) [
  | inl is ↦ rw is (p, all)
  | inr other ↦ rw other (all.0, among_all P r xs p all.1)
]

linked_all : (P : MapRange → Type 0) (rs : List MapRange) → AllByRecursion P rs → AllByRecursion P (by_linked rs)
linked_all P [] all = tt
linked_all P (r ∷ rs) all = among_all P r (by_linked rs) all.0 (linked_all P rs all.1)

by_ranges : (rs : List MapRange) (sequences : List RawSequence) → AllByRecursion IsSoundRange rs → AllByRecursion IsRawSequence sequences
    → AllByRecursion IsSequence (flat_map (λ r. filter_map (λ s. sequence_by s r) sequences) rs)
by_ranges [] sequences sound raw = tt
by_ranges (r ∷ rs) sequences sound raw =
    both_all IsSequence (filter_map (λ s. sequence_by s r) sequences) (flat_map (λ r. filter_map (λ s. sequence_by s r) sequences) rs)
    (each_given IsRawSequence IsSequence (λ s. sequence_by s r) (sequence_is r sound.0) sequences raw) (by_ranges rs sequences sound.1 raw)

pub sequences_are : (map : AddrMap) (sequences : List RawSequence) → IsSound map → AllByRecursion IsRawSequence sequences → All IsSequence (sequences_moved map.ranges sequences)
sequences_are map sequences sound raw = All-from_recursion IsSequence (sequences_moved map.ranges sequences)
    (by_ranges (by_linked map.ranges) sequences (linked_all IsSoundRange map.ranges (recursion_from_All IsSoundRange map.ranges sound.ranges)) raw)
