-- Rows that rise make sequences whose addresses do not fall.
use Rattle.std.proofs.Common.{◌≡◌, ℕ, zero, suc, ◌≤◌, Bool, true, false, List, [], ◌∷◌, ◌++◌, Option, Some, None, Result, Ok, refl, sym, subst, arith}
use Rattle.std.specs.Prelude.{if◌then◌else◌}
use Rattle.std.specs.List.{All, AllPairs, filter_map, cons_option}
use Rattle.std.specs.Option.{option_to_list}
use Rattle.std.proofs.lemmas.Bool.{ltb-false}
use Rattle.std.proofs.lemmas.List.Elements.{All-nil, All-cons}
use Rattle.std.proofs.lemmas.List.Kept.{AllPairs-cons}
use Rattle.ds_base.specs.declared.fault.Fault.{Fault}
use Rattle.ds_base.proofs.Passing.{bind_ok, passed, ok_is}
use Rattle.dwarf_types.specs.declared.address.Addr.{Addr}
use Rattle.dwarf_types.specs.declared.address.Addr.TheVariants as addrs
use Rattle.dwarf_types.specs.declared.lines.FileName.{FileName}
use Rattle.dwarf_types.specs.declared.lines.RawLines.{RawLines}
use Rattle.dwarf_types.specs.declared.lines.RawRow.{RawRow}
use Rattle.dwarf_types.specs.declared.lines.RawSequence.{RawSequence}
use Rattle.line_read.specs.declared.header.LineHeader.{LineHeader}
use Rattle.line_read.specs.Registers.{initial}
use Rattle.line_read.specs.Program.{Listing, MatrixRow, matrix, last_placed, falls, backwards, all_rise, before, sequences, unless_stopped, program_of}
use Rattle.line_read.specs.Rising.{placed, addresses, DoesNotFall}

-- addresses that do not fall, with the last one before them
abbrev Up : Option ℕ → List ℕ → Type 0
Up last xs = AllPairs (λ a later. a ≤ later) (option_to_list last ++ xs)

up_none : Up None []
up_none i j d lt le = absurd (omega arith)

up_one : (a : ℕ) → Up (Some a) []
up_one a i j d lt le = absurd (omega arith)

above : (last a : ℕ) (xs : List ℕ) → last ≤ a → Up (Some a) xs → All (λ later. last ≤ later) (a ∷ xs)
above last a xs le h zero d lt = le
above last a xs le h (suc i) d lt = omega (arith, h 0 (suc i) d (omega arith) lt)

-- one address more
up_placed : (last : Option ℕ) (a : ℕ) (xs : List ℕ) → falls last (addrs.Placed a) ≡ false → Up (Some a) xs → Up last (a ∷ xs)
up_placed None a xs fine h = h
up_placed (Some last) a xs fine h = AllPairs-cons (λ a later. a ≤ later) last (a ∷ xs) (above last a xs (ltb-false a last fine) h) h

up_row : (last : Option ℕ) (at : Addr) (xs : List ℕ) → falls last at ≡ false → Up (last_placed last at) xs → Up last (option_to_list (placed at) ++ xs)
up_row last (addrs.Placed a) xs fine h = up_placed last a xs fine h
up_row last (addrs.Named symbol a) xs fine h = h
up_row last (addrs.Fixed a) xs fine h = h

up_nothing : (last : Option ℕ) → Up last []
up_nothing None = up_none
up_nothing (Some a) = up_one a

-- a row before the rows of a sequence
cons_append : (p : Option ℕ) (xs ys : List ℕ) → cons_option p xs ++ ys ≡ option_to_list p ++ (xs ++ ys)
cons_append None xs ys = refl
cons_append (Some a) xs ys = refl

row_first : (r : RawRow) (rows : List RawRow) (end : Option Addr) → addresses (record { rows = r ∷ rows; end = end }) ≡ option_to_list (placed r.at) ++ addresses (record { rows = rows; end = end })
row_first r rows end = cons_append (placed r.at) (filter_map (λ row. placed row.at) rows) (filter_map placed (option_to_list end))

-- an end alone
end_alone : (at : Addr) → addresses (record { rows = []; end = Some at }) ≡ option_to_list (placed at) ++ []
end_alone at = by (placed at)
  where
    by : (p : Option ℕ) → cons_option p [] ≡ option_to_list p ++ []
    by None = refl
    by (Some a) = refl

-- sequences, the first of which goes on behind an address
abbrev Ups : Option ℕ → List RawSequence → Type 0
Ups last [] = Unit {0}
Ups last (s ∷ more) = Up last (addresses s) × All DoesNotFall more

all_of : (ss : List RawSequence) → Ups None ss → All DoesNotFall ss
all_of [] h = All-nil DoesNotFall
all_of (s ∷ more) h = All-cons DoesNotFall s more h.0 h.1

row_before : (last : Option ℕ) (r : RawRow) (ss : List RawSequence) → falls last r.at ≡ false → Ups (last_placed last r.at) ss → Ups last (before r ss)
row_before last r [] fine h =
    (subst (Up last) (sym (row_first r [] None)) (up_row last r.at [] fine (up_nothing (last_placed last r.at))), All-nil DoesNotFall)
row_before last r (s ∷ more) fine h =
    (subst (Up last) (sym (row_first r s.rows s.end)) (up_row last r.at (addresses s) fine h.0), h.1)

row_ends : (last : Option ℕ) (at : Addr) (ss : List RawSequence) → falls last at ≡ false → Ups None ss → Ups last (record { rows = []; end = Some at } ∷ ss)
row_ends last at ss fine h =
    (subst (Up last) (sym (end_alone at)) (up_row last at [] fine (up_nothing (last_placed last at))), all_of ss h)

one_row : (ends : Bool) (last : Option ℕ) (r : RawRow) (ss : List RawSequence) → falls last r.at ≡ false → Ups (if ends then None else last_placed last r.at) ss
    → Ups last (if ends then record { rows = []; end = Some r.at } ∷ ss else before r ss)
one_row true last r ss fine h = row_ends last r.at ss fine h
one_row false last r ss fine h = row_before last r ss fine h

all_up : (last : Option ℕ) (rows : List MatrixRow) → all_rise last rows ≡ Ok tt → Ups last (sequences rows)
all_up last [] e = tt
all_up last (row ∷ more) e =
    let p = passed (falls last row.registers.at) (backwards row.place) (all_rise (if row.ends then None else last_placed last row.registers.at) more) tt e in
    one_row row.ends last row.registers (sequences more) p.0 (all_up (if row.ends then None else last_placed last row.registers.at) more p.1)

abbrev ok_lines : RawLines → Result RawLines Fault
ok_lines lines = Ok lines

made_lines : (x y : RawLines) → All DoesNotFall x.sequences → ok_lines x ≡ ok_lines y → All DoesNotFall y.sequences
made_lines x y h e = subst (λ (l : RawLines). All DoesNotFall l.sequences) (ok_is x y e) h

-- what a program means, if it has no fault
pub program_rises : (header : LineHeader) (dirs : List (List ℕ)) (files : List FileName) (listing : Listing) (lines : RawLines)
    → program_of header dirs files listing ≡ Ok lines → All DoesNotFall lines.sequences
unfolding program_of
program_rises header dirs files listing lines e =
    let rows = matrix header (initial header) listing.ops in
    let rise = bind_ok (all_rise None rows) _ lines e in
    let stop = bind_ok (unless_stopped listing.stop) _ lines rise.2 in
    made_lines _ lines (all_of (sequences rows) (all_up None rows rise.1)) stop.2
