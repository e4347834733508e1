-- The header of a line table, as it is read: where the readers of its items stand, and what version it has.
use Rattle.std.proofs.Common.{◌≡◌, ℕ, zero, suc, ◌+◌, ◌-◌, ◌≤◌, Bool, true, false, List, [], ◌∷◌, ◌++◌, length, Result, Ok, inl, inr, refl, ap, subst, arith}
use Rattle.std.specs.Prelude.{◌==◌, ◌||◌, nat_lt, nat_le, if◌then◌else◌}
use Rattle.std.proofs.lemmas.Bool.{leb-true, ltb-false}
use Rattle.ds_base.specs.DwarfNumbers.{LENGTH_RESERVED}
use Rattle.ds_base.specs.declared.fault.Fault.{Fault}
use Rattle.ds_base.specs.declared.fault.Kind.TheVariants as kinds
use Rattle.ds_base.specs.Spot.{Spot, after, fault_at}
use Rattle.ds_base.specs.Reading.{◌>>=◌, refuse_if, number_at, items_at}
use Rattle.ds_base.proofs.Passing.{bind_ok, passed, ok_is}
use Rattle.line_read.specs.Header.{bad, fields_at, last_version, operations_at, program_at, table_at, version_at}
use Rattle.object_laws.proofs.Forms.{IsVersion}
use Rattle.object_laws.proofs.LinesOps.{Header}
use Rattle.object_laws.proofs.LinesReads.{Holds, Lies, number_holds, number_lies, number_room, rest_holds}

neither : (b c : Bool) → (b || c) ≡ false → (b ≡ false) × (c ≡ false)
neither false c e = (refl, e)
neither true c e = absurd cc

shorter : (s : Spot) (len : ℕ) → Holds s → s.place ≤ s.end → s.end ≤ length s.bytes → len ≤ s.end - s.place → Lies (record s { end = s.place + len })
shorter s len h order inside le =
    let t : Spot = record s { end = s.place + len } in
    record { holds = h; stands = record { place = record { before_end = omega arith; in_bytes = omega (arith, order, inside, le) }; bytes = rest_holds t h } }

-- behind a number that is there
number_inside : (first s : Spot) → s ≡ after first 4 → 4 ≤ first.end - first.place → first.end ≤ length first.bytes → (s.place ≤ s.end) × (s.end ≤ length s.bytes)
number_inside first s is room inside =
    let place : s.place ≡ first.place + 4 = ap (λ (x : Spot). x.place) is in
    let end : s.end ≡ first.end = ap (λ (x : Spot). x.end) is in
    let bytes : length s.bytes ≡ length first.bytes = ap (λ (x : Spot). length x.bytes) is in
    (omega (arith, place, end, room), omega (arith, end, bytes, inside))

pub table_lies : (first s : Spot) → Holds first → first.end ≤ length first.bytes → table_at first ≡ Ok s → Lies s
unfolding table_at
table_lies first s h inside e =
    let len = bind_ok (number_at 4 first) _ s e in
    let p = passed (nat_le LENGTH_RESERVED len.0.0 || nat_lt (len.0.1.end - len.0.1.place) len.0.0) (bad first) _ s len.2 in
    let few = neither (nat_le LENGTH_RESERVED len.0.0) (nat_lt (len.0.1.end - len.0.1.place) len.0.0) p.0 in
    let room = number_room 4 first len.0 len.1 in
    let there = number_inside first len.0.1 room.0 room.1 inside in
    subst Lies (ok_is (record len.0.1 { end = len.0.1.place + len.0.0 }) s p.1)
    (shorter len.0.1 len.0.0 (number_holds 4 first len.0 h len.1) there.0 there.1 (ltb-false (len.0.1.end - len.0.1.place) len.0.0 few.1))

-- ---- versions

most_four : (unit version : ℕ) → unit ≡ 4 → version ≤ last_version unit → version ≤ 4
most_four unit version is le = subst (λ (n : ℕ). version ≤ last_version n) is le

five_by : (unit version : ℕ) → IsVersion unit → version ≤ last_version unit → nat_le 5 version ≡ true → unit ≡ 5
five_by unit version (inl four) le since = absurd (omega (arith, most_four unit version four le, leb-true 5 version since))
five_by unit version (inr five) le since = five

-- a table of version 5 stands in a unit of version 5
pub table_version : (unit : ℕ) (s : Spot) (y : ℕ × Spot) → IsVersion unit → version_at unit s ≡ Ok y → nat_le 5 y.0 ≡ true → unit ≡ 5
unfolding version_at
table_version unit s y known e since =
    let version = bind_ok (number_at 2 s) _ y e in
    let p = passed (nat_lt version.0.0 2 || nat_lt (last_version unit) version.0.0) (fault_at s kinds.LineVersion) (Ok version.0) y version.2 in
    let most = neither (nat_lt version.0.0 2) (nat_lt (last_version unit) version.0.0) p.0 in
    let same : version.0.0 ≡ y.0 = ap (λ (x : ℕ × Spot). x.0) (ok_is version.0 y p.1) in
    five_by unit y.0 known (subst (λ (n : ℕ). n ≤ last_version unit) same (ltb-false (last_version unit) version.0.0 most.1)) since

-- ---- fields

-- behind header_length
pub behind_lies : (first s : Spot) (y : Spot × Spot) → Lies s → program_at first s ≡ Ok y → Lies y.1
unfolding program_at
behind_lies first s y h e =
    let len = bind_ok (number_at 4 s) _ y e in
    let p = passed (nat_lt (len.0.1.end - len.0.1.place) len.0.0) (bad first) (Ok (after len.0.1 len.0.0, len.0.1)) y len.2 in
    subst (λ (x : Spot × Spot). Lies x.1) (ok_is (after len.0.1 len.0.0, len.0.1) y p.1) (number_lies 4 s len.0 h len.1)

items_lie : {A : Type 0} (read : Spot → Result (A × Spot) Fault) → ((s : Spot) (y : A × Spot) → Lies s → read s ≡ Ok y → Lies y.1)
    → (n : ℕ) (before : List A) (s : Spot) (y : List A × Spot) → Lies s → items_at read n before s ≡ Ok y → Lies y.1
items_lie {A = A} read known zero before s y h e = subst (λ (x : List A × Spot). Lies x.1) (ok_is (before, s) y e) h
items_lie {A = A} read known (suc n) before s y h e =
    let item = bind_ok (read s) (λ (item : A × Spot). items_at read n (before ++ item.0 ∷ []) item.1) y e in
    items_lie read known n (before ++ item.0.0 ∷ []) item.0.1 y (known s item.0 h item.1) item.2

abbrev done_at : {A : Type 0} → A → Spot → Result (A × Spot) Fault
done_at x s = Ok (x, s)

here : {A : Type 0} (x : A) (s : Spot) (y : A × Spot) → Lies s → done_at x s ≡ Ok y → Lies y.1
here {A = A} x s y h e = subst (λ (p : A × Spot). Lies p.1) (ok_is (x, s) y e) h

operations_lie : (first : Spot) (version : ℕ) (s : Spot) (y : Unit {0} × Spot) → Lies s → operations_at first version s ≡ Ok y → Lies y.1
unfolding operations_at
operations_lie first version s y h e = by (nat_le 4 version) e
  where
    by : (b : Bool) → (if b then (number_at 1 s >>= λ most. refuse_if (nat_lt 1 most.0) (fault_at first kinds.VliwLine) >>= λ u. Ok (tt, most.1)) else done_at tt s) ≡ Ok y → Lies y.1
    by false e = here tt s y h e
    by true e =
        let most = bind_ok (number_at 1 s) (λ most. refuse_if (nat_lt 1 most.0) (fault_at first kinds.VliwLine) >>= λ u. Ok (tt, most.1)) y e in
        let p = passed (nat_lt 1 most.0.0) (fault_at first kinds.VliwLine) (Ok (tt, most.0.1)) y most.2 in
        here tt most.0.1 y (number_lies 1 s most.0 h most.1) p.1

-- the fields of a table of a version
abbrev pub AreFields : ℕ → Header × Spot → Type 0
AreFields version y = (y.0.version ≡ version) × Lies y.1

fields_here : (version : ℕ) (header : Header) (s : Spot) (y : Header × Spot) → header.version ≡ version → Lies s → done_at header s ≡ Ok y → AreFields version y
fields_here version header s y is h e = subst (AreFields version) (ok_is (header, s) y e) (is, h)

pub fields_lie : (first : Spot) (version : ℕ) (s : Spot) (y : Header × Spot) → Lies s → fields_at first version s ≡ Ok y → AreFields version y
unfolding fields_at
fields_lie first version s y h e =
    let shortest = bind_ok (number_at 1 s) _ y e in
    let most = bind_ok (operations_at first version shortest.0.1) _ y shortest.2 in
    let is_stmt = bind_ok (number_at 1 most.0.1) _ y most.2 in
    let line_base = bind_ok (number_at 1 is_stmt.0.1) _ y is_stmt.2 in
    let line_range = bind_ok (number_at 1 line_base.0.1) _ y line_base.2 in
    let some_range = passed (line_range.0.0 == 0) (bad first) _ y line_range.2 in
    let opcode_base = bind_ok (number_at 1 line_range.0.1) _ y some_range.1 in
    let some_base = passed (opcode_base.0.0 == 0) (bad first) _ y opcode_base.2 in
    let lengths = bind_ok (items_at (number_at 1) (opcode_base.0.0 - 1) [] opcode_base.0.1) _ y some_base.1 in
    let h1 = number_lies 1 s shortest.0 h shortest.1 in
    let h2 = operations_lie first version shortest.0.1 most.0 h1 most.1 in
    let h3 = number_lies 1 most.0.1 is_stmt.0 h2 is_stmt.1 in
    let h4 = number_lies 1 is_stmt.0.1 line_base.0 h3 line_base.1 in
    let h5 = number_lies 1 line_base.0.1 line_range.0 h4 line_range.1 in
    let h6 = number_lies 1 line_range.0.1 opcode_base.0 h5 opcode_base.1 in
    fields_here version _ lengths.0.1 y refl (items_lie (number_at 1) (λ s y h e. number_lies 1 s y h e) (opcode_base.0.0 - 1) [] opcode_base.0.1 lengths.0 h6 lengths.1) lengths.2
