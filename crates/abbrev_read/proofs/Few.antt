-- A declaration that was read has few attributes.
use Rattle.std.proofs.Common.{◌≡◌, ℕ, zero, suc, ◌+◌, ◌-◌, ◌≤◌, ◌==◌, List, [], ◌∷◌, ◌++◌, length, Option, Some, None, Ok, All, ap, subst, inl, inr, arith}
use Rattle.std.specs.Prelude.{nat_lt}
use Rattle.std.specs.Option.{is_some}
use Rattle.std.proofs.lemmas.Bool.{cases_eq}
use Rattle.std.proofs.lemmas.List.{length-append}
use Rattle.std.proofs.lemmas.List.Elements.{All-push}
use Rattle.ds_base.specs.declared.fault.Kind.TheVariants.{BadAbbrev, LimitAttributes}
use Rattle.ds_base.specs.Spot.{Spot, fault_at}
use Rattle.ds_base.specs.Reading.{◌>>=◌, refuse_if, number_at, uleb_at}
use Rattle.ds_base.proofs.Passing.{bind_ok, passed, ok_is}
use Rattle.dwarf_types.specs.declared.abbrev.Abbrev.{Abbrev}
use Rattle.dwarf_types.specs.declared.abbrev.Field.{Field}
use Rattle.abbrev_read.specs.Reading.{short_at, pair_at, field_at, fields_at, declaration_at, declarations_at, table_at, table_spot}
use Rattle.abbrev_read.specs.Spelling.{HasFewFields}
use Rattle.abbrev_read.proofs.TableLaws.{after_pair, after_code, declared_then, code_zero, code_some}

after_few : (room : ℕ) (before : List Field) (first u : Spot) (o : Option (ℕ × ℕ)) (y : List Field × Spot)
    → ((field : Field) (v : Spot) → fields_at room (before ++ field ∷ []) first v ≡ Ok y → length y.0 ≤ length (before ++ field ∷ []) + room)
    → after_pair room before first (o, u) ≡ Ok y → length y.0 ≤ length before + suc room
after_few room before first u None y later e = omega (arith, ap (λ (read : List Field × Spot). length read.0) (ok_is (before, u) y e))
after_few room before first u (Some pair) y later e =
    let b = bind_ok (field_at pair u) (λ field. fields_at room (before ++ field.0 ∷ []) first field.1) y e in
    omega (arith, later b.0.0 b.0.1 b.2, length-append before (b.0.0 ∷ []))

fields_few : (room : ℕ) (before : List Field) (first s : Spot) (y : List Field × Spot) → fields_at room before first s ≡ Ok y → length y.0 ≤ length before + room
unfolding fields_at
fields_few zero before first s y e =
    let b = bind_ok (pair_at first s) (λ p. refuse_if (is_some p.0) (fault_at first LimitAttributes) >>= λ u. Ok (before, p.1)) y e in
    let q = passed (is_some b.0.0) (fault_at first LimitAttributes) (Ok (before, b.0.1)) y b.2 in
    omega (arith, ap (λ (read : List Field × Spot). length read.0) (ok_is (before, b.0.1) y q.1))
fields_few (suc room) before first s y e =
    let b = bind_ok (pair_at first s) (after_pair room before first) y e in
    after_few room before first b.0.1 b.0.0 y (λ field v read. fields_few room (before ++ field ∷ []) first v y read) b.2

declaration_few : (code : ℕ) (first s : Spot) (y : Abbrev × Spot) → declaration_at code first s ≡ Ok y → HasFewFields y.0
unfolding declaration_at
declaration_few code first s y e =
    let last : ℕ → ℕ → List Field × Spot → _ = λ tag children fields. Ok (record { code = code; tag = tag; children = children == 1; fields = fields.0 }, fields.1) in
    let fields : ℕ → ℕ × Spot → _ = λ tag children. fields_at 256 [] first children.1 >>= last tag children.0 in
    let flagged : ℕ → ℕ × Spot → _ = λ tag children. refuse_if (nat_lt 1 children.0) (fault_at first BadAbbrev) >>= λ u. fields tag children in
    let a = bind_ok (short_at first s) (λ tag. refuse_if (tag.0 == 0) (fault_at first BadAbbrev) >>= λ u. number_at 1 tag.1 >>= flagged tag.0) y e in
    let b = passed (a.0.0 == 0) (fault_at first BadAbbrev) (number_at 1 a.0.1 >>= flagged a.0.0) y a.2 in
    let c = bind_ok (number_at 1 a.0.1) (flagged a.0.0) y b.1 in
    let d = passed (nat_lt 1 c.0.0) (fault_at first BadAbbrev) (fields a.0.0 c.0) y c.2 in
    let f = bind_ok (fields_at 256 [] first c.0.1) (last a.0.0 c.0.0) y d.1 in
    omega (arith, fields_few 256 [] first c.0.1 f.0 f.1, ap (λ (read : Abbrev × Spot). length read.0.fields) (ok_is _ y f.2))

declarations_few : (left : ℕ) (before : List Abbrev) (s : Spot) (table : List Abbrev) → All HasFewFields before → declarations_at left before s ≡ Ok table → All HasFewFields table
unfolding declarations_at
declarations_few zero before s table few e = absurd cc
declarations_few (suc left) before s table few e =
    let b = bind_ok (uleb_at s) (after_code left before s) table e in
    elim (cases_eq b.0.0 0) [
      | inl z ↦ subst (All HasFewFields) (code_zero left before s b.0 table z b.2) few
      | inr nz ↦
          let w = code_some left before s b.0 table nz b.2 in
          let d = bind_ok (declaration_at b.0.0 s b.0.1) (declared_then left before) table w.1 in
          declarations_few left (before ++ d.0.0 ∷ []) d.0.1 table (All-push HasFewFields before d.0.0 few (declaration_few b.0.0 s b.0.1 d.0 d.1)) d.2
    ]

none_yet : All HasFewFields []
none_yet k d lt = absurd (omega arith)

pub table_few : (bytes : List ℕ) (offset : ℕ) (table : List Abbrev) → table_at bytes offset ≡ Ok table → All HasFewFields table
table_few bytes offset table e = let s = table_spot bytes offset in declarations_few (s.end - s.place) [] s table none_yet e
