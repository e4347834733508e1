-- Of which kinds the faults of an abbreviation table are.
use Rattle.std.proofs.Common.{ℕ, zero, suc, ◌==◌, List, [], ◌∷◌, ◌++◌, Ok, refl, arith, Bool, Option, Some, None, Result}
use Rattle.std.specs.Prelude.{is_some, nat_lt}
use Rattle.std.specs.Option.{option_map_or}
use Rattle.std.specs.List.{Contains}
use Rattle.ds_base.specs.DwarfNumbers.{DW_FORM_implicit_const}
use Rattle.ds_base.specs.declared.fault.Fault.{Fault}
use Rattle.ds_base.specs.declared.fault.Kind.{Kind}
use Rattle.ds_base.specs.declared.fault.Kind.TheVariants as kinds
use Rattle.ds_base.specs.Spot.{Spot, fault_at}
use Rattle.ds_base.specs.Reading.{◌>>=◌, number_at, uleb_at, sleb_at, refuse_if}
use Rattle.dwarf_types.specs.declared.abbrev.Abbrev.{Abbrev}
use Rattle.dwarf_types.specs.declared.abbrev.Field.{Field}
use Rattle.abbrev_read.specs.Codes.{is_declared}
use Rattle.abbrev_read.specs.Reading.{short_at, one_is_zero, pair_at, field_at, fields_at, declaration_at, declarations_at, table_at, table_spot}
use Rattle.ds_base.proofs.FaultKinds.{FaultsAre, ok_kinds, err_kinds, bind_kinds, refuse_kinds, either_kinds, number_kinds, uleb_kinds, sleb_kinds}

abbrev pub IsOne : Kind → Type 0
IsOne = Contains (kinds.Truncated ∷ kinds.LebTooWide ∷ kinds.BadAbbrev ∷ kinds.DuplicateCode ∷ kinds.LimitAttributes ∷ [])

-- a test before what follows
tried_kinds : {A : Type 0} (b : Bool) (f : Fault) (next : Result A Fault) → IsOne f.kind → FaultsAre IsOne next → FaultsAre IsOne (refuse_if b f >>= λ u. next)
tried_kinds b f next is later = bind_kinds IsOne (refuse_if b f) (λ u. next) (refuse_kinds IsOne b f is) (λ u. later)

option_kinds : {A B : Type 0} (f : A → Result B Fault) (o : Option A) (none : Result B Fault) → ((x : A) → FaultsAre IsOne (f x)) → FaultsAre IsOne none → FaultsAre IsOne (option_map_or f o none)
option_kinds f (Some x) none h k = h x
option_kinds f None none h k = k

cut : IsOne kinds.Truncated
cut = (0, omega arith, refl)

wide : IsOne kinds.LebTooWide
wide = (1, omega arith, refl)

bad : IsOne kinds.BadAbbrev
bad = (2, omega arith, refl)

twice : IsOne kinds.DuplicateCode
twice = (3, omega arith, refl)

many : IsOne kinds.LimitAttributes
many = (4, omega arith, refl)

short_kinds : (first s : Spot) → FaultsAre IsOne (short_at first s)
unfolding short_at
short_kinds first s = bind_kinds IsOne (uleb_at s) _ (uleb_kinds IsOne s cut wide) (λ n. tried_kinds (nat_lt 65535 n.0) (fault_at first kinds.BadAbbrev) (Ok n) bad (ok_kinds IsOne _))

pair_kinds : (first s : Spot) → FaultsAre IsOne (pair_at first s)
unfolding pair_at
pair_kinds first s =
    bind_kinds IsOne (short_at first s) _ (short_kinds first s) (λ name.
    bind_kinds IsOne (short_at first name.1) _ (short_kinds first name.1) (λ form.
    tried_kinds (one_is_zero name.0 form.0) (fault_at first kinds.BadAbbrev) (Ok _) bad (ok_kinds IsOne _)))

field_kinds : (pair : ℕ × ℕ) (s : Spot) → FaultsAre IsOne (field_at pair s)
unfolding field_at
field_kinds pair s = either_kinds IsOne (pair.1 == DW_FORM_implicit_const) _ (Ok _) (bind_kinds IsOne (sleb_at s) _ (sleb_kinds IsOne s cut wide) (λ n. ok_kinds IsOne _)) (ok_kinds IsOne _)

fields_kinds : (room : ℕ) (before : List Field) (first s : Spot) → FaultsAre IsOne (fields_at room before first s)
unfolding fields_at
fields_kinds zero before first s =
    bind_kinds IsOne (pair_at first s) _ (pair_kinds first s) (λ p. tried_kinds (is_some p.0) (fault_at first kinds.LimitAttributes) (Ok (before, p.1)) many (ok_kinds IsOne _))
fields_kinds (suc room) before first s =
    bind_kinds IsOne (pair_at first s) _ (pair_kinds first s) (λ p.
    option_kinds (λ pair. field_at pair p.1 >>= λ field. fields_at room (before ++ field.0 ∷ []) first field.1) p.0 (Ok (before, p.1))
    (λ pair. bind_kinds IsOne (field_at pair p.1) _ (field_kinds pair p.1) (λ field. fields_kinds room (before ++ field.0 ∷ []) first field.1)) (ok_kinds IsOne _))

declaration_kinds : (code : ℕ) (first s : Spot) → FaultsAre IsOne (declaration_at code first s)
unfolding declaration_at
declaration_kinds code first s =
    bind_kinds IsOne (short_at first s) _ (short_kinds first s) (λ tag.
    tried_kinds (tag.0 == 0) (fault_at first kinds.BadAbbrev) _ bad (bind_kinds IsOne (number_at 1 tag.1) _ (number_kinds IsOne 1 tag.1 cut) (λ children.
    tried_kinds (nat_lt 1 children.0) (fault_at first kinds.BadAbbrev) _ bad (bind_kinds IsOne (fields_at 256 [] first children.1) _ (fields_kinds 256 [] first children.1) (λ fields. ok_kinds IsOne _)))))

declarations_kinds : (left : ℕ) (before : List Abbrev) (s : Spot) → FaultsAre IsOne (declarations_at left before s)
unfolding declarations_at
declarations_kinds zero before s = err_kinds IsOne (fault_at s kinds.Truncated) cut
declarations_kinds (suc left) before s =
    bind_kinds IsOne (uleb_at s) _ (uleb_kinds IsOne s cut wide) (λ code.
    either_kinds IsOne (code.0 == 0) (Ok before) _ (ok_kinds IsOne _) (tried_kinds (is_declared code.0 before) (fault_at s kinds.DuplicateCode) _ twice
    (bind_kinds IsOne (declaration_at code.0 s code.1) _ (declaration_kinds code.0 s code.1) (λ d. declarations_kinds left (before ++ d.0 ∷ []) d.1))))

pub table_faults_kinds : (bytes : List ℕ) (offset : ℕ) → FaultsAre IsOne (table_at bytes offset)
table_faults_kinds bytes offset = declarations_kinds _ [] (table_spot bytes offset)
