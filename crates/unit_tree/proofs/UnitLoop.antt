-- The loop over units: the ways out, and the way on.
use Rattle.std.proofs.Common.{◌≡◌, ℕ, suc, ◌+◌, ◌-◌, ◌<◌, ◌≤◌, List, [], ◌∷◌, ◌++◌, length, Result, Ok, Err, refl, sym, ap, ◌∙◌, arith}
use Rattle.std.proofs.lemmas.Bool.{eq-eqb, ne_eqb}
use Rattle.ds_base.specs.declared.fault.Fault.{Fault}
use Rattle.ds_base.specs.declared.fault.ReadError.{ReadError}
use Rattle.ds_base.specs.declared.fault.ReadError.TheVariants as errors
use Rattle.dwarf_types.specs.declared.entry.InUnit.{InUnit}
use Rattle.dwarf_types.specs.SectionBytes.{SectionBytes}
use Rattle.unit_tree.specs.declared.profile.Profile.TheVariants.{Input}
use Rattle.unit_tree.specs.Entry.{Parsed}
use Rattle.unit_tree.specs.Unit.{unit_at, units_at}
use Rattle.ds_base.proofs.Refusals.{Refused}
use Rattle.unit_tree.proofs.Rising.{unit_passes}

-- ---- one turn

pub units_end : (sections : SectionBytes) (left : ℕ) (units : List InUnit) (before : Parsed) (place : ℕ) → place ≡ length sections.info → units_at Input sections (suc left) units before place ≡ Ok (units, before)
unfolding units_at
units_end sections left units before place last = rw (eq-eqb place (length sections.info) last) refl

unit_fails : (sections : SectionBytes) (left : ℕ) (units : List InUnit) (before : Parsed) (place : ℕ) (f : Fault) → place < length sections.info → unit_at Input sections (length units) before place ≡ Err f → units_at Input sections (suc left) units before place ≡ Err f
unfolding units_at
unit_fails sections left units before place f lt read = rw (ne_eqb place (length sections.info) (λ e. omega (arith, lt, e)), read) refl

pub one_more : (sections : SectionBytes) (left : ℕ) (units : List InUnit) (before : Parsed) (place : ℕ) (read : (InUnit × Parsed) × ℕ) → place < length sections.info → unit_at Input sections (length units) before place ≡ Ok read
    → units_at Input sections (suc left) units before place ≡ units_at Input sections left (units ++ read.0.0 ∷ []) read.0.1 read.1
unfolding units_at
one_more sections left units before place read lt unit = rw (ne_eqb place (length sections.info) (λ e. omega (arith, lt, e)), unit) refl

-- ---- all turns

-- what is read on from a place, behind the units before, is the total: the count is more than the bytes that are left
pub record Goes (sections : SectionBytes) (units : List InUnit) (before : Parsed) (place : ℕ) (total : Result (List InUnit × Parsed) Fault) : Type 0 where
  pub left : ℕ
  pub enough : length sections.info ≤ left + place
  pub is : units_at Input sections (suc left) units before place ≡ total

pub section_ends : (sections : SectionBytes) (units : List InUnit) (before : Parsed) (place : ℕ) (total : Result (List InUnit × Parsed) Fault) → place ≡ length sections.info → Goes sections units before place total → total ≡ Ok (units, before)
section_ends sections units before place total last g = sym g.is ∙ units_end sections g.left units before place last

pub unit_refused : (sections : SectionBytes) (number : ℕ) (units : List InUnit) (before : Parsed) (place : ℕ) (e : ReadError) (total : Result (List InUnit × Parsed) Fault) → place < length sections.info → number ≡ length units
    → Refused e (unit_at Input sections number before place) → Goes sections units before place total → Refused e total
unit_refused sections number units before place (errors.Faulty f) total lt count read g = sym g.is ∙ unit_fails sections g.left units before place f lt (rw (← count) read)
unit_refused sections number units before place errors.NoMemory total lt count read g = tt

pub unit_more : (sections : SectionBytes) (number : ℕ) (units : List InUnit) (before after : Parsed) (place next : ℕ) (unit : InUnit) (total : Result (List InUnit × Parsed) Fault) → place < length sections.info → number ≡ length units
    → unit_at Input sections number before place ≡ Ok ((unit, after), next) → Goes sections units before place total → Goes sections (units ++ unit ∷ []) after next total
unit_more sections number units before after place next unit total lt count read g =
    let passes = unit_passes Input sections number before place ((unit, after), next) read in
    let turn : suc (g.left - 1) ≡ g.left = omega (arith, g.enough, lt) in
    record {
      left = g.left - 1;
      enough = omega (arith, g.enough, passes.some, lt);
      is = ap (λ (n : ℕ). units_at Input sections n (units ++ unit ∷ []) after next) turn ∙ sym (one_more sections g.left units before place ((unit, after), next) lt (rw (← count) read)) ∙ g.is;
    }
