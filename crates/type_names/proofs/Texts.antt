-- Texts written one behind the other.
use Rattle.std.proofs.Common.{◌≡◌, ◌<◌, inl, inr, ℕ, Bool, true, false, List, ◌++◌, length, Option, Some, None, refl, sym, ap, ◌∙◌, arith, append_assoc, length-append}
use Rattle.std.specs.Prelude.{nat_le, if◌then◌else◌}
use Rattle.std.specs.Option.{option_and_then}
use Rattle.std.proofs.lemmas.Bool.{cases_lt, le-leb, lt-leb}
use Rattle.type_names.specs.Entries.{Text}
use Rattle.std.proofs.Common.{suc, slice_get}
use Rattle.dwarf_types.specs.declared.entry.Entry.{Entry}
use Rattle.type_names.specs.Spell.{◌&◌, spelled_by, spelled_within}
use Rattle.std.proofs.Common.{Result, Err, subst}
use Rattle.type_names.specs.declared.spell.SpellError.{SpellError}
use Rattle.type_names.specs.declared.spell.SpellError.TheVariants as errors
use Rattle.type_names.specs.Onto.{Writes, onto}

-- two texts are written one behind the other
pub onto_joined : (out : List ℕ) (a b : Option Text) → onto out (a & b) ≡ option_and_then (λ more. onto more b) (onto out a)
unfolding onto
onto_joined out None None = refl
onto_joined out None (Some b) = refl
onto_joined out (Some a) b = elim (cases_lt 4096 (length (out ++ a))) [
  | inl long ↦ rw (lt-leb (length (out ++ a)) 4096 long) (too_long b long)
  | inr fits ↦ rw (le-leb (length (out ++ a)) 4096 fits) (go b)
] where
  too_long : (b : Option Text) → 4096 < length (out ++ a) → onto out ((Some a) & b) ≡ None
  too_long None long = refl
  too_long (Some b) long = rw (lt-leb (length (out ++ (a ++ b))) 4096 (omega (arith, length-append out (a ++ b), length-append a b, length-append out a))) refl

  go : (b : Option Text) → onto out ((Some a) & b) ≡ onto (out ++ a) b
  go None = refl
  go (Some b) = ap (λ (all : List ℕ). if nat_le (length all) 4096 then Some all else None) (sym (append_assoc out a b))

-- what is written behind a text that was written
pub joined : {A : Type 0} (out mid new : List ℕ) (a b : Option Text) (r : Result A SpellError) → onto out a ≡ Some mid → Writes r new (onto mid b) → Writes r new (onto out (a & b))
joined {A} out mid new a b r is rest = subst (Writes r new) (sym (onto_joined out a b ∙ ap (option_and_then (λ more. onto more b)) is)) rest

-- where the first can't be written, both can't
pub stopped : (out mid new : List ℕ) (a b : Option Text) (e : SpellError) → Writes {A = Unit {0}} (Err e) mid (onto out a) → Writes {A = Unit {0}} (Err e) new (onto out (a & b))
stopped out mid new a b errors.Cannot is = onto_joined out a b ∙ ap (option_and_then (λ more. onto more b)) is
stopped out mid new a b errors.NoMemory is = tt

-- what is longer than a spelling may be is not written
pub not_written : (out text : List ℕ) (left_out : Bool) → 4096 < length text → onto out (if left_out then None else Some text) ≡ None
unfolding onto
not_written out text true long = refl
not_written out text false long = rw (lt-leb (length (out ++ text)) 4096 (omega (arith, length-append out text, long))) refl

pub opened : (levels : ℕ) (may_open : ℕ → Bool) (entries : List Entry) (k : ℕ) (e : Entry) → may_open k ≡ true → slice_get entries k ≡ Some e
    → spelled_within (suc levels) may_open entries k ≡ spelled_by (spelled_within levels may_open entries) entries k e
unfolding spelled_within
opened levels may_open entries k e may at =
    ap (λ (b : Bool). if b then option_and_then (spelled_by (spelled_within levels may_open entries) entries k) (slice_get entries k) else None) may
    ∙ ap (option_and_then (spelled_by (spelled_within levels may_open entries) entries k)) at
