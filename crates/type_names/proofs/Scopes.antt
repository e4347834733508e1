-- The entries above an entry, from the innermost up.
use Rattle.std.proofs.Common.{◌≡◌, ℕ, ◌<◌, ◌≤◌, ◌+◌, List, [], ◌∷◌, ◌++◌, length, map, drop, reverse, Option, Some, None, true, false, is_some, slice_get, refl, sym, ap, ◌∙◌, arith, append_assoc, subst, Err}
use Rattle.std.specs.Prelude.{codes}
use Rattle.std.specs.List.{All, filter_map}
use Rattle.std.specs.Option.{ForSome, option_and_then, option_map_or}
use Rattle.std.proofs.lemmas.List.{drop-append-le, get_or_append_left, reverse-append, length-append, length_push}
use Rattle.std.proofs.lemmas.Bool.{lt-leb}
use Rattle.std.proofs.lemmas.List.Elements.{All-push, filter_map-append}
use Rattle.std.proofs.lemmas.Option.{none-some, same_Some, slice_get_within}
use Rattle.dwarf_types.specs.declared.entry.Entry.{Entry}
use Rattle.dwarf_types.specs.Tree.{ParentsStandBefore}
use Rattle.type_names.specs.Entries.{Text}
use Rattle.type_names.specs.declared.spell.SpellError.{SpellError}
use Rattle.type_names.specs.declared.spell.SpellError.TheVariants as errors
use Rattle.type_names.specs.Onto.{Writes, onto}
use Rattle.type_names.specs.Spell.{◌&◌, all_of, scope_name}
use Rattle.type_names.specs.Tree.{below_unit, lineage, parent_of}
use Rattle.type_names.proofs.Lineages.{lineage_below, lineage_top, parent_before}
use Rattle.type_names.proofs.Texts.{onto_joined, stopped}

-- the entries from this one up, below the unit
abbrev pub from_up : List Entry → Option ℕ → List ℕ
from_up entries o = option_map_or (below_unit entries) o []

pub unit_is_last : (entries : List Entry) (a : ℕ) → parent_of entries a ≡ None → from_up entries (Some a) ≡ []
unit_is_last entries a top = ap (drop 1) (lineage_top entries a top)

some_lineage : (entries : List Entry) (p : ℕ) → ParentsStandBefore entries → 1 ≤ length (lineage entries p)
some_lineage entries p before = go (parent_of entries p) refl where
  go : (o : Option ℕ) → parent_of entries p ≡ o → 1 ≤ length (lineage entries p)
  go None top = rw (lineage_top entries p top) (omega arith)
  go (Some q) below = rw (lineage_below entries p q before below) (omega (arith, length-append (lineage entries q) (p ∷ [])))

pub one_up : (entries : List Entry) (a p : ℕ) → ParentsStandBefore entries → parent_of entries a ≡ Some p → from_up entries (Some a) ≡ from_up entries (Some p) ++ a ∷ []
one_up entries a p before below = ap (drop 1) (lineage_below entries a p before below) ∙ drop-append-le 1 (lineage entries p) (a ∷ []) (some_lineage entries p before)

-- the walk up has pushed the entries from the innermost on, and this one is left
pub record IsWalked (entries : List Entry) (left : Option ℕ) (scopes whole : List ℕ) : Type 0 where
  pub all : from_up entries left ++ reverse scopes ≡ whole
  pub within : All (λ a. a < length entries) scopes
  pub inside : ForSome left (λ a. a < length entries)
  pub there : length (filter_map (slice_get entries) (reverse scopes)) ≡ length scopes

-- the walk: what is left above, and what was pushed, make the whole
pub pushed_more : (entries : List Entry) (a p : ℕ) (scopes whole : List ℕ) → ParentsStandBefore entries → parent_of entries a ≡ Some p
    → from_up entries (Some a) ++ reverse scopes ≡ whole → from_up entries (Some p) ++ reverse (scopes ++ a ∷ []) ≡ whole
pushed_more entries a p scopes whole before below so_far =
    ap (λ (xs : List ℕ). from_up entries (Some p) ++ xs) (reverse-append scopes (a ∷ []))
    ∙ sym (append_assoc (from_up entries (Some p)) (a ∷ []) (reverse scopes))
    ∙ ap (λ (xs : List ℕ). xs ++ reverse scopes) (sym (one_up entries a p before below)) ∙ so_far

pub pushed_last : (entries : List Entry) (a : ℕ) (scopes whole : List ℕ) → parent_of entries a ≡ None → from_up entries (Some a) ++ reverse scopes ≡ whole → from_up entries None ++ reverse scopes ≡ whole
pushed_last entries a scopes whole top so_far = ap (λ (xs : List ℕ). xs ++ reverse scopes) (sym (unit_is_last entries a top)) ∙ so_far

pub parent_within : (entries : List Entry) (a p : ℕ) → parent_of entries a ≡ Some p → a < length entries
parent_within entries a p is = go (slice_get entries a) refl is where
  go : (o : Option Entry) → slice_get entries a ≡ o → option_and_then (λ (e : Entry). e.parent) o ≡ Some p → a < length entries
  go None at t = absurd (none-some p t)
  go (Some e) at t = slice_get_within entries a e at

-- an entry with a parent is there
one_there : (entries : List Entry) (a p : ℕ) (numbers : List ℕ) → parent_of entries a ≡ Some p → length (filter_map (slice_get entries) (a ∷ numbers)) ≡ length (filter_map (slice_get entries) numbers) + 1
one_there entries a p numbers up = go (slice_get entries a) refl up where
  go : (o : Option Entry) → slice_get entries a ≡ o → option_and_then (λ (e : Entry). e.parent) o ≡ Some p → length (filter_map (slice_get entries) (a ∷ numbers)) ≡ length (filter_map (slice_get entries) numbers) + 1
  go None at t = absurd (none-some p t)
  go (Some e) at t = rw at (omega arith)

pub walked_on : (entries : List Entry) (left : Option ℕ) (a : ℕ) (o : Option ℕ) (scopes whole : List ℕ) → ParentsStandBefore entries → left ≡ Some a → parent_of entries a ≡ o → is_some o ≡ true
    → IsWalked entries left scopes whole → IsWalked entries o (scopes ++ a ∷ []) whole
walked_on entries left a None scopes whole before is up some so_far = absurd (cc)
walked_on entries left a (Some p) scopes whole before is up some so_far = record {
  all = pushed_more entries a p scopes whole before up (ap (λ (o : Option ℕ). from_up entries o ++ reverse scopes) (sym is) ∙ so_far.all);
  within = All-push (λ a. a < length entries) scopes a so_far.within (parent_within entries a p up);
  inside = λ q same. omega (arith, parent_within entries a p up, parent_before entries a p before up, same_Some p q same);
  there = ap (λ (numbers : List ℕ). length (filter_map (slice_get entries) numbers)) (reverse-append scopes (a ∷ [])) ∙ one_there entries a p (reverse scopes) up ∙ ap (λ (n : ℕ). n + 1) so_far.there ∙ sym (length_push scopes a);
}

pub walked_out : (entries : List Entry) (left : Option ℕ) (a : ℕ) (o : Option ℕ) (scopes whole : List ℕ) → left ≡ Some a → parent_of entries a ≡ o → is_some o ≡ false
    → IsWalked entries left scopes whole → IsWalked entries o scopes whole
walked_out entries left a (Some p) scopes whole is up none so_far = absurd (cc)
walked_out entries left a None scopes whole is up none so_far = record {
  all = pushed_last entries a scopes whole up (ap (λ (o : Option ℕ). from_up entries o ++ reverse scopes) (sym is) ∙ so_far.all);
  within = so_far.within;
  inside = λ q same. absurd (none-some q same);
  there = so_far.there;
}

-- ---- their names

abbrev pub scopes_of : List Entry → List ℕ → Option Text
scopes_of entries numbers = all_of (map (λ (a : Entry). scope_name a & Some (codes "::")) (filter_map (slice_get entries) numbers))

-- those that are left make the whole
pub record IsPopped (entries : List Entry) (scopes out : List ℕ) (whole : Option (List ℕ)) : Type 0 where
  pub all : onto out (scopes_of entries (reverse scopes)) ≡ whole
  pub within : All (λ a. a < length entries) scopes

-- the last that was pushed is the outermost
pub scopes_popped : (entries : List Entry) (scopes : List ℕ) (a : ℕ) (e : Entry) → slice_get entries a ≡ Some e → scopes_of entries (reverse (scopes ++ a ∷ [])) ≡ (scope_name e & Some (codes "::")) & scopes_of entries (reverse scopes)
scopes_popped entries scopes a e at = ap (scopes_of entries) (reverse-append scopes (a ∷ [])) ∙ first where
  first : scopes_of entries (a ∷ reverse scopes) ≡ (scope_name e & Some (codes "::")) & scopes_of entries (reverse scopes)
  first = rw at refl

pub scope_written : (entries : List Entry) (was scopes : List ℕ) (a : ℕ) (e : Entry) (out new : List ℕ) (whole : Option (List ℕ)) → was ≡ scopes ++ a ∷ [] → slice_get entries a ≡ Some e → onto out (scope_name e & Some (codes "::")) ≡ Some new
    → onto out (scopes_of entries (reverse was)) ≡ whole → onto new (scopes_of entries (reverse scopes)) ≡ whole
scope_written entries was scopes a e out new whole is at written so_far =
    let one : Option Text = scope_name e & Some (codes "::") in
    let split = ap (λ (xs : List ℕ). scopes_of entries (reverse xs)) is ∙ scopes_popped entries scopes a e at in
    sym (onto_joined out one (scopes_of entries (reverse scopes)) ∙ ap (option_and_then (λ more. onto more (scopes_of entries (reverse scopes)))) written) ∙ sym (ap (onto out) split) ∙ so_far

pub all_before : (P : ℕ → Type 0) (xs : List ℕ) (x : ℕ) → All P (xs ++ x ∷ []) → All P xs
all_before P xs x all = λ i d lt. subst P (get_or_append_left xs (x ∷ []) d i lt) (all i d (omega (arith, length-append xs (x ∷ []))))

pub popped_more : (entries : List Entry) (was scopes : List ℕ) (a : ℕ) (e : Entry) (out new : List ℕ) (whole : Option (List ℕ)) → was ≡ scopes ++ a ∷ [] → slice_get entries a ≡ Some e → onto out (scope_name e & Some (codes "::")) ≡ Some new
    → IsPopped entries was out whole → IsPopped entries scopes new whole
popped_more entries was scopes a e out new whole is at written so_far = record {
  all = scope_written entries was scopes a e out new whole is at written so_far.all;
  within = all_before (λ a. a < length entries) scopes a (subst (All (λ a. a < length entries)) is so_far.within);
}

pub popped_stops : (entries : List Entry) (was scopes : List ℕ) (a : ℕ) (e : Entry) (out new : List ℕ) (whole : Option (List ℕ)) (error : SpellError) → was ≡ scopes ++ a ∷ [] → slice_get entries a ≡ Some e
    → IsPopped entries was out whole → Writes {A = Unit {0}} (Err error) new (onto out (scope_name e & Some (codes "::"))) → Writes {A = Unit {0}} (Err error) new whole
popped_stops entries was scopes a e out new whole error is at so_far stop =
    let split = ap (λ (xs : List ℕ). scopes_of entries (reverse xs)) is ∙ scopes_popped entries scopes a e at in
    subst (Writes {A = Unit {0}} (Err error) new) (sym (ap (onto out) split) ∙ so_far.all) (stopped out new new (scope_name e & Some (codes "::")) (scopes_of entries (reverse scopes)) error stop)

-- ---- more of them than can be named

-- each has two bytes at least
two_each : (es : List Entry) (text : Text) → all_of (map (λ (a : Entry). scope_name a & Some (codes "::")) es) ≡ Some text → length es + length es ≤ length text
two_each [] text is = omega arith
two_each (e ∷ es) text is = go (scope_name e) (all_of (map (λ (a : Entry). scope_name a & Some (codes "::")) es)) is (two_each es) where
  go : (name rest : Option Text) → (name & Some (codes "::")) & rest ≡ Some text → ((more : Text) → rest ≡ Some more → length es + length es ≤ length more) → length (e ∷ es) + length (e ∷ es) ≤ length text
  go None rest told so_far = absurd (none-some text told)
  go (Some name) None told so_far = absurd (none-some text told)
  go (Some name) (Some more) told so_far = (
      let parts : (name ++ codes "::") ++ more ≡ text = same_Some ((name ++ codes "::") ++ more) text told in
      omega (arith, so_far more refl, ap length parts, length-append (name ++ codes "::") more, length-append name (codes "::")))

too_many : (es : List Entry) (out : List ℕ) → 2048 < length es → onto out (all_of (map (λ (a : Entry). scope_name a & Some (codes "::")) es)) ≡ None
unfolding onto
too_many es out many = go (all_of (map (λ (a : Entry). scope_name a & Some (codes "::")) es)) refl where
  go : (o : Option Text) → all_of (map (λ (a : Entry). scope_name a & Some (codes "::")) es) ≡ o → onto out o ≡ None
  go None is = refl
  go (Some text) is = rw (lt-leb (length (out ++ text)) 4096 (omega (arith, length-append out text, two_each es text is, many))) refl

-- where so many are passed, their names can't be written
pub too_deep : (entries : List Entry) (left : Option ℕ) (scopes whole out : List ℕ) → IsWalked entries left scopes whole → 2048 < length scopes → onto out (scopes_of entries whole) ≡ None
too_deep entries left scopes whole out walked many =
    let all : filter_map (slice_get entries) whole ≡ filter_map (slice_get entries) (from_up entries left) ++ filter_map (slice_get entries) (reverse scopes) =
    ap (filter_map (slice_get entries)) (sym walked.all) ∙ filter_map-append (slice_get entries) (from_up entries left) (reverse scopes) in
    too_many (filter_map (slice_get entries) whole) out (omega (arith, ap length all, length-append (filter_map (slice_get entries) (from_up entries left)) (filter_map (slice_get entries) (reverse scopes)), walked.there, many))

-- it stops where its text can't be written
pub cannot_stops : (new : List ℕ) (told : Option (List ℕ)) (e : SpellError) → (e ≡ errors.Cannot → told ≡ None) → Writes {A = Unit {0}} (Err e) new told
cannot_stops new told errors.Cannot none = none refl
cannot_stops new told errors.NoMemory none = tt
