-- Entries are read from left to right: each begins behind those before it.
use Rattle.std.proofs.Common.{◌≡◌, ℕ, zero, suc, ◌+◌, ◌-◌, ◌<◌, ◌≤◌, Bool, List, [], ◌∷◌, ◌++◌, length, get_or, Option, Ok, refl, ap, subst, inl, inr, arith}
use Rattle.std.specs.Prelude.{is_none, nat_lt, not, ◌||◌, false, true}
use Rattle.std.proofs.lemmas.Bool.{cases_lt, ltb-false}
use Rattle.std.proofs.lemmas.List.{length-append, get_or_append_left, get_or-append_right}
use Rattle.std.proofs.lemmas.List.Quantifiers.{all_pairs_push}
use Rattle.ds_base.specs.Spot.{Spot}
use Rattle.dwarf_types.specs.declared.abbrev.Abbrev.{Abbrev}
use Rattle.dwarf_types.specs.declared.entry.RawEntry.{RawEntry}
use Rattle.dwarf_types.specs.declared.entry.InUnit.{InUnit}
use Rattle.dwarf_types.specs.SectionBytes.{SectionBytes}
use Rattle.unit_tree.specs.declared.attribute.UnitContext.{UnitContext}
use Rattle.unit_tree.specs.declared.profile.Profile.{Profile}
use Rattle.unit_tree.specs.declared.header.Header.{Header}
use Rattle.unit_tree.specs.Entry.{Parsed, entry_at, root_at, Walk, child_at, children_at, tree_at}
use Rattle.unit_tree.specs.Header.{info_at, behind_length, header_at}
use Rattle.ds_base.specs.DwarfNumbers.{LENGTH_RESERVED}
use Rattle.unit_tree.specs.Reference.{IsRising}
use Rattle.unit_tree.specs.Unit.{nothing, parsed_by, unit_at, units_at}
use Rattle.ds_base.proofs.Onward.{Onward, Further, stays, onward_then, further_then, end_kept, place_rises, number_fits, number_onward, uleb_further}
use Rattle.unit_tree.proofs.Onward.{attrs_onward}
use Rattle.unit_tree.proofs.Steps.{entry_steps, root_steps, listed_steps, child_steps, children_end, children_steps, tree_steps, FieldsSteps, header_steps, unit_steps, some_left, units_steps}

-- entries in order, all of which begin below a place
pub record RisesBelow (entries : List RawEntry) (place : ℕ) : Type 0 where
  pub rising : IsRising entries
  pub below : (i : ℕ) (d : RawEntry) → i < length entries → (get_or entries i d).place < place

higher : (entries : List RawEntry) (p q : ℕ) → p ≤ q → RisesBelow entries p → RisesBelow entries q
higher entries p q le h = record { rising = h.rising; below = λ i d lt. omega (arith, h.below i d lt) }

pushed_below : (entries : List RawEntry) (e : RawEntry) (place : ℕ) → ((i : ℕ) (d : RawEntry) → i < length entries → (get_or entries i d).place < place) → e.place < place
    → (i : ℕ) (d : RawEntry) → i < length (entries ++ e ∷ []) → (get_or (entries ++ e ∷ []) i d).place < place
pushed_below entries e place below lt i d within =
    elim (cases_lt i (length entries)) [
      | inl before ↦ rw (get_or_append_left entries (e ∷ []) d i before) (below i d before)
      | inr le ↦
          let last : i - length entries ≡ 0 = omega (arith, length-append entries (e ∷ [])) in
          rw (get_or-append_right entries (e ∷ []) (length entries) i d refl le, last) lt
    ]

pushed : (entries : List RawEntry) (e : RawEntry) (p q : ℕ) → RisesBelow entries p → p ≤ e.place → e.place < q → RisesBelow (entries ++ e ∷ []) q
pushed entries e p q h le lt =
    record {
      rising = all_pairs_push (λ (a b : RawEntry). a.place < b.place) entries e h.rising (λ k d within. omega (arith, h.below k d within, le));
      below = pushed_below entries e q (λ i d within. omega (arith, h.below i d within, le, lt)) lt;
    }

-- ---- entries

pub entry_onward : (sections : SectionBytes) (context : UnitContext) (parent : Option ℕ) (place : ℕ) (declared : Abbrev) (before : Parsed) (s : Spot) (y : Parsed × Spot) → entry_at sections context parent place declared before s ≡ Ok y → Onward s y.1
entry_onward sections context parent place declared before s y e =
    let w = entry_steps sections context parent place declared before s y e in
    subst (λ (p : Parsed × Spot). Onward s p.1) w.is (attrs_onward sections context (is_none parent) declared.fields ([], before.references) s w.read w.attrs)

entry_rises : (sections : SectionBytes) (context : UnitContext) (parent : Option ℕ) (place : ℕ) (declared : Abbrev) (before : Parsed) (s : Spot) (y : Parsed × Spot) → entry_at sections context parent place declared before s ≡ Ok y
    → RisesBelow before.entries place → place < s.place → RisesBelow y.0.entries y.1.place
entry_rises sections context parent place declared before s y e h lt =
    let w = entry_steps sections context parent place declared before s y e in
    let o = attrs_onward sections context (is_none parent) declared.fields ([], before.references) s w.read w.attrs in
    subst (λ (p : Parsed × Spot). RisesBelow p.0.entries p.1.place) w.is (pushed before.entries _ place w.read.1.place h (omega arith) (omega (arith, place_rises s w.read.1 o)))

-- onward from a spot, and the entries so far begin below the next one
pub record Reaches (s : Spot) (entries : List RawEntry) (t : Spot) : Type 0 where
  pub further : Further s t
  pub rises : RisesBelow entries t.place

root_reaches : (start : Spot) (sections : SectionBytes) (context : UnitContext) (table : List Abbrev) (before : Parsed) (s : Spot) (y : (Bool × Parsed) × Spot) → root_at start sections context table before s ≡ Ok y
    → RisesBelow before.entries s.place → Reaches s y.0.1.entries y.1
root_reaches start sections context table before s y e h =
    let w = root_steps start sections context table before s y e in
    let f = uleb_further s w.code w.coded in
    let o = entry_onward sections context _ s.place w.declared before w.code.1 w.read w.entry in
    let r = entry_rises sections context _ s.place w.declared before w.code.1 w.read w.entry h f.some in
    subst (λ (p : (Bool × Parsed) × Spot). Reaches s p.0.1.entries p.1) w.is (record { further = further_then s w.code.1 w.read.1 f o; rises = r })

pub child_further : (sections : SectionBytes) (context : UnitContext) (table : List Abbrev) (walk : Walk) (s : Spot) (y : Walk × Spot) → child_at sections context table walk s ≡ Ok y → Further s y.1
child_further sections context table walk s y e =
    elim (child_steps sections context table walk s y e) [
      | inl w ↦ subst (λ (p : Walk × Spot). Further s p.1) w.is (uleb_further s w.code w.coded)
      | inr w ↦
          let l = listed_steps sections context w.declared walk s w.code.1 y w.listed in
          let o = entry_onward sections context _ s.place w.declared walk.0 w.code.1 l.read l.entry in
          subst (λ (p : Walk × Spot). Further s p.1) l.is (further_then s w.code.1 l.read.1 (uleb_further s w.code w.coded) o)
    ]

child_rises : (sections : SectionBytes) (context : UnitContext) (table : List Abbrev) (walk : Walk) (s : Spot) (y : Walk × Spot) → child_at sections context table walk s ≡ Ok y → RisesBelow walk.0.entries s.place → RisesBelow y.0.0.entries y.1.place
child_rises sections context table walk s y e h =
    elim (child_steps sections context table walk s y e) [
      | inl w ↦
          let f = uleb_further s w.code w.coded in
          subst (λ (p : Walk × Spot). RisesBelow p.0.0.entries p.1.place) w.is (higher walk.0.entries s.place w.code.1.place (omega (arith, f.some)) h)
      | inr w ↦
          let f = uleb_further s w.code w.coded in
          let l = listed_steps sections context w.declared walk s w.code.1 y w.listed in
          subst (λ (p : Walk × Spot). RisesBelow p.0.0.entries p.1.place) l.is (entry_rises sections context _ s.place w.declared walk.0 w.code.1 l.read l.entry h f.some)
    ]

-- onward, or no further
record Stretches (s : Spot) (entries : List RawEntry) (t : Spot) : Type 0 where
  onward : Onward s t
  rises : RisesBelow entries t.place

children_reach : (sections : SectionBytes) (context : UnitContext) (table : List Abbrev) (left : ℕ) (walk : Walk) (s : Spot) (y : Parsed × Spot) → children_at sections context table left walk s ≡ Ok y → RisesBelow walk.0.entries s.place
    → Stretches s y.0.entries y.1
children_reach sections context table zero walk s y e h =
    let w = children_end sections context table walk s y e in
    subst (λ (p : Parsed × Spot). Stretches s p.0.entries p.1) w.1 (record { onward = stays s; rises = h })
children_reach sections context table (suc left) walk s y e h =
    elim (children_steps sections context table left walk s y e) [
      | inl w ↦ subst (λ (p : Parsed × Spot). Stretches s p.0.entries p.1) w.1 (record { onward = stays s; rises = h })
      | inr w ↦
          let f = child_further sections context table walk s w.read w.child in
          let r = children_reach sections context table left w.read.0 w.read.1 y w.others (child_rises sections context table walk s w.read w.child h) in
          record { onward = onward_then s w.read.1 y.1 f.onward r.onward; rises = r.rises }
    ]

pub tree_reaches : (start : Spot) (sections : SectionBytes) (context : UnitContext) (table : List Abbrev) (before : Parsed) (s : Spot) (y : Parsed × Spot) → tree_at start sections context table before s ≡ Ok y → RisesBelow before.entries s.place
    → Reaches s y.0.entries y.1
tree_reaches start sections context table before s y e h =
    let w = tree_steps start sections context table before s y e in
    let r = root_reaches start sections context table before s w.root w.first h in
    let c = children_reach sections context table _ _ w.root.1 y w.others r.rises in
    record { further = further_then s w.root.1 y.1 r.further c.onward; rises = c.rises }

-- ---- units

-- behind the header of a unit that begins at a place
pub record Opened (sections : SectionBytes) (place : ℕ) (header : Header) (s : Spot) : Type 0 where
  pub behind : place < s.place
  pub inside : header.end ≤ length sections.info
  pub end : s.end ≡ header.end
  pub before_end : s.place ≤ s.end

pub both_false : (b c : Bool) → (b || c) ≡ false → (b ≡ false) × (c ≡ false)
both_false true c e = absurd cc
both_false false c e = (refl, e)

fields_onward : (sections : SectionBytes) (first : Spot) (version table : ℕ × Spot) → FieldsSteps sections first version table → Onward version.1 table.1
fields_onward sections first version table f =
    elim f [
      | inl four ↦
          let w = four.1 in
          subst (λ (p : ℕ × Spot). Onward version.1 p.1) w.is (onward_then version.1 w.table.1 w.size.1 (number_onward 4 version.1 w.table w.table_is) (number_onward 1 w.table.1 w.size w.size_is))
      | inr five ↦
          let w = five.1 in
          onward_then version.1 w.kind.1 table.1 (number_onward 1 version.1 w.kind w.kind_is) (onward_then w.kind.1 w.size.1 table.1 (number_onward 1 w.kind.1 w.size w.size_is) (number_onward 4 w.size.1 table w.table_is))
    ]

pub header_opens : (sections : SectionBytes) (place : ℕ) (y : Header × Spot) → header_at sections place ≡ Ok y → Opened sections place y.0 y.1
header_opens sections place y e =
    let w = header_steps sections place y e in
    let s : Spot = behind_length sections place w.len.0 in
    let o = onward_then s w.version.1 w.table.1 (number_onward 2 s w.version w.version_is) (fields_onward sections (info_at sections place) w.version w.table w.fields) in
    let end = end_kept s w.table.1 o in
    let rise = place_rises s w.table.1 o in
    let there : w.table.1.place ≡ place + 4 + o.by = ap (λ (x : Spot). x.place) o.is in
    let sound = both_false (not (nat_lt w.len.0 LENGTH_RESERVED)) (nat_lt (length sections.info - (place + 4)) w.len.0) w.sound in
    let four = number_fits 4 (info_at sections place) w.len w.length_is in
    let inside : place + 4 + w.len.0 ≤ length sections.info = omega (arith, four, ltb-false _ _ sound.1) in
    subst (λ (p : Header × Spot). Opened sections place p.0 p.1) w.is (record { behind = omega (arith, rise); inside = inside; end = end; before_end = omega (arith, there, end, o.fits) })

-- a unit takes bytes of the section, and its entries begin inside of it
record UnitReaches (sections : SectionBytes) (place : ℕ) (y : (InUnit × Parsed) × ℕ) : Type 0 where
  some : place < y.1
  inside : y.1 ≤ length sections.info
  rises : RisesBelow y.0.1.entries y.1

unit_reaches : (profile : Profile) (sections : SectionBytes) (number : ℕ) (before : Parsed) (place : ℕ) (y : (InUnit × Parsed) × ℕ) → unit_at profile sections number before place ≡ Ok y → RisesBelow before.entries place → UnitReaches sections place y
unit_reaches profile sections number before place y e h =
    let w = unit_steps profile sections number before place y e in
    let o = header_opens sections place w.header w.header_is in
    let t = tree_reaches _ sections _ w.table before w.header.1 w.tree w.tree_is (higher before.entries place w.header.1.place (omega (arith, o.behind)) h) in
    let go = t.further.onward in
    let there : w.tree.1.place ≡ w.header.1.place + go.by = ap (λ (x : Spot). x.place) go.is in
    subst (UnitReaches sections place) w.is (record {
      some = omega (arith, o.behind, o.end, o.before_end);
      inside = o.inside;
      rises = higher w.tree.0.entries w.tree.1.place w.header.0.end (omega (arith, there, go.fits, o.end, o.before_end)) t.rises;
    })

-- a unit's place rises, whatever is before it
pub record UnitPasses (sections : SectionBytes) (place : ℕ) (y : (InUnit × Parsed) × ℕ) : Type 0 where
  pub some : place < y.1
  pub inside : y.1 ≤ length sections.info

pub unit_passes : (profile : Profile) (sections : SectionBytes) (number : ℕ) (before : Parsed) (place : ℕ) (y : (InUnit × Parsed) × ℕ) → unit_at profile sections number before place ≡ Ok y → UnitPasses sections place y
unit_passes profile sections number before place y e =
    let w = unit_steps profile sections number before place y e in
    let o = header_opens sections place w.header w.header_is in
    subst (UnitPasses sections place) w.is (record { some = omega (arith, o.behind, o.end, o.before_end); inside = o.inside })

units_rise_from : (profile : Profile) (sections : SectionBytes) (left : ℕ) (units : List InUnit) (before : Parsed) (place : ℕ) (y : List InUnit × Parsed) → units_at profile sections left units before place ≡ Ok y → place ≤ length sections.info → RisesBelow before.entries place
    → RisesBelow y.1.entries (length sections.info)
units_rise_from profile sections zero units before place y e le h = absurd (some_left profile sections units before place y e)
units_rise_from profile sections (suc left) units before place y e le h =
    elim (units_steps profile sections left units before place y e) [
      | inl w ↦ subst (λ (p : List InUnit × Parsed). RisesBelow p.1.entries (length sections.info)) w.1 (higher before.entries place (length sections.info) le h)
      | inr w ↦
          let u = unit_reaches profile sections (length units) before place w.read w.unit h in
          units_rise_from profile sections left _ w.read.0.1 w.read.1 y w.others u.inside u.rises
    ]

pub units_rise : (profile : Profile) (sections : SectionBytes) (y : List InUnit × Parsed) → parsed_by profile sections ≡ Ok y → RisesBelow y.1.entries (length sections.info)
units_rise profile sections y e = units_rise_from profile sections (suc (length sections.info)) [] nothing 0 y e (omega arith) (record { rising = λ i j d lt within. absurd (omega (arith, within)); below = λ i d lt. absurd (omega (arith, lt)) })
