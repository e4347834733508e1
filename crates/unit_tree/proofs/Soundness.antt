-- The units and entries that are read follow one another, and each parent stands before its children in the unit.
use Rattle.std.proofs.Common.{◌≡◌, ℕ, zero, suc, ◌+◌, ◌-◌, ◌^◌, ◌<◌, ◌≤◌, ◌==◌, Bool, true, false, List, [], ◌∷◌, ◌++◌, length, take, get_or, Option, Some, None, Ok, refl, sym, ap, subst, ◌∙◌, inl, inr, ◌⊎◌, arith}
use Rattle.std.specs.Prelude.{slice_get}
use Rattle.std.proofs.lemmas.List.{length-append}
use Rattle.std.proofs.lemmas.Option.{slice_get-get_or, slice_get_within}
use Rattle.ds_base.specs.Spot.{Spot}
use Rattle.dwarf_types.specs.declared.abbrev.Abbrev.{Abbrev}
use Rattle.dwarf_types.specs.declared.entry.RawEntry.{RawEntry}
use Rattle.dwarf_types.specs.declared.entry.InUnit.{InUnit}
use Rattle.dwarf_types.specs.SectionBytes.{SectionBytes}
use Rattle.dwarf_types.specs.Sound.{AreUnits, IsParent}
use Rattle.unit_tree.specs.declared.attribute.UnitContext.{UnitContext}
use Rattle.unit_tree.specs.declared.profile.Profile.TheVariants.{Input}
use Rattle.unit_tree.specs.Entry.{Parsed, entry_at, innermost, opened, Walk, child_at, children_at, tree_at}
use Rattle.unit_tree.specs.Sound.{LiesInUnit, AreSound}
use Rattle.unit_tree.specs.Unit.{unit_from, nothing, parsed_of, unit_at, units_at}
use Rattle.unit_tree.proofs.Rising.{units_rise}
use Rattle.unit_tree.proofs.TreeLaws.{has_room}
use Rattle.unit_tree.proofs.Steps.{entry_steps, root_steps, listed_steps, child_steps, children_end, children_steps, tree_steps, unit_steps, some_left, units_steps}

-- ---- places in lists

module _ {A : Type 0} where
  kept_at : (xs ys : List A) (i : ℕ) (x : A) → slice_get xs i ≡ Some x → slice_get (xs ++ ys) i ≡ Some x
  kept_at [] ys i x e = absurd cc
  kept_at (y ∷ xs) ys zero x e = e
  kept_at (y ∷ xs) ys (suc i) x e = kept_at xs ys i x e

  last_at : (xs : List A) (x : A) → slice_get (xs ++ x ∷ []) (length xs) ≡ Some x
  last_at [] x = refl
  last_at (y ∷ xs) x = last_at xs x

  pushed_at : (xs : List A) (x : A) (i : ℕ) (y : A) → slice_get (xs ++ x ∷ []) i ≡ Some y → (slice_get xs i ≡ Some y) ⊎ ((i ≡ length xs) × (x ≡ y))
  pushed_at [] x zero y e = inr (refl, cc)
  pushed_at [] x (suc i) y e = absurd cc
  pushed_at (z ∷ xs) x zero y e = inl e
  pushed_at (z ∷ xs) x (suc i) y e =
      elim (pushed_at xs x i y e) [
        | inl there ↦ inl there
        | inr last ↦ inr (ap suc last.0, last.1)
      ]

  front_at : (n : ℕ) (xs : List A) (i : ℕ) (x : A) → slice_get (take n xs) i ≡ Some x → slice_get xs i ≡ Some x
  front_at zero xs i x e = absurd cc
  front_at (suc n) [] i x e = absurd cc
  front_at (suc n) (y ∷ xs) zero x e = e
  front_at (suc n) (y ∷ xs) (suc i) x e = front_at n xs i x e

-- ---- each step puts entries behind those before

entry_longer : (sections : SectionBytes) (context : UnitContext) (parent : Option ℕ) (place : ℕ) (declared : Abbrev) (before : Parsed) (s : Spot) (y : Parsed × Spot) → entry_at sections context parent place declared before s ≡ Ok y
    → length y.0.entries ≡ length before.entries + 1
entry_longer sections context parent place declared before s y e =
    let w = entry_steps sections context parent place declared before s y e in
    subst (λ (p : Parsed × Spot). length p.0.entries ≡ length before.entries + 1) w.is (length-append before.entries _)

child_longer : (sections : SectionBytes) (context : UnitContext) (table : List Abbrev) (walk : Walk) (s : Spot) (y : Walk × Spot) → child_at sections context table walk s ≡ Ok y → length walk.0.entries ≤ length y.0.0.entries
child_longer sections context table walk s y e =
    elim (child_steps sections context table walk s y e) [
      | inl w ↦ subst (λ (p : Walk × Spot). length walk.0.entries ≤ length p.0.0.entries) w.is (omega arith)
      | inr w ↦
          let l = listed_steps sections context w.declared walk s w.code.1 y w.listed in
          let n = entry_longer sections context (innermost walk.1) s.place w.declared walk.0 w.code.1 l.read l.entry in
          subst (λ (p : Walk × Spot). length walk.0.entries ≤ length p.0.0.entries) l.is (omega (arith, n))
    ]

children_longer : (sections : SectionBytes) (context : UnitContext) (table : List Abbrev) (left : ℕ) (walk : Walk) (s : Spot) (y : Parsed × Spot) → children_at sections context table left walk s ≡ Ok y → length walk.0.entries ≤ length y.0.entries
children_longer sections context table zero walk s y e =
    let w = children_end sections context table walk s y e in
    subst (λ (p : Parsed × Spot). length walk.0.entries ≤ length p.0.entries) w.1 (omega arith)
children_longer sections context table (suc left) walk s y e =
    elim (children_steps sections context table left walk s y e) [
      | inl w ↦ subst (λ (p : Parsed × Spot). length walk.0.entries ≤ length p.0.entries) w.1 (omega arith)
      | inr w ↦
          let n = child_longer sections context table walk s w.read w.child in
          let m = children_longer sections context table left w.read.0 w.read.1 y w.others in
          omega (arith, n, m)
    ]

-- a unit has its root at least
pub tree_longer : (start : Spot) (sections : SectionBytes) (context : UnitContext) (table : List Abbrev) (before : Parsed) (s : Spot) (y : Parsed × Spot) → tree_at start sections context table before s ≡ Ok y → length before.entries < length y.0.entries
tree_longer start sections context table before s y e =
    let w = tree_steps start sections context table before s y e in
    let r = root_steps start sections context table before s w.root w.first in
    let n = entry_longer sections context None s.place r.declared before r.code.1 r.read r.entry in
    let root = subst (λ (p : (Bool × Parsed) × Spot). length before.entries < length p.0.1.entries) r.is (omega (arith, n)) in
    let m = children_longer sections context table _ _ w.root.1 y w.others in
    omega (arith, root, m)

-- ---- the entries of a unit that is read

-- the root, or an entry whose parent is one of the unit
abbrev ParentFrom : ℕ → ℕ → Option ℕ → Type 0
ParentFrom first k None = k ≡ first
ParentFrom first k (Some p) = (first ≤ p) × (p < k)

-- entry k is one of the unit of a number whose first entry is told
record IsOwn (number first k : ℕ) (e : RawEntry) : Type 0 where
  unit : e.unit ≡ number
  from_first : first ≤ k
  parent : ParentFrom first k e.parent

-- entries of the units before, and of the one that is read
record Grows (units : List InUnit) (first : ℕ) (entries : List RawEntry) : Type 0 where
  few : length entries ≤ 2 ^ 24
  behind : first ≤ length entries
  each : (k : ℕ) (e : RawEntry) → slice_get entries k ≡ Some e → LiesInUnit units k e ⊎ IsOwn (length units) first k e

-- the entries of the open lists are of the unit
abbrev AreOpen : ℕ → ℕ → List ℕ → Type 0
AreOpen first count lists = (i p : ℕ) → slice_get lists i ≡ Some p → (first ≤ p) × (p < count)

pushed_grows : (units : List InUnit) (first : ℕ) (entries : List RawEntry) (e : RawEntry) → Grows units first entries → length entries < 2 ^ 24 → e.unit ≡ length units → ParentFrom first (length entries) e.parent → Grows units first (entries ++ e ∷ [])
pushed_grows units first entries e h room unit parent =
    let behind = h.behind in
    record {
      few = omega (arith, room, length-append entries (e ∷ []));
      behind = omega (arith, behind, length-append entries (e ∷ []));
      each = λ k d at. elim (pushed_at entries e k d at) [
        | inl there ↦ h.each k d there
        | inr last ↦ inr (subst (IsOwn (length units) first k) last.1 (record { unit = unit; from_first = omega (arith, behind, last.0); parent = subst (λ (n : ℕ). ParentFrom first n e.parent) (sym last.0) parent }))
      ];
    }

entry_grows : (sections : SectionBytes) (context : UnitContext) (parent : Option ℕ) (place : ℕ) (declared : Abbrev) (before : Parsed) (s : Spot) (y : Parsed × Spot) (units : List InUnit) (first : ℕ) → entry_at sections context parent place declared before s ≡ Ok y
    → context.unit ≡ length units → length before.entries < 2 ^ 24 → Grows units first before.entries → ParentFrom first (length before.entries) parent → Grows units first y.0.entries
entry_grows sections context parent place declared before s y units first e is room h from =
    let w = entry_steps sections context parent place declared before s y e in
    subst (λ (p : Parsed × Spot). Grows units first p.0.entries) w.is (pushed_grows units first before.entries _ h room is from)

inner_some : (lists : List ℕ) → (length lists == 0) ≡ false → (p : ℕ) × (innermost lists ≡ Some p)
inner_some [] e = absurd cc
inner_some (x ∷ xs) e = (get_or (x ∷ xs) (length (x ∷ xs) - 1) x, slice_get-get_or (x ∷ xs) (length (x ∷ xs) - 1) x (omega arith))

opened_open : (children : Bool) (first number count : ℕ) (lists : List ℕ) → first ≤ number → number < count → AreOpen first number lists → AreOpen first count (opened children number lists)
opened_open true first number count lists le lt h i p e =
    elim (pushed_at lists number i p e) [
      | inl there ↦ let b = h i p there in (b.0, omega (arith, b.1))
      | inr last ↦ (omega (arith, last.1), omega (arith, last.1))
    ]
opened_open false first number count lists le lt h i p e = let b = h i p e in (b.0, omega (arith, b.1))

-- what was read and the open lists
record Walks (units : List InUnit) (first : ℕ) (walk : Walk) : Type 0 where
  grows : Grows units first walk.0.entries
  open_lists : AreOpen first (length walk.0.entries) walk.1

child_walks : (sections : SectionBytes) (context : UnitContext) (table : List Abbrev) (walk : Walk) (s : Spot) (y : Walk × Spot) (units : List InUnit) (first : ℕ) → child_at sections context table walk s ≡ Ok y → context.unit ≡ length units → (length walk.1 == 0) ≡ false
    → Walks units first walk → Walks units first y.0
child_walks sections context table walk s y units first e is some h =
    elim (child_steps sections context table walk s y e) [
      | inl w ↦ subst (λ (p : Walk × Spot). Walks units first p.0) w.is (record { grows = h.grows; open_lists = λ i p at. h.open_lists i p (front_at (length walk.1 - 1) walk.1 i p at) })
      | inr w ↦
          let l = listed_steps sections context w.declared walk s w.code.1 y w.listed in
          let p = inner_some walk.1 some in
          let within = h.open_lists (length walk.1 - 1) p.0 p.1 in
          let parent : ParentFrom first (length walk.0.entries) (innermost walk.1) = subst (ParentFrom first (length walk.0.entries)) (sym p.1) within in
          let g = entry_grows sections context (innermost walk.1) s.place w.declared walk.0 w.code.1 l.read units first l.entry is (has_room walk.0 l.room) h.grows parent in
          let n = entry_longer sections context (innermost walk.1) s.place w.declared walk.0 w.code.1 l.read l.entry in
          let behind = h.grows in
          subst (λ (q : Walk × Spot). Walks units first q.0) l.is (record {
            grows = g;
            open_lists = opened_open w.declared.children first (length walk.0.entries) (length l.read.0.entries) walk.1 behind.behind (omega (arith, n)) h.open_lists;
          })
    ]

children_grow : (sections : SectionBytes) (context : UnitContext) (table : List Abbrev) (left : ℕ) (walk : Walk) (s : Spot) (y : Parsed × Spot) (units : List InUnit) (first : ℕ) → children_at sections context table left walk s ≡ Ok y → context.unit ≡ length units
    → Walks units first walk → Grows units first y.0.entries
children_grow sections context table zero walk s y units first e is h =
    let w = children_end sections context table walk s y e in
    subst (λ (p : Parsed × Spot). Grows units first p.0.entries) w.1 h.grows
children_grow sections context table (suc left) walk s y units first e is h =
    elim (children_steps sections context table left walk s y e) [
      | inl w ↦ subst (λ (p : Parsed × Spot). Grows units first p.0.entries) w.1 h.grows
      | inr w ↦ children_grow sections context table left w.read.0 w.read.1 y units first w.others is (child_walks sections context table walk s w.read units first w.child is w.still_open h)
    ]

-- ---- units

units_pushed : (at : ℕ) (units : List InUnit) (u : InUnit) (end : ℕ) → AreUnits at units u.first → 0 < u.count → u.first + u.count ≡ end → AreUnits at (units ++ u ∷ []) end
units_pushed at [] u end h some last = (sym h, some, ap (λ (n : ℕ). n + u.count) h ∙ last)
units_pushed at (x ∷ units) u end h some last = (h.0, h.1, units_pushed (at + x.count) units u end h.2 some last)

record Reads (units : List InUnit) (entries : List RawEntry) : Type 0 where
  few : length entries ≤ 2 ^ 24
  follow : AreUnits 0 units (length entries)
  each : (k : ℕ) (e : RawEntry) → slice_get entries k ≡ Some e → LiesInUnit units k e

-- what was a unit's own lies in it, once it is there
own_lies : (units : List InUnit) (first count k : ℕ) (e : RawEntry) (u : InUnit) → u.first ≡ first → u.first + u.count ≡ count → k < count → IsOwn (length units) first k e → LiesInUnit (units ++ u ∷ []) k e
own_lies units first count k e u begins ends lt own =
    let le = own.from_first in
    record {
      unit = u;
      its_unit = ap (slice_get (units ++ u ∷ [])) own.unit ∙ last_at units u;
      lies = record { from_first = omega (arith, begins, le); before_end = omega (arith, ends, lt) };
      parent = parent_of e.parent own.parent;
    }
  where
    parent_of : (o : Option ℕ) → ParentFrom first k o → IsParent u k o
    parent_of None is = is ∙ sym begins
    parent_of (Some p) within = let b = within.0 in (omega (arith, begins, b), within.1)

still_lies : (units : List InUnit) (k : ℕ) (e : RawEntry) (u : InUnit) → LiesInUnit units k e → LiesInUnit (units ++ u ∷ []) k e
still_lies units k e u h = record { unit = h.unit; its_unit = kept_at units (u ∷ []) e.unit h.unit h.its_unit; lies = h.lies; parent = h.parent }

tree_grows : (start : Spot) (sections : SectionBytes) (context : UnitContext) (table : List Abbrev) (before : Parsed) (s : Spot) (y : Parsed × Spot) (units : List InUnit) → tree_at start sections context table before s ≡ Ok y → context.unit ≡ length units
    → Reads units before.entries → Grows units (length before.entries) y.0.entries
tree_grows start sections context table before s y units e is h =
    let w = tree_steps start sections context table before s y e in
    let r = root_steps start sections context table before s w.root w.first in
    let g = entry_grows sections context None s.place r.declared before r.code.1 r.read units (length before.entries) r.entry is (has_room before r.room) (record { few = h.few; behind = omega arith; each = λ k d at. inl (h.each k d at) }) refl in
    let n = entry_longer sections context None s.place r.declared before r.code.1 r.read r.entry in
    let walks : Walks units (length before.entries) (r.read.0, opened r.declared.children (length before.entries) []) =
    record { grows = g; open_lists = opened_open r.declared.children (length before.entries) (length before.entries) (length r.read.0.entries) [] (omega arith) (omega (arith, n)) (λ i p at. absurd cc) } in
    let root : (Bool × Parsed) × Spot → Type 0 = λ p. Walks units (length before.entries) (p.0.1, opened p.0.0 (length before.entries) []) in
    children_grow sections context table _ _ w.root.1 y units (length before.entries) w.others is (subst root r.is walks)

unit_reads : (sections : SectionBytes) (units : List InUnit) (before : Parsed) (place : ℕ) (y : (InUnit × Parsed) × ℕ) → unit_at Input sections (length units) before place ≡ Ok y → Reads units before.entries → Reads (units ++ y.0.0 ∷ []) y.0.1.entries
unit_reads sections units before place y e h =
    let w = unit_steps Input sections (length units) before place y e in
    let g = tree_grows _ sections _ w.table before w.header.1 w.tree units w.tree_is refl h in
    let n = tree_longer _ sections _ w.table before w.header.1 w.tree w.tree_is in
    let u : InUnit = unit_from w.header.0.version (length before.entries) w.tree.0.entries in
    let ends : u.first + u.count ≡ length w.tree.0.entries = omega (arith, n) in
    subst (λ (p : (InUnit × Parsed) × ℕ). Reads (units ++ p.0.0 ∷ []) p.0.1.entries) w.is (record {
      few = g.few;
      follow = units_pushed 0 units u (length w.tree.0.entries) h.follow (omega (arith, n)) ends;
      each = λ k d at. elim (g.each k d at) [
        | inl there ↦ still_lies units k d u there
        | inr own ↦ own_lies units (length before.entries) (length w.tree.0.entries) k d u refl ends (slice_get_within w.tree.0.entries k d at) own
      ];
    })

units_read : (sections : SectionBytes) (left : ℕ) (units : List InUnit) (before : Parsed) (place : ℕ) (y : List InUnit × Parsed) → units_at Input sections left units before place ≡ Ok y → Reads units before.entries → Reads y.0 y.1.entries
units_read sections zero units before place y e h = absurd (some_left Input sections units before place y e)
units_read sections (suc left) units before place y e h =
    elim (units_steps Input sections left units before place y e) [
      | inl w ↦ subst (λ (p : List InUnit × Parsed). Reads p.0 p.1.entries) w.1 h
      | inr w ↦ units_read sections left _ w.read.0.1 w.read.1 y w.others (unit_reads sections units before place w.read w.unit h)
    ]

pub units_sound : (sections : SectionBytes) (units : List InUnit) (parsed : Parsed) → parsed_of sections ≡ Ok (units, parsed) → AreSound (record { units = units; entries = parsed.entries })
units_sound sections units parsed e =
    let r = units_read sections (suc (length sections.info)) [] nothing 0 (units, parsed) e (record { few = omega arith; follow = refl; each = λ k d at. absurd cc }) in
    let rises = units_rise Input sections (units, parsed) e in
    record { few = r.few; units = r.follow; entries = r.each; rising = rises.rising }
