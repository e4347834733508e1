-- What is read of a unit alone is read of it behind others, as long as there are not too many entries.
use Rattle.std.proofs.Common.{◌≡◌, ℕ, zero, suc, ◌+◌, ◌-◌, ◌^◌, ◌<◌, ◌≤◌, ◌==◌, ◌&&◌, Bool, true, false, not, List, [], ◌∷◌, ◌++◌, length, map, take, Option, Some, None, Result, Ok, Err, refl, sym, ap, ap₂, subst, ◌∙◌, append_assoc, inl, inr, arith}
use Rattle.std.specs.Prelude.{is_none, nat_lt, slice_get, if◌then◌else◌}
use Rattle.std.specs.List.{list_all}
use Rattle.std.specs.Option.{option_map, option_map_or, option_to_list}
use Rattle.std.proofs.lemmas.Bool.{lt-ltb, ltb-true, not-false}
use Rattle.std.proofs.lemmas.List.{append-nil, length-append, length-map, map-append, take-map}
use Rattle.std.proofs.lemmas.Option.{slice_get-map}
use Rattle.ds_base.specs.declared.fault.Fault.{Fault}
use Rattle.ds_base.specs.declared.fault.Kind.TheVariants.{UnclosedSiblings}
use Rattle.ds_base.specs.Spot.{Spot, fault_at}
use Rattle.ds_base.specs.Reading.{◌>>=◌}
use Rattle.ds_base.proofs.Passing.{bind_ok, ok_is}
use Rattle.dwarf_types.specs.declared.abbrev.Abbrev.{Abbrev}
use Rattle.dwarf_types.specs.declared.abbrev.Field.{Field}
use Rattle.dwarf_types.specs.declared.entry.InUnit.{InUnit}
use Rattle.dwarf_types.specs.declared.entry.RawEntry.{RawEntry}
use Rattle.dwarf_types.specs.SectionBytes.{SectionBytes}
use Rattle.index_tables.specs.declared.bases.Bases.{Bases}
use Rattle.unit_tree.specs.declared.attribute.UnitContext.{UnitContext}
use Rattle.unit_tree.specs.declared.profile.Profile.{Profile}
use Rattle.unit_tree.specs.declared.reference.Reference.{Reference}
use Rattle.unit_tree.specs.Alone.{behind, raised, unit_behind_others}
use Rattle.unit_tree.specs.Attribute.{Described, attr_at, attrs_at}
use Rattle.unit_tree.specs.Entry.{Parsed, Walk, bases_at, child_at, children_at, closed, entry_at, first_at, innermost, is_full, listed_at, opened, root_at, tree_at, with_entry}
use Rattle.unit_tree.specs.Header.{info_at}
use Rattle.unit_tree.specs.Unit.{context_in, language_of, nothing, unit_at, unit_from, zeros_at}
use Rattle.unit_tree.proofs.Steps.{entry_steps, first_steps, root_steps, bases_steps, listed_steps, child_steps, children_end, tree_steps, unit_steps}
use Rattle.unit_tree.proofs.TreeLaws.{room_for}
use Rattle.unit_tree.proofs.Written.{bases_read, child_begins, children_begin, entry_begins, no_others}

-- ---- attributes

-- references before stay in front
attrs_behind : (sections : SectionBytes) (context : UnitContext) (root : Bool) (front : List Reference) (fields : List Field) (before : Described) (s : Spot) (y : Described × Spot) → attrs_at sections context root fields before s ≡ Ok y
    → attrs_at sections context root fields (before.0, front ++ before.1) s ≡ Ok ((y.0.0, front ++ y.0.1), y.1)
unfolding attrs_at
attrs_behind sections context root front [] before s y e = ap (λ (p : Described × Spot). Ok ((p.0.0, front ++ p.0.1), p.1)) (ok_is (before, s) y e)
attrs_behind sections context root front (field ∷ fields) before s y e =
    let b = bind_ok (attr_at sections context root field before.0 s) (λ attr. attrs_at sections context root fields (before.0 ++ attr.0.0 ∷ [], before.1 ++ option_to_list attr.0.1) attr.1) y e in
    let t = attrs_behind sections context root front fields (before.0 ++ b.0.0.0 ∷ [], before.1 ++ option_to_list b.0.0.1) b.0.1 y b.2 in
    rw b.1 (ap (λ (rs : List Reference). attrs_at sections context root fields (before.0 ++ b.0.0.0 ∷ [], rs) b.0.1) (append_assoc front before.1 (option_to_list b.0.0.1)) ∙ t)

-- ---- entries

abbrev up : ℕ → Option ℕ → Option ℕ
up n parent = option_map (λ p. n + p) parent

same_none : (n : ℕ) (parent : Option ℕ) → is_none (up n parent) ≡ is_none parent
same_none n None = refl
same_none n (Some p) = refl

length_behind : (before own : Parsed) → length (behind before own).entries ≡ length before.entries + length own.entries
length_behind before own = omega (arith, length-append before.entries (map (raised (length before.entries)) own.entries), length-map own.entries (raised (length before.entries)))

fits : (before own : Parsed) → length before.entries + length own.entries < 2 ^ 24 → is_full (behind before own) ≡ false
fits before own lt = room_for (behind before own) (omega (arith, lt, length_behind before own))

entry_behind : (sections : SectionBytes) (context : UnitContext) (parent : Option ℕ) (place : ℕ) (declared : Abbrev) (before own : Parsed) (s : Spot) (y : Parsed × Spot) → entry_at sections context parent place declared own s ≡ Ok y
    → entry_at sections context (up (length before.entries) parent) place declared (behind before own) s ≡ Ok (behind before y.0, y.1)
unfolding entry_at
entry_behind sections context parent place declared before own s y e =
    let n : ℕ = length before.entries in
    let w = entry_steps sections context parent place declared own s y e in
    let a = attrs_behind sections context (is_none parent) before.references declared.fields ([], own.references) s w.read w.attrs in
    let entry : RawEntry = record { parent = parent; unit = context.unit; place = place; tag = declared.tag; attrs = w.read.0.0 } in
    let entries : (before.entries ++ map (raised n) own.entries) ++ raised n entry ∷ [] ≡ before.entries ++ map (raised n) (own.entries ++ entry ∷ []) =
    append_assoc before.entries (map (raised n) own.entries) (raised n entry ∷ []) ∙ ap (λ (es : List RawEntry). before.entries ++ es) (sym (map-append (raised n) own.entries (entry ∷ []))) in
    let made : List RawEntry → Result (Parsed × Spot) Fault = λ es. Ok (record { entries = es; references = before.references ++ w.read.0.1 }, w.read.1) in
    rw (same_none n parent, a) (ap made entries ∙ ap (λ (p : Parsed × Spot). Ok (behind before p.0, p.1)) w.is)

-- ---- open lists

abbrev lists_up : ℕ → List ℕ → List ℕ
lists_up n lists = map (λ p. n + p) lists

innermost_up : (n : ℕ) (lists : List ℕ) → innermost (lists_up n lists) ≡ up n (innermost lists)
innermost_up n lists = ap (λ (k : ℕ). slice_get (lists_up n lists) (k - 1)) (length-map lists (λ p. n + p)) ∙ slice_get-map (λ p. n + p) lists (length lists - 1)

closed_up : (n : ℕ) (lists : List ℕ) → closed (lists_up n lists) ≡ lists_up n (closed lists)
closed_up n lists = ap (λ (k : ℕ). take (k - 1) (lists_up n lists)) (length-map lists (λ p. n + p)) ∙ take-map (λ p. n + p) (length lists - 1) lists

opened_up : (n : ℕ) (children : Bool) (number : ℕ) (lists : List ℕ) → opened children (n + number) (lists_up n lists) ≡ lists_up n (opened children number lists)
opened_up n true number lists = sym (map-append (λ p. n + p) lists (number ∷ []))
opened_up n false number lists = refl

abbrev walk_behind : Parsed → Walk → Walk
walk_behind before walk = (behind before walk.0, lists_up (length before.entries) walk.1)

-- an entry more
one_longer : (sections : SectionBytes) (context : UnitContext) (parent : Option ℕ) (place : ℕ) (declared : Abbrev) (own : Parsed) (s : Spot) (y : Parsed × Spot) → entry_at sections context parent place declared own s ≡ Ok y → length y.0.entries ≡ length own.entries + 1
one_longer sections context parent place declared own s y e =
    let w = entry_steps sections context parent place declared own s y e in
    sym (ap (λ (p : Parsed × Spot). length p.0.entries) w.is) ∙ length-append own.entries (record { parent = parent; unit = context.unit; place = place; tag = declared.tag; attrs = w.read.0.0 } ∷ [])

listed_behind : (sections : SectionBytes) (context : UnitContext) (declared : Abbrev) (before : Parsed) (walk : Walk) (first s : Spot) (y : Walk × Spot) → listed_at sections context declared walk first s ≡ Ok y
    → length before.entries + length y.0.0.entries ≤ 2 ^ 24 → listed_at sections context declared (walk_behind before walk) first s ≡ Ok (walk_behind before y.0, y.1)
unfolding listed_at
listed_behind sections context declared before walk first s y e few =
    let n : ℕ = length before.entries in
    let w = listed_steps sections context declared walk first s y e in
    let long = one_longer sections context (innermost walk.1) first.place declared walk.0 s w.read w.entry in
    let same : length w.read.0.entries ≡ length y.0.0.entries = ap (λ (p : Walk × Spot). length p.0.0.entries) w.is in
    let room = fits before walk.0 (omega (arith, few, long, same)) in
    let depth : (declared.children && not (nat_lt (length (lists_up n walk.1)) 1000)) ≡ false = rw (length-map walk.1 (λ p. n + p)) w.depth in
    let entry : entry_at sections context (innermost (lists_up n walk.1)) first.place declared (behind before walk.0) s ≡ Ok (behind before w.read.0, w.read.1) =
    ap (λ (parent : Option ℕ). entry_at sections context parent first.place declared (behind before walk.0) s) (innermost_up n walk.1) ∙ entry_behind sections context (innermost walk.1) first.place declared before walk.0 s w.read w.entry in
    let lists : opened declared.children (length (behind before walk.0).entries) (lists_up n walk.1) ≡ lists_up n (opened declared.children (length walk.0.entries) walk.1) =
    ap (λ (k : ℕ). opened declared.children k (lists_up n walk.1)) (length_behind before walk.0) ∙ opened_up n declared.children (length walk.0.entries) walk.1 in
    let made : List ℕ → Result (Walk × Spot) Fault = λ ls. Ok ((behind before w.read.0, ls), w.read.1) in
    rw (depth, room, entry) (ap made lists ∙ ap (λ (p : Walk × Spot). Ok (walk_behind before p.0, p.1)) w.is)

child_behind : (sections : SectionBytes) (context : UnitContext) (table : List Abbrev) (before : Parsed) (walk : Walk) (s : Spot) (y : Walk × Spot) → child_at sections context table walk s ≡ Ok y
    → length before.entries + length y.0.0.entries ≤ 2 ^ 24 → child_at sections context table (walk_behind before walk) s ≡ Ok (walk_behind before y.0, y.1)
unfolding child_at
child_behind sections context table before walk s y e few =
    elim (child_steps sections context table walk s y e) [
      | inl w ↦
          let made : List ℕ → Result (Walk × Spot) Fault = λ ls. Ok ((behind before walk.0, ls), w.code.1) in
          rw (w.coded, w.zero_is) (ap made (closed_up (length before.entries) walk.1) ∙ ap (λ (p : Walk × Spot). Ok (walk_behind before p.0, p.1)) w.is)
      | inr w ↦ rw (w.coded, w.some, w.found) (listed_behind sections context w.declared before walk s w.code.1 y w.listed few)
    ]

abbrev lifted : Parsed → Parsed × Spot → Parsed × Spot
lifted before x = (behind before x.0, x.1)

-- no list is open, or no byte is left, or a turn goes on as another does
turn_behind : (before : Parsed) (b c : Bool) (x y : Parsed × Spot) (f : Fault) (next then_ : Result (Parsed × Spot) Fault) → (if b then Ok x else if c then Err f else next) ≡ Ok y → (next ≡ Ok y → then_ ≡ Ok (lifted before y))
    → (if b then Ok (lifted before x) else if c then Err f else then_) ≡ Ok (lifted before y)
turn_behind before true c x y f next then_ e more = ap (λ (p : Parsed × Spot). Ok (lifted before p)) (ok_is x y e)
turn_behind before false true x y f next then_ e more = absurd cc
turn_behind before false false x y f next then_ e more = more e

end_behind : (before : Parsed) (b : Bool) (x y : Parsed × Spot) (f : Fault) → (if b then Ok x else Err f) ≡ Ok y → (if b then Ok (lifted before x) else Err f) ≡ Ok (lifted before y)
end_behind before true x y f e = ap (λ (p : Parsed × Spot). Ok (lifted before p)) (ok_is x y e)
end_behind before false x y f e = absurd cc

-- those before are no more than those behind
no_longer : (xs ys : List RawEntry) (n : ℕ) → (more : List RawEntry) × (ys ≡ xs ++ more) → n + length ys ≤ 2 ^ 24 → n + length xs ≤ 2 ^ 24
no_longer xs ys n b few = omega (arith, few, ap length b.1, length-append xs b.0)

children_behind : (sections : SectionBytes) (context : UnitContext) (table : List Abbrev) (before : Parsed) (left : ℕ) (walk : Walk) (s : Spot) (y : Parsed × Spot) → children_at sections context table left walk s ≡ Ok y
    → length before.entries + length y.0.entries ≤ 2 ^ 24 → children_at sections context table left (walk_behind before walk) s ≡ Ok (behind before y.0, y.1)
unfolding children_at
children_behind sections context table before zero walk s y e few = rw (length-map walk.1 (λ p. length before.entries + p)) (end_behind before (length walk.1 == 0) (walk.0, s) y (fault_at s UnclosedSiblings) e)
children_behind sections context table before (suc left) walk s y e few =
    rw (length-map walk.1 (λ p. length before.entries + p)) (
    turn_behind before (length walk.1 == 0) (s.end - s.place == 0) (walk.0, s) y (fault_at s UnclosedSiblings) (child_at sections context table walk s >>= λ read. children_at sections context table left read.0 read.1)
    (child_at sections context table (walk_behind before walk) s >>= λ read. children_at sections context table left read.0 read.1) e
    (λ more.
    let b = bind_ok (child_at sections context table walk s) (λ read. children_at sections context table left read.0 read.1) y more in
    let fewer = no_longer b.0.0.0.entries y.0.entries (length before.entries) (children_begin sections context table left b.0.0 b.0.1 y b.2) few in
    rw (child_behind sections context table before walk s b.0 b.1 fewer) (children_behind sections context table before left b.0.0 b.0.1 y b.2 few))
    )

-- ---- roots and trees

first_behind : (start : Spot) (table : List Abbrev) (before own : Parsed) (s : Spot) (y : Abbrev × Spot) → first_at start table own s ≡ Ok y → length before.entries + length own.entries < 2 ^ 24 → first_at start table (behind before own) s ≡ Ok y
unfolding first_at
first_behind start table before own s y e lt =
    let w = first_steps start table own s y e in
    rw (w.coded, w.some, w.found, w.unit, w.whole, fits before own lt) (ap (λ (p : Abbrev × Spot). Ok p) w.is)

bases_behind : (start : Spot) (sections : SectionBytes) (context : UnitContext) (table : List Abbrev) (before own : Parsed) (s : Spot) (y : Bases) → bases_at start sections context table own s ≡ Ok y → length before.entries + length own.entries < 2 ^ 24
    → bases_at start sections context table (behind before own) s ≡ Ok y
bases_behind start sections context table before own s y e lt =
    let w = bases_steps start sections context table own s y e in
    bases_read start sections context table (behind before own) s w.first w.read (first_behind start table before own s w.first w.first_is lt) w.attrs ∙ ap (λ (b : Bases). Ok b) w.is

abbrev root_up : Parsed → (Bool × Parsed) × Spot → (Bool × Parsed) × Spot
root_up before y = ((y.0.0, behind before y.0.1), y.1)

root_behind : (start : Spot) (sections : SectionBytes) (context : UnitContext) (table : List Abbrev) (before own : Parsed) (s : Spot) (y : (Bool × Parsed) × Spot) → root_at start sections context table own s ≡ Ok y
    → length before.entries + length own.entries < 2 ^ 24 → root_at start sections context table (behind before own) s ≡ Ok (root_up before y)
unfolding root_at
root_behind start sections context table before own s y e lt =
    let w = root_steps start sections context table own s y e in
    let entry = entry_behind sections context None s.place w.declared before own w.code.1 w.read w.entry in
    rw (first_behind start table before own s (w.declared, w.code.1) w.first lt, entry) (ap (λ (p : (Bool × Parsed) × Spot). Ok (root_up before p)) w.is)

-- of entries that there are none of yet
tree_behind : (start : Spot) (sections : SectionBytes) (context : UnitContext) (table : List Abbrev) (before own : Parsed) (s : Spot) (y : Parsed × Spot) → tree_at start sections context table own s ≡ Ok y → length before.entries + length y.0.entries ≤ 2 ^ 24
    → (length before.entries + length own.entries < 2 ^ 24) × (tree_at start sections context table (behind before own) s ≡ Ok (behind before y.0, y.1))
unfolding tree_at
tree_behind start sections context table before own s y e few =
    let n : ℕ = length before.entries in
    let w = tree_steps start sections context table own s y e in
    let r = root_steps start sections context table own s w.root w.first in
    let long = one_longer sections context None s.place r.declared own r.code.1 r.read r.entry in
    let same : length r.read.0.entries ≡ length w.root.0.1.entries = ap (λ (p : (Bool × Parsed) × Spot). length p.0.1.entries) r.is in
    let left : ℕ = w.root.1.end - w.root.1.place in
    let walk : Walk = (w.root.0.1, opened w.root.0.0 (length own.entries) []) in
    let fewer = no_longer w.root.0.1.entries y.0.entries n (children_begin sections context table left walk w.root.1 y w.others) few in
    let lt : n + length own.entries < 2 ^ 24 = omega (arith, fewer, long, same) in
    let lists : opened w.root.0.0 (length (behind before own).entries) [] ≡ lists_up n (opened w.root.0.0 (length own.entries) []) =
    ap (λ (k : ℕ). opened w.root.0.0 k []) (length_behind before own) ∙ opened_up n w.root.0.0 (length own.entries) [] in
    let others : children_at sections context table left (behind before w.root.0.1, opened w.root.0.0 (length (behind before own).entries) []) w.root.1 ≡ Ok (behind before y.0, y.1) =
    ap (λ (ls : List ℕ). children_at sections context table left (behind before w.root.0.1, ls) w.root.1) lists ∙ children_behind sections context table before left walk w.root.1 y w.others few in
    (lt, rw (root_behind start sections context table before own s w.root w.first lt) others)

-- ---- units

root_attrs : (n : ℕ) (found : Option RawEntry) → option_map_or (λ (e : RawEntry). language_of e.attrs) (option_map (raised n) found) 0 ≡ option_map_or (λ (e : RawEntry). language_of e.attrs) found 0
root_attrs n None = refl
root_attrs n (Some e) = refl

behind_front : (xs ys : List RawEntry) → slice_get (xs ++ ys) (length xs) ≡ slice_get ys 0
behind_front [] ys = refl
behind_front (x ∷ xs) ys = behind_front xs ys

abbrev together : List RawEntry → List Reference → Parsed
together es rs = record { entries = es; references = rs }

nothing_behind : (before : Parsed) → behind before nothing ≡ before
nothing_behind before = ap₂ (λ (es : List RawEntry) (rs : List Reference). together es rs) (append-nil before.entries) (append-nil before.references)

abbrev a_unit : ℕ → ℕ → ℕ → ℕ → InUnit
a_unit version first count language = record { first = first; count = count; version = version; language = language; lines = None }

unit_made : (version n : ℕ) (before own : Parsed) → length before.entries ≡ n → unit_from version n (behind before own).entries ≡ record (unit_from version 0 own.entries) { first = n + 0 }
unit_made version n before own is =
    let entries : List RawEntry = map (raised (length before.entries)) own.entries in
    let count : length (before.entries ++ entries) - n ≡ length own.entries - 0 = omega (arith, is, length_behind before own) in
    let first : n ≡ n + 0 = omega arith in
    let language : option_map_or (λ (e : RawEntry). language_of e.attrs) (slice_get (before.entries ++ entries) n) 0 ≡ option_map_or (λ (e : RawEntry). language_of e.attrs) (slice_get own.entries 0) 0 =
    ap (λ (k : ℕ). option_map_or (λ (e : RawEntry). language_of e.attrs) (slice_get (before.entries ++ entries) k) 0) (sym is)
    ∙ ap (λ (o : Option RawEntry). option_map_or (λ (e : RawEntry). language_of e.attrs) o 0) (behind_front before.entries entries ∙ slice_get-map (raised (length before.entries)) own.entries 0)
    ∙ root_attrs (length before.entries) (slice_get own.entries 0) in
    ap (λ (k : ℕ). a_unit version k (length (before.entries ++ entries) - n) (option_map_or (λ (e : RawEntry). language_of e.attrs) (slice_get (before.entries ++ entries) n) 0)) first
    ∙ ap₂ (λ (c l : ℕ). a_unit version (n + 0) c l) count language

pub alone_behind : (profile : Profile) (sections : SectionBytes) (number : ℕ) (before : Parsed) (place : ℕ) (y : (InUnit × Parsed) × ℕ) → unit_at profile sections number nothing place ≡ Ok y
    → length before.entries + length y.0.1.entries ≤ 2 ^ 24 → unit_at profile sections number before place ≡ Ok (unit_behind_others before y)
unfolding unit_at
alone_behind profile sections number before place y e few =
    let w = unit_steps profile sections number nothing place y e in
    let start : Spot = info_at sections place in
    let context : Option Bases → UnitContext = λ bases. context_in profile number place w.header.0.version bases in
    let same : length w.tree.0.entries ≡ length y.0.1.entries = ap (λ (p : (InUnit × Parsed) × ℕ). length p.0.1.entries) w.is in
    let t = tree_behind start sections (context (Some w.bases)) w.table before nothing w.header.1 w.tree w.tree_is (omega (arith, few, same)) in
    let b = bases_behind start sections (context None) w.table before nothing w.header.1 w.bases w.bases_are t.0 in
    let tree : tree_at start sections (context (Some w.bases)) w.table before w.header.1 ≡ Ok (behind before w.tree.0, w.tree.1) = subst (λ (p : Parsed). tree_at start sections (context (Some w.bases)) w.table p w.header.1 ≡ Ok (behind before w.tree.0, w.tree.1)) (nothing_behind before) t.1 in
    let bases : bases_at start sections (context None) w.table before w.header.1 ≡ Ok w.bases = subst (λ (p : Parsed). bases_at start sections (context None) w.table p w.header.1 ≡ Ok w.bases) (nothing_behind before) b in
    let made : InUnit → Result ((InUnit × Parsed) × ℕ) Fault = λ unit. Ok ((unit, behind before w.tree.0), w.header.0.end) in
    rw (w.header_is, w.table_is, bases, tree, no_others start w.tree.1 w.others w.others_is w.zeros)
    (ap made (unit_made w.header.0.version (length before.entries) before w.tree.0 refl) ∙ ap (λ (p : (InUnit × Parsed) × ℕ). Ok (unit_behind_others before p)) w.is)
