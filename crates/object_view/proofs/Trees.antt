-- Where the entries of spelled trees stand among those of an object, and where their units begin.
use Rattle.std.proofs.Common.{◌≡◌, ◌+◌, ◌-◌, ◌<◌, ◌≤◌, ℕ, zero, suc, List, [], ◌∷◌, ◌++◌, length, slice_get, Option, Some, None, refl, sym, ap, subst, ◌∙◌, append_assoc, arith, inl, inr}
use Rattle.std.specs.Prelude.{IfSome}
use Rattle.std.specs.List.{All}
use Rattle.std.specs.Option.{option_map_or}
use Rattle.std.proofs.lemmas.List.{length-append}
use Rattle.std.proofs.lemmas.List.Elements.{All-nil, All-cons}
use Rattle.dwarf_types.specs.declared.entry.RawEntry.{RawEntry}
use Rattle.dwarf_types.specs.SectionBytes.{SectionBytes}
use Rattle.unit_tree.specs.Header.{header_size}
use Rattle.unit_tree.specs.Spelling.{SpellsFields, SpellsUnit, SpellsUnits, UnitTree, entries_of, entry_of, in_unit, in_units, preorder, size, unit_entries}
use Rattle.unit_tree.proofs.TreeLaws.{length_preorder}
use Rattle.unit_tree.proofs.UnitLaws.{length_number}
use Rattle.object_view.specs.Ready.{IsRooted}
use Rattle.object_view.specs.Roots.{IsBehindHeader}
use Rattle.object_view.specs.Spelled.{BeginsAt}
use Rattle.object_view.specs.Units.{context_of, no_unit, unit_start}

-- ---- items in a row

pub get_left : {X : Type 0} (xs ys : List X) (i : ℕ) (x : X) → slice_get xs i ≡ Some x → slice_get (xs ++ ys) i ≡ Some x
get_left [] ys i x e = absurd cc
get_left (y ∷ xs) ys zero x e = e
get_left (y ∷ xs) ys (suc i) x e = get_left xs ys i x e

pub get_right : {X : Type 0} (xs ys : List X) (i : ℕ) (x : X) → slice_get ys i ≡ Some x → slice_get (xs ++ ys) (length xs + i) ≡ Some x
get_right [] ys i x e = let same : i ≡ 0 + i = omega arith in subst (λ (n : ℕ). slice_get ys n ≡ Some x) same e
get_right (y ∷ xs) ys i x e =
    let same : suc (length xs + i) ≡ suc (length xs) + i = omega arith in
    subst (λ (n : ℕ). slice_get (y ∷ (xs ++ ys)) n ≡ Some x) same (get_right xs ys i x e)

-- items stand in a list from a number on
abbrev pub StandFrom : {X : Type 0} → ℕ → List X → List X → Type 0
StandFrom {X} k xs all = (i : ℕ) (e : X) → slice_get xs i ≡ Some e → slice_get all (k + i) ≡ Some e

pub first_stands : {X : Type 0} (k : ℕ) (e : X) (xs all : List X) → StandFrom k (e ∷ xs) all → slice_get all k ≡ Some e
first_stands k e xs all h = subst (λ (n : ℕ). slice_get all n ≡ Some e) (omega arith) (h 0 e refl)

pub behind_stand : {X : Type 0} (k : ℕ) (e : X) (xs all : List X) → StandFrom k (e ∷ xs) all → StandFrom (k + 1) xs all
behind_stand k e xs all h i x is = subst (λ (n : ℕ). slice_get all n ≡ Some x) (omega arith) (h (suc i) x is)

pub left_stand : {X : Type 0} (k : ℕ) (xs ys all : List X) → StandFrom k (xs ++ ys) all → StandFrom k xs all
left_stand k xs ys all h i x is = h i x (get_left xs ys i x is)

pub right_stand : {X : Type 0} (k : ℕ) (xs ys all : List X) → StandFrom k (xs ++ ys) all → StandFrom (k + length xs) ys all
right_stand k xs ys all h i x is = subst (λ (n : ℕ). slice_get all n ≡ Some x) (omega arith) (h (length xs + i) x (get_right xs ys i x is))

pub all_stand : {X : Type 0} (all : List X) → StandFrom 0 all all
all_stand all i e is = let same : i ≡ 0 + i = omega arith in subst (λ (n : ℕ). slice_get all n ≡ Some e) same is

-- ---- the units of trees

module _ (all : List RawEntry) where
  -- the root of a tree
  abbrev root_of : ℕ → UnitTree → RawEntry
  root_of unit t = entry_of unit None t.root

  tree_root : (t : UnitTree) (ts : List UnitTree) (unit number : ℕ) → StandFrom number (entries_of unit number (t ∷ ts)) all → slice_get all number ≡ Some (root_of unit t)
  tree_root t ts unit number h =
      first_stands number (root_of unit t) (preorder unit (Some number) (number + 1) t.kids) all (left_stand number (unit_entries unit number t) (entries_of (suc unit) (number + 1 + size t.kids) ts) all h)

  trees_behind : (t : UnitTree) (ts : List UnitTree) (unit number : ℕ) → StandFrom number (entries_of unit number (t ∷ ts)) all → StandFrom (number + 1 + size t.kids) (entries_of (suc unit) (number + 1 + size t.kids) ts) all
  trees_behind t ts unit number h =
      let here = unit_entries unit number t in
      let others = entries_of (suc unit) (number + 1 + size t.kids) ts in
      let long : length here ≡ 1 + size t.kids = let l = length_preorder unit (Some number) (number + 1) t.kids in omega (arith, l) in
      subst (λ (n : ℕ). StandFrom n others all) (omega (arith, long)) (right_stand number here others all h)

  units_rooted : (ts : List UnitTree) (unit number : ℕ) → StandFrom number (entries_of unit number ts) all → All (IsRooted all) (in_units number ts)
  units_rooted [] unit number h = All-nil (IsRooted all)
  units_rooted (t ∷ ts) unit number h =
      let root : IsRooted all (in_unit number t) = subst (λ (o : Option RawEntry). IfSome o (λ e. e.parent ≡ None)) (sym (tree_root t ts unit number h)) refl in
      All-cons (IsRooted all) (in_unit number t) (in_units (number + 1 + size t.kids) ts) root (units_rooted ts (suc unit) (number + 1 + size t.kids) (trees_behind t ts unit number h))

  -- so many bytes stand in a header behind the length
  fields_length : (version offset : ℕ) (bytes : List ℕ) → SpellsFields version offset bytes → 4 + (2 + length bytes) ≡ header_size version
  fields_length version offset bytes (inl (is, h)) =
      let four = length_number 4 _ h.front h.first in
      let one = length_number 1 _ h.back h.second in
      let all = ap (λ (b : List ℕ). length b) h.is in
      subst (λ (v : ℕ). 4 + (2 + length bytes) ≡ header_size v) (sym is) (omega (arith, four, one, all, length-append h.front h.back))
  fields_length version offset bytes (inr (is, h)) =
      let others = h.second in
      let kind = length_number 1 _ h.front h.first in
      let width = length_number 1 _ others.front others.first in
      let four = length_number 4 _ others.back others.second in
      let all = ap (λ (b : List ℕ). length b) h.is in
      let behind = ap (λ (b : List ℕ). length b) others.is in
      subst (λ (v : ℕ). 4 + (2 + length bytes) ≡ header_size v) (sym is) (omega (arith, kind, width, four, all, behind, length-append h.front h.back, length-append others.front others.back))

  -- the root stands behind the header
  root_at : (sections : SectionBytes) (t : UnitTree) (place : ℕ) (bytes : List ℕ) → SpellsUnit sections t place bytes → t.root.place ≡ place + header_size t.version
  root_at sections t place bytes h =
      let header = h.spells.first in
      let there = h.spells.second.first.first.there in
      let two = length_number 2 _ header.front header.first in
      let fields = fields_length t.version t.offset header.back header.second in
      let all = ap (λ (b : List ℕ). length b) header.is in
      omega (arith, there, two, fields, all, length-append header.front header.back)

  root_place : (sections : SectionBytes) (t : UnitTree) (place : ℕ) (bytes : List ℕ) → SpellsUnit sections t place bytes → t.root.place - header_size t.version ≡ place
  root_place sections t place bytes h = let at = root_at sections t place bytes h in omega (arith, at)

  units_behind : (sections : SectionBytes) (ts : List UnitTree) (unit number place : ℕ) (bytes : List ℕ) → SpellsUnits sections ts place bytes → StandFrom number (entries_of unit number ts) all → All (IsBehindHeader all) (in_units number ts)
  units_behind sections [] unit number place bytes h stand = All-nil (IsBehindHeader all)
  units_behind sections (t ∷ ts) unit number place bytes h stand =
      let at = root_at sections t place h.front h.first in
      let root : IsBehindHeader all (in_unit number t) = subst (λ (o : Option RawEntry). IfSome o (λ e. header_size t.version ≤ e.place)) (sym (tree_root t ts unit number stand)) (omega (arith, at)) in
      All-cons (IsBehindHeader all) (in_unit number t) (in_units (number + 1 + size t.kids) ts) root
      (units_behind sections ts (suc unit) (number + 1 + size t.kids) (place + length h.front) h.back h.second (trees_behind t ts unit number stand))

  unit_begins : (sections : SectionBytes) (ts : List UnitTree) (unit number place : ℕ) (bytes : List ℕ) → SpellsUnits sections ts place bytes → StandFrom number (entries_of unit number ts) all
      → (k : ℕ) → k < length ts → BeginsAt sections ts place bytes k (option_map_or (context_of all) (slice_get (in_units number ts) k) no_unit).start
  unit_begins sections [] unit number place bytes h stand k lt = absurd (omega (arith, lt))
  unit_begins sections (t ∷ ts) unit number place bytes h stand zero lt =
      let start : option_map_or (λ (root : RawEntry). root.place - header_size t.version) (slice_get all number) 0 ≡ place =
      ap (λ (o : Option RawEntry). option_map_or (λ (root : RawEntry). root.place - header_size t.version) o 0) (tree_root t ts unit number stand) ∙ root_place sections t place h.front h.first in
      record {
        before = [];
        own = h.front;
        behind = h.back;
        is = h.is;
        there = omega (arith, start);
        units = refl;
        tree = t;
        its = refl;
        spells = subst (λ (p : ℕ). SpellsUnit sections t p h.front) (sym start) h.first;
      }
  unit_begins sections (t ∷ ts) unit number place bytes h stand (suc k) lt =
      let r = unit_begins sections ts (suc unit) (number + 1 + size t.kids) (place + length h.front) h.back h.second (trees_behind t ts unit number stand) k (omega (arith, lt)) in
      let there = r.there in
      record {
        before = h.front ++ r.before;
        own = r.own;
        behind = r.behind;
        is = h.is ∙ ap (λ (b : List ℕ). h.front ++ b) r.is ∙ sym (append_assoc h.front r.before (r.own ++ r.behind));
        there = omega (arith, there, length-append h.front r.before);
        units = record { front = h.front; back = r.before; is = refl; first = h.first; second = r.units };
        tree = r.tree;
        its = r.its;
        spells = r.spells;
      }

pub trees_rooted : (ts : List UnitTree) → All (IsRooted (entries_of 0 0 ts)) (in_units 0 ts)
trees_rooted ts = units_rooted (entries_of 0 0 ts) ts 0 0 (all_stand (entries_of 0 0 ts))

pub headers_before : (sections : SectionBytes) (ts : List UnitTree) → SpellsUnits sections ts 0 sections.info → All (IsBehindHeader (entries_of 0 0 ts)) (in_units 0 ts)
headers_before sections ts h = units_behind (entries_of 0 0 ts) sections ts 0 0 0 sections.info h (all_stand (entries_of 0 0 ts))

-- a unit of an object begins where it is spelled
pub begins : (sections : SectionBytes) (ts : List UnitTree) → SpellsUnits sections ts 0 sections.info → (unit : ℕ) → unit < length ts → BeginsAt sections ts 0 sections.info unit (unit_start (in_units 0 ts) (entries_of 0 0 ts) unit)
begins sections ts h unit lt = unit_begins (entries_of 0 0 ts) sections ts 0 0 0 sections.info h (all_stand (entries_of 0 0 ts)) unit lt
