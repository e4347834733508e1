-- What is read of a unit's tree is spelled so, and what is spelled so is read.
use Rattle.std.proofs.Common.{◌≡◌, ℕ, zero, suc, ◌+◌, ◌-◌, ◌^◌, ◌<◌, ◌≤◌, ◌==◌, ◌&&◌, Bool, true, false, not, List, [], ◌∷◌, ◌++◌, length, take, Option, Some, Ok, refl, sym, ap, ap₂, subst, ◌∙◌, append_assoc, inl, inr, arith}
use Rattle.std.specs.Prelude.{nat_lt, is_none, slice_get, if◌then◌else◌}
use Rattle.std.proofs.lemmas.Bool.{ne_eqb, eqb-true, ltb-true, lt-ltb, not-false}
use Rattle.std.proofs.lemmas.List.{append-nil, length-append, take_at}
use Rattle.ds_base.specs.Leb.{IsSpelled}
use Rattle.ds_base.specs.Spot.{Spot, rest}
use Rattle.ds_base.specs.Reading.{uleb_at}
use Rattle.dwarf_types.specs.Spelled.{IsUleb}
use Rattle.dwarf_types.specs.declared.abbrev.Abbrev.{Abbrev}
use Rattle.dwarf_types.specs.declared.entry.RawAttr.{RawAttr}
use Rattle.dwarf_types.specs.declared.entry.RawEntry.{RawEntry}
use Rattle.dwarf_types.specs.SectionBytes.{SectionBytes}
use Rattle.dwarf_types.proofs.Readers.{Stands, length_rest}
use Rattle.unit_tree.specs.declared.attribute.UnitContext.{UnitContext}
use Rattle.unit_tree.specs.declared.profile.Profile.TheVariants.{Input}
use Rattle.unit_tree.specs.declared.reference.Reference.{Reference}
use Rattle.unit_tree.specs.Entry.{Parsed, is_full, entry_at, innermost, closed, opened, Walk, listed_at, child_at, children_at}
use Rattle.unit_tree.specs.Entry.{declared_as}
use Rattle.unit_tree.specs.Spelling.{Node, Forest, size, entry_of, preorder, InTurnFrom, SpellsAttrs, SpellsNode, SpellsBelow, SpellsTrees, IsShallow, AttrsLead, NodeLeads, TreesLead}
use Rattle.unit_tree.specs.Spelling.Forest.{no_more, tree}
use Rattle.unit_tree.proofs.AttrLaws.{Lead, AreLow, lead_front, origin_of, attrs_taken, attrs_go}
use Rattle.unit_tree.proofs.Placed.{Passed, passed_nothing, passed_then, stands_on, uleb_taken, uleb_goes}
use Rattle.ds_base.proofs.Onward.{uleb_onward}
use Rattle.unit_tree.proofs.Rising.{entry_onward}
use Rattle.unit_tree.proofs.Steps.{entry_steps, listed_steps, child_steps, ChildrenSteps, children_end, children_steps}

pub has_room : (before : Parsed) → is_full before ≡ false → length before.entries < 2 ^ 24
has_room before e = ltb-true (length before.entries) (2 ^ 24) (not-false (nat_lt (length before.entries) (2 ^ 24)) e)

pub room_for : (before : Parsed) → length before.entries < 2 ^ 24 → is_full before ≡ false
room_for before lt = rw (lt-ltb (length before.entries) (2 ^ 24) lt) refl

-- ---- an entry

abbrev pub node_of : Abbrev → ℕ → List RawAttr → Node
node_of declared place attrs = record { declared = declared; place = place; attrs = attrs }

pub record NodeTaken (all : List RawEntry) (sections : SectionBytes) (context : UnitContext) (table : List Abbrev) (parent : Option ℕ) (declared : Abbrev) (before : Parsed) (s : Spot) (y : Parsed × Spot) : Type 0 where
  pub attrs : List RawAttr
  pub bytes : List ℕ
  pub spells : SpellsNode sections (origin_of context) table (is_none parent) (node_of declared s.place attrs) s.place bytes
  pub leads_on : AttrsLead all context.unit declared.fields attrs
  pub entries : y.0.entries ≡ before.entries ++ entry_of context.unit parent (node_of declared s.place attrs) ∷ []
  pub references : List Reference
  pub grown : y.0.references ≡ before.references ++ references
  pub passed : Passed bytes s y.1

code_some : (code : ℕ) → (code == 0) ≡ false → 0 < code
code_some zero e = absurd cc
code_some (suc code) e = omega arith

pub node_taken : (all : List RawEntry) → AreLow all → (sections : SectionBytes) (context : UnitContext) (table : List Abbrev) (parent : Option ℕ) (declared : Abbrev) (before : Parsed) (s : Spot) (code : ℕ × Spot) (y : Parsed × Spot) → Stands s
    → uleb_at s ≡ Ok code → (code.0 == 0) ≡ false → declared_as code.0 table ≡ Some declared → entry_at sections context parent s.place declared before code.1 ≡ Ok y → Lead all y.0.references
    → NodeTaken all sections context table parent declared before s y
node_taken all low sections context table parent declared before s code y stands coded some found e h =
    let c = uleb_taken s code stands coded in
    let p = c.passed in
    let w = entry_steps sections context parent s.place declared before code.1 y e in
    subst (λ (z : Parsed × Spot). Lead all z.0.references → NodeTaken all sections context table parent declared before s z) w.is
    (λ k.
    let a = attrs_taken all low sections context (is_none parent) declared.fields ([], before.references) code.1 w.read p.stands w.attrs k in
    record {
      attrs = a.own;
      bytes = c.bytes ++ a.bytes;
      spells = record { there = refl; spells = record { front = c.bytes; back = a.bytes; is = refl; first = record { code = code.0; some = code_some code.0 some; spells = c.spells; found = found }; second = subst (λ (n : ℕ). SpellsAttrs sections (origin_of context) (is_none parent) declared.fields [] a.own n a.bytes) p.place a.spells } };
      leads_on = a.leads_on;
      entries = ap (λ (attrs : List RawAttr). before.entries ++ entry_of context.unit parent (node_of declared s.place attrs) ∷ []) a.is;
      references = a.references;
      grown = a.grown;
      passed = passed_then c.bytes a.bytes s code.1 w.read.1 p a.passed;
    }) h

pub record NodeGoes (all : List RawEntry) (sections : SectionBytes) (context : UnitContext) (table : List Abbrev) (parent : Option ℕ) (node : Node) (before : Parsed) (s : Spot) (bytes more : List ℕ) : Type 0 where
  pub code : ℕ × Spot
  pub coded : uleb_at s ≡ Ok code
  pub some : (code.0 == 0) ≡ false
  pub found : declared_as code.0 table ≡ Some node.declared
  pub references : List Reference
  pub next : Spot
  pub reads : entry_at sections context parent s.place node.declared before code.1 ≡ Ok (record { entries = before.entries ++ entry_of context.unit parent node ∷ []; references = references }, next)
  pub lead : Lead all references
  pub passed : Passed bytes s next
  pub left : rest next ≡ more

pub node_goes : (all : List RawEntry) → AreLow all → (sections : SectionBytes) (context : UnitContext) (like : context.profile ≡ Input) (table : List Abbrev) (parent : Option ℕ) (node : Node) (before : Parsed) (s : Spot) (bytes more : List ℕ) → Stands s
    → SpellsNode sections (origin_of context) table (is_none parent) node s.place bytes → NodeLeads all context.unit node → Lead all before.references → rest s ≡ bytes ++ more
    → NodeGoes all sections context table parent node before s bytes more
unfolding entry_at
node_goes all low sections context like table parent node before s bytes more stands w leads_on lead parts =
    let spelled = w.spells in
    let first = spelled.first in
    let whole : rest s ≡ spelled.front ++ (spelled.back ++ more) = parts ∙ ap (λ (b : List ℕ). b ++ more) spelled.is ∙ append_assoc spelled.front spelled.back more in
    let c = uleb_goes s spelled.front first.code (spelled.back ++ more) stands first.spells whole in
    let p = c.passed in
    let attrs_spelled = subst (λ (n : ℕ). SpellsAttrs sections (origin_of context) (is_none parent) node.declared.fields [] node.attrs n spelled.back) (sym p.place) spelled.second in
    let a = attrs_go all low sections context like (is_none parent) node.declared.fields node.attrs ([], before.references) c.next spelled.back more p.stands attrs_spelled leads_on lead c.left in
    let there : node_of node.declared s.place node.attrs ≡ node = ap (λ (place : ℕ). node_of node.declared place node.attrs) (sym w.there) in
    record {
      code = (first.code, c.next);
      coded = c.reads;
      some = ne_eqb first.code 0 (λ z. absurd (omega (arith, first.some, z)));
      found = first.found;
      references = a.references;
      next = a.next;
      reads = rw a.reads (ap (λ (n : Node). Ok (record { entries = before.entries ++ entry_of context.unit parent n ∷ []; references = a.references }, a.next)) there);
      lead = a.lead;
      passed = subst (λ (b : List ℕ). Passed b s a.next) (sym spelled.is) (passed_then spelled.front spelled.back s c.next a.next p a.passed);
      left = a.left;
    }

-- ---- the open lists

-- as they are kept: the innermost last
abbrev pub back : List ℕ → List ℕ
back [] = []
back (p ∷ stack) = back stack ++ p ∷ []

pub length_back : (stack : List ℕ) → length (back stack) ≡ length stack
length_back [] = refl
length_back (p ∷ stack) = omega (arith, length-append (back stack) (p ∷ []), length_back stack)

last_back : (xs : List ℕ) (p : ℕ) → slice_get (xs ++ p ∷ []) (length xs) ≡ Some p
last_back [] p = refl
last_back (x ∷ xs) p = last_back xs p

pub innermost_back : (stack : List ℕ) (p : ℕ) → innermost (back (p ∷ stack)) ≡ Some p
innermost_back stack p =
    let at : length (back stack ++ p ∷ []) - 1 ≡ length (back stack) = omega (arith, length-append (back stack) (p ∷ [])) in
    ap (slice_get (back stack ++ p ∷ [])) at ∙ last_back (back stack) p

pub closed_back : (stack : List ℕ) (p : ℕ) → closed (back (p ∷ stack)) ≡ back stack
closed_back stack p =
    let at : length (back stack ++ p ∷ []) - 1 ≡ length (back stack) = omega (arith, length-append (back stack) (p ∷ [])) in
    ap (λ (n : ℕ). take n (back stack ++ p ∷ [])) at ∙ take_at (back stack) (p ∷ []) (length (back stack)) refl

pub some_open : (stack : List ℕ) (p : ℕ) → (length (back (p ∷ stack)) == 0) ≡ false
some_open stack p = ne_eqb (length (back stack ++ p ∷ [])) 0 (λ z. absurd (omega (arith, length-append (back stack) (p ∷ []), z)))

-- ---- trees, where so many lists are open

pub record TreesThere (all : List RawEntry) (sections : SectionBytes) (context : UnitContext) (table : List Abbrev) (lists : ℕ) (trees : Forest) (place : ℕ) (bytes : List ℕ) : Type 0 where
  pub spells : SpellsTrees sections (origin_of context) table trees place bytes
  pub shallow : IsShallow lists trees
  pub leads_on : TreesLead all context.unit trees

-- what is below an entry
pub record KidsThere (all : List RawEntry) (sections : SectionBytes) (context : UnitContext) (table : List Abbrev) (lists : ℕ) (children : Bool) (kids : Forest) (place : ℕ) (bytes : List ℕ) : Type 0 where
  pub spells : SpellsBelow children (λ p b. SpellsTrees sections (origin_of context) table kids p b) kids place bytes
  pub shallow : IsShallow lists kids
  pub leads_on : TreesLead all context.unit kids

-- the rest of each open list, the innermost first
abbrev pub OpenThere : List RawEntry → SectionBytes → UnitContext → List Abbrev → List ℕ → List Forest → ℕ → List ℕ → Type 0
OpenThere all sections context table [] [] place bytes = bytes ≡ []
OpenThere all sections context table [] (trees ∷ forests) place bytes = ⊥
OpenThere all sections context table (p ∷ stack) [] place bytes = ⊥
OpenThere all sections context table (p ∷ stack) (trees ∷ forests) place bytes = InTurnFrom (TreesThere all sections context table (suc (length stack)) trees) (λ q b. OpenThere all sections context table stack forests q b) place bytes

abbrev pub open_entries : ℕ → ℕ → List ℕ → List Forest → List RawEntry
open_entries unit number [] forests = []
open_entries unit number (p ∷ stack) [] = []
open_entries unit number (p ∷ stack) (trees ∷ forests) = preorder unit (Some p) number trees ++ open_entries unit (number + size trees) stack forests

pub record ChildrenTaken (all : List RawEntry) (sections : SectionBytes) (context : UnitContext) (table : List Abbrev) (stack : List ℕ) (before : Parsed) (s : Spot) (y : Parsed × Spot) : Type 0 where
  pub forests : List Forest
  pub bytes : List ℕ
  pub there : OpenThere all sections context table stack forests s.place bytes
  pub entries : y.0.entries ≡ before.entries ++ open_entries context.unit (length before.entries) stack forests
  pub references : List Reference
  pub grown : y.0.references ≡ before.references ++ references
  pub passed : Passed bytes s y.1
  pub few : length before.entries ≤ 2 ^ 24 → length y.0.entries ≤ 2 ^ 24

-- no list is open
none_taken : (all : List RawEntry) (sections : SectionBytes) (context : UnitContext) (table : List Abbrev) (stack : List ℕ) (before : Parsed) (s : Spot) (y : Parsed × Spot) → Stands s → (length (back stack) == 0) ≡ true → (before, s) ≡ y
    → ChildrenTaken all sections context table stack before s y
none_taken all sections context table [] before s y stands none is =
    subst (λ (z : Parsed × Spot). ChildrenTaken all sections context table [] before s z) is
    (record { forests = []; bytes = []; there = refl; entries = sym (append-nil before.entries); references = []; grown = sym (append-nil before.references); passed = passed_nothing s stands; few = λ h. h })
none_taken all sections context table (p ∷ stack) before s y stands none is = absurd (omega (arith, eqb-true _ _ none, length-append (back stack) (p ∷ [])))

-- the innermost list is closed
closing_taken : (all : List RawEntry) (sections : SectionBytes) (context : UnitContext) (table : List Abbrev) (p : ℕ) (stack : List ℕ) (before : Parsed) (s : Spot) (code : ℕ × Spot) (y : Parsed × Spot) → Stands s → uleb_at s ≡ Ok code → code.0 ≡ 0
    → (Stands code.1 → ChildrenTaken all sections context table stack before code.1 y) → ChildrenTaken all sections context table (p ∷ stack) before s y
closing_taken all sections context table p stack before s code y stands coded zero_is others =
    let c = uleb_taken s code stands coded in
    let q = c.passed in
    let r = others q.stands in
    let same : length before.entries + 0 ≡ length before.entries = omega arith in
    record {
      forests = no_more ∷ r.forests;
      bytes = c.bytes ++ r.bytes;
      there = record {
        front = c.bytes;
        back = r.bytes;
        is = refl;
        first = record { spells = subst (IsUleb c.bytes) zero_is c.spells; shallow = tt; leads_on = tt };
        second = subst (λ (n : ℕ). OpenThere all sections context table stack r.forests n r.bytes) q.place r.there;
      };
      entries = r.entries ∙ ap (λ (n : ℕ). before.entries ++ open_entries context.unit n stack r.forests) (sym same);
      references = r.references;
      grown = r.grown;
      passed = passed_then c.bytes r.bytes s code.1 y.1 q r.passed;
      few = r.few;
    }

-- an entry with what is below it and behind it
with_node : (all : List RawEntry) (sections : SectionBytes) (context : UnitContext) (table : List Abbrev) (lists : ℕ) (node : Node) (kids others : Forest) (place : ℕ) (a b c : List ℕ) → (node.declared.children ≡ true → lists < 1000)
    → SpellsNode sections (origin_of context) table false node place a → NodeLeads all context.unit node → KidsThere all sections context table (suc lists) node.declared.children kids (place + length a) b
    → TreesThere all sections context table lists others (place + length a + length b) c → TreesThere all sections context table lists (tree node kids others) place ((a ++ b) ++ c)
with_node all sections context table lists node kids others place a b c depth spells leads_on k o =
    let len : place + length (a ++ b) ≡ place + length a + length b = omega (arith, length-append a b) in
    record {
      spells = record { front = a ++ b; back = c; is = refl; first = record { front = a; back = b; is = refl; first = spells; second = k.spells }; second = subst (λ (n : ℕ). SpellsTrees sections (origin_of context) table others n c) (sym len) o.spells };
      shallow = ((depth, k.shallow), o.shallow);
      leads_on = ((leads_on, k.leads_on), o.leads_on);
    }

-- what is open with a node in front of it
pub record OpenWith (all : List RawEntry) (sections : SectionBytes) (context : UnitContext) (table : List Abbrev) (p : ℕ) (stack : List ℕ) (place : ℕ) (bytes : List ℕ) (number : ℕ) (entries : List RawEntry) : Type 0 where
  pub forests : List Forest
  pub there : OpenThere all sections context table (p ∷ stack) forests place bytes
  pub entries_are : entries ≡ open_entries context.unit number (p ∷ stack) forests

-- the node has a list, which is open too
pub with_list : (all : List RawEntry) (sections : SectionBytes) (context : UnitContext) (table : List Abbrev) (p : ℕ) (stack : List ℕ) (place : ℕ) (node : Node) (a r : List ℕ) (number : ℕ) → node.declared.children ≡ true → suc (length stack) < 1000
    → SpellsNode sections (origin_of context) table false node place a → NodeLeads all context.unit node → (forests : List Forest) → OpenThere all sections context table (number ∷ p ∷ stack) forests (place + length a) r
    → OpenWith all sections context table p stack place (a ++ r) number (entry_of context.unit (Some p) node ∷ open_entries context.unit (number + 1) (number ∷ p ∷ stack) forests)
with_list all sections context table p stack place node a r number has depth spells leads_on [] there = absurd there
with_list all sections context table p stack place node a r number has depth spells leads_on (kids ∷ []) there = absurd there.second
with_list all sections context table p stack place node a r number has depth spells leads_on (kids ∷ others ∷ forests) there =
    let k = there.first in
    let o = there.second in
    let below = subst (λ (c : Bool). SpellsBelow c (λ q b. SpellsTrees sections (origin_of context) table kids q b) kids (place + length a) there.front) (sym has) k.spells in
    let len : place + length a + length there.front + length o.front ≡ place + length ((a ++ there.front) ++ o.front) = omega (arith, length-append (a ++ there.front) o.front, length-append a there.front) in
    let number_is : number + 1 + size kids + size others ≡ number + suc (size kids + size others) = omega arith in
    record {
      forests = tree node kids others ∷ forests;
      there = record {
        front = (a ++ there.front) ++ o.front;
        back = o.back;
        is = ap (λ (b : List ℕ). a ++ b) (there.is ∙ ap (λ (b : List ℕ). there.front ++ b) o.is) ∙ sym (append_assoc a there.front (o.front ++ o.back)) ∙ sym (append_assoc (a ++ there.front) o.front o.back);
        first = with_node all sections context table (suc (length stack)) node kids others place a there.front o.front (λ e. depth) spells leads_on (record { spells = below; shallow = k.shallow; leads_on = k.leads_on }) o.first;
        second = subst (λ (n : ℕ). OpenThere all sections context table stack forests n o.back) len o.second;
      };
      entries_are = ap (λ (es : List RawEntry). entry_of context.unit (Some p) node ∷ es) (
          sym (append_assoc (preorder context.unit (Some number) (number + 1) kids) (preorder context.unit (Some p) (number + 1 + size kids) others) (open_entries context.unit (number + 1 + size kids + size others) stack forests))
          ∙ ap (λ (n : ℕ). (preorder context.unit (Some number) (number + 1) kids ++ preorder context.unit (Some p) (number + 1 + size kids) others) ++ open_entries context.unit n stack forests) number_is);
    }

abbrev no_bytes : List ℕ
no_bytes = []

differs : {b : Bool} → b ≡ true → b ≡ false → ⊥
differs e f = cc

-- the node has none
pub with_none : (all : List RawEntry) (sections : SectionBytes) (context : UnitContext) (table : List Abbrev) (p : ℕ) (stack : List ℕ) (place : ℕ) (node : Node) (a r : List ℕ) (number : ℕ) → node.declared.children ≡ false
    → SpellsNode sections (origin_of context) table false node place a → NodeLeads all context.unit node → (forests : List Forest) → OpenThere all sections context table (p ∷ stack) forests (place + length a) r
    → OpenWith all sections context table p stack place (a ++ r) number (entry_of context.unit (Some p) node ∷ open_entries context.unit (number + 1) (p ∷ stack) forests)
with_none all sections context table p stack place node a r number has spells leads_on [] there = absurd there
with_none all sections context table p stack place node a r number has spells leads_on (others ∷ forests) there =
    let o = there.first in
    let below = subst (λ (c : Bool). SpellsBelow c (λ q b. SpellsTrees sections (origin_of context) table no_more q b) no_more (place + length a) []) (sym has) refl in
    let here : place + length a ≡ place + length a + length no_bytes = omega arith in
    let next = subst (λ (n : ℕ). TreesThere all sections context table (suc (length stack)) others n there.front) here o in
    let len : place + length a + length there.front ≡ place + length ((a ++ []) ++ there.front) = omega (arith, length-append (a ++ []) there.front, length-append a []) in
    let first_is : number + 1 ≡ number + 1 + size no_more = omega arith in
    let number_is : number + 1 + size others ≡ number + suc (size no_more + size others) = omega arith in
    record {
      forests = tree node no_more others ∷ forests;
      there = record {
        front = (a ++ []) ++ there.front;
        back = there.back;
        is = ap (λ (b : List ℕ). a ++ b) there.is ∙ sym (append_assoc a there.front there.back) ∙ ap (λ (b : List ℕ). (b ++ there.front) ++ there.back) (sym (append-nil a));
        first = with_node all sections context table (suc (length stack)) node no_more others place a [] there.front (λ e. absurd (differs e has)) spells leads_on (record { spells = below; shallow = tt; leads_on = tt }) next;
        second = subst (λ (n : ℕ). OpenThere all sections context table stack forests n there.back) len there.second;
      };
      entries_are = ap (λ (es : List RawEntry). entry_of context.unit (Some p) node ∷ es) (
          ap (λ (n : ℕ). preorder context.unit (Some p) n others ++ open_entries context.unit (number + 1 + size others) stack forests) first_is
          ∙ ap (λ (n : ℕ). preorder context.unit (Some p) (number + 1 + size no_more) others ++ open_entries context.unit n stack forests) number_is);
    }

depth_below : (n : ℕ) (c : Bool) → c ≡ true → (c && not (nat_lt n 1000)) ≡ false → n < 1000
depth_below n true has e = ltb-true n 1000 (not-false (nat_lt n 1000) e)
depth_below n false has e = absurd cc

-- an entry of the innermost list
opening_taken : (all : List RawEntry) → AreLow all → (sections : SectionBytes) (context : UnitContext) (table : List Abbrev) (left p : ℕ) (stack : List ℕ) (before : Parsed) (s : Spot) (code : ℕ × Spot) (declared : Abbrev) (read y : Parsed × Spot) → Stands s
    → uleb_at s ≡ Ok code → (code.0 == 0) ≡ false → declared_as code.0 table ≡ Some declared → entry_at sections context (innermost (back (p ∷ stack))) s.place declared before code.1 ≡ Ok read
    → (declared.children && not (nat_lt (length (back (p ∷ stack))) 1000)) ≡ false → is_full before ≡ false
    → children_at sections context table left (read.0, opened declared.children (length before.entries) (back (p ∷ stack))) read.1 ≡ Ok y → Lead all y.0.references
    → ((more : List ℕ) (now : Parsed) (t : Spot) → Stands t → children_at sections context table left (now, back more) t ≡ Ok y → ChildrenTaken all sections context table more now t y)
    → ChildrenTaken all sections context table (p ∷ stack) before s y
opening_taken all low sections context table left p stack before s code declared read y stands coded some found e depth room others h known = opened_taken declared.children refl
  where
    number : ℕ
    number = length before.entries

    entry : entry_at sections context (Some p) s.place declared before code.1 ≡ Ok read
    entry = subst (λ (parent : Option ℕ). entry_at sections context parent s.place declared before code.1 ≡ Ok read) (innermost_back stack p) e

    stands_next : Stands read.1
    stands_next = stands_on code.1 read.1 (stands_on s code.1 stands (uleb_onward s code coded)) (entry_onward sections context (Some p) s.place declared before code.1 read entry)

    -- what the entry and what follows it are together
    joined : (more : List ℕ) (r : ChildrenTaken all sections context table more read.0 read.1 y)
        → ((nd : NodeTaken all sections context table (Some p) declared before s read) → OpenThere all sections context table more r.forests (s.place + length nd.bytes) r.bytes → OpenWith all sections context table p stack s.place (nd.bytes ++ r.bytes) number (entry_of context.unit (Some p) (node_of declared s.place nd.attrs) ∷ open_entries context.unit (number + 1) more r.forests))
        → ChildrenTaken all sections context table (p ∷ stack) before s y
    joined more r with_it =
        let nd = node_taken all low sections context table (Some p) declared before s code read stands coded some found entry (lead_front all read.0.references r.references (subst (Lead all) r.grown h)) in
        let q = nd.passed in
        let first : RawEntry = entry_of context.unit (Some p) (node_of declared s.place nd.attrs) in
        let len : length read.0.entries ≡ number + 1 = ap length nd.entries ∙ omega (arith, length-append before.entries (first ∷ [])) in
        let w = with_it nd (subst (λ (n : ℕ). OpenThere all sections context table more r.forests n r.bytes) q.place r.there) in
        record {
          forests = w.forests;
          bytes = nd.bytes ++ r.bytes;
          there = w.there;
          entries = r.entries
              ∙ ap (λ (n : ℕ). read.0.entries ++ open_entries context.unit n more r.forests) len
              ∙ ap (λ (es : List RawEntry). es ++ open_entries context.unit (number + 1) more r.forests) nd.entries
              ∙ append_assoc before.entries (first ∷ []) (open_entries context.unit (number + 1) more r.forests)
              ∙ ap (λ (es : List RawEntry). before.entries ++ es) w.entries_are;
          references = nd.references ++ r.references;
          grown = r.grown ∙ ap (λ (rs : List Reference). rs ++ r.references) nd.grown ∙ append_assoc before.references nd.references r.references;
          passed = passed_then nd.bytes r.bytes s read.1 y.1 q r.passed;
          few = λ few. r.few (omega (arith, len, has_room before room));
        }

    still : (c : Bool) → declared.children ≡ c → children_at sections context table left (read.0, opened c number (back (p ∷ stack))) read.1 ≡ Ok y
    still c has = subst (λ (b : Bool). children_at sections context table left (read.0, opened b number (back (p ∷ stack))) read.1 ≡ Ok y) has others

    shallow : declared.children ≡ true → suc (length stack) < 1000
    shallow has = omega (arith, length_back (p ∷ stack), depth_below (length (back (p ∷ stack))) declared.children has depth)

    opened_taken : (c : Bool) → declared.children ≡ c → ChildrenTaken all sections context table (p ∷ stack) before s y
    opened_taken true has =
        let r = known (number ∷ p ∷ stack) read.0 read.1 stands_next (still true has) in
        joined (number ∷ p ∷ stack) r (λ nd there. with_list all sections context table p stack s.place (node_of declared s.place nd.attrs) nd.bytes r.bytes number has (shallow has) nd.spells nd.leads_on r.forests there)
    opened_taken false has =
        let r = known (p ∷ stack) read.0 read.1 stands_next (still false has) in
        joined (p ∷ stack) r (λ nd there. with_none all sections context table p stack s.place (node_of declared s.place nd.attrs) nd.bytes r.bytes number has nd.spells nd.leads_on r.forests there)

-- an entry of the innermost list, or its end
step_taken : (all : List RawEntry) → AreLow all → (sections : SectionBytes) (context : UnitContext) (table : List Abbrev) (left : ℕ) (stack : List ℕ) (before : Parsed) (s : Spot) (y : Parsed × Spot) → Stands s → Lead all y.0.references
    → ChildrenSteps sections context table left (before, back stack) s y
    → ((more : List ℕ) (now : Parsed) (t : Spot) → Stands t → children_at sections context table left (now, back more) t ≡ Ok y → ChildrenTaken all sections context table more now t y)
    → ChildrenTaken all sections context table stack before s y
step_taken all low sections context table left [] before s y stands h w known = absurd (differs refl w.still_open)
step_taken all low sections context table left (p ∷ stack) before s y stands h w known =
    let others : Walk × Spot → Type 0 = λ read. children_at sections context table left read.0 read.1 ≡ Ok y in
    elim (child_steps sections context table (before, back (p ∷ stack)) s w.read w.child) [
      | inl c ↦
          let e = subst others (sym c.is) w.others in
          let e2 = subst (λ (lists : List ℕ). children_at sections context table left (before, lists) c.code.1 ≡ Ok y) (closed_back stack p) e in
          closing_taken all sections context table p stack before s c.code y stands c.coded c.zero_is (λ there. known stack before c.code.1 there e2)
      | inr c ↦
          let l = listed_steps sections context c.declared (before, back (p ∷ stack)) s c.code.1 w.read c.listed in
          let e = subst others (sym l.is) w.others in
          opening_taken all low sections context table left p stack before s c.code c.declared l.read y stands c.coded c.some c.found l.entry l.depth l.room e h known
    ]

pub children_taken : (all : List RawEntry) → AreLow all → (sections : SectionBytes) (context : UnitContext) (table : List Abbrev) (left : ℕ) (stack : List ℕ) (before : Parsed) (s : Spot) (y : Parsed × Spot) → Stands s
    → children_at sections context table left (before, back stack) s ≡ Ok y → Lead all y.0.references → ChildrenTaken all sections context table stack before s y
children_taken all low sections context table zero stack before s y stands e h =
    let w = children_end sections context table (before, back stack) s y e in
    none_taken all sections context table stack before s y stands w.0 w.1
children_taken all low sections context table (suc left) stack before s y stands e h =
    elim (children_steps sections context table left (before, back stack) s y e) [
      | inl w ↦ none_taken all sections context table stack before s y stands w.0 w.1
      | inr w ↦ step_taken all low sections context table left stack before s y stands h w (λ more now t there others. children_taken all low sections context table left more now t y there others h)
    ]

-- ---- spelled trees are read

-- how many turns of the reader trees take
abbrev pub turns : Forest → ℕ
turns no_more = 1
turns (tree node kids others) = suc ((if node.declared.children then turns kids else 0) + turns others)

pub length_preorder : (unit : ℕ) (parent : Option ℕ) (number : ℕ) (trees : Forest) → length (preorder unit parent number trees) ≡ size trees
length_preorder unit parent number no_more = refl
length_preorder unit parent number (tree node kids others) =
    omega (arith, length-append (preorder unit (Some number) (number + 1) kids) (preorder unit parent (number + 1 + size kids) others), length_preorder unit (Some number) (number + 1) kids, length_preorder unit parent (number + 1 + size kids) others)

pub leb_some : (bytes : List ℕ) → IsSpelled bytes → 0 < length bytes
leb_some _ (IsSpelled.last b lt) = omega arith
leb_some _ (IsSpelled.more b bs le lt h) = omega arith

bytes_left : (s : Spot) (bytes more : List ℕ) → Stands s → rest s ≡ bytes ++ more → 0 < length bytes → (s.end - s.place == 0) ≡ false
bytes_left s bytes more stands parts some = ne_eqb (s.end - s.place) 0 (λ z. absurd (omega (arith, length_rest s stands, ap length parts, length-append bytes more, some, z)))

one_turn : (sections : SectionBytes) (context : UnitContext) (table : List Abbrev) (n : ℕ) (walk : Walk) (s : Spot) (read : Walk × Spot) → (length walk.1 == 0) ≡ false → (s.end - s.place == 0) ≡ false → child_at sections context table walk s ≡ Ok read
    → children_at sections context table (suc n) walk s ≡ children_at sections context table n read.0 read.1
unfolding children_at
one_turn sections context table n walk s read unclosed some child = rw (unclosed, some, child) refl

pub record TreesGo (all : List RawEntry) (sections : SectionBytes) (context : UnitContext) (table : List Abbrev) (p : ℕ) (stack : List ℕ) (trees : Forest) (before : Parsed) (s : Spot) (bytes more : List ℕ) : Type 0 where
  pub references : List Reference
  pub next : Spot
  pub reads : (n : ℕ) → children_at sections context table (turns trees + n) (before, back (p ∷ stack)) s
      ≡ children_at sections context table n (record { entries = before.entries ++ preorder context.unit (Some p) (length before.entries) trees; references = references }, back stack) next
  pub lead : Lead all references
  pub passed : Passed bytes s next
  pub left : rest next ≡ more

-- the end of a list
end_goes : (all : List RawEntry) (sections : SectionBytes) (context : UnitContext) (table : List Abbrev) (p : ℕ) (stack : List ℕ) (before : Parsed) (s : Spot) (bytes more : List ℕ) → Stands s → IsUleb bytes 0 → Lead all before.references → rest s ≡ bytes ++ more
    → TreesGo all sections context table p stack no_more before s bytes more
unfolding child_at
end_goes all sections context table p stack before s bytes more stands spells lead parts =
    let c = uleb_goes s bytes 0 more stands spells parts in
    let child : child_at sections context table (before, back (p ∷ stack)) s ≡ Ok ((before, closed (back (p ∷ stack))), c.next) = rw c.reads refl in
    let some = bytes_left s bytes more stands parts (leb_some bytes spells.spelled) in
    let same : before ≡ record { entries = before.entries ++ []; references = before.references } = ap (λ (es : List RawEntry). record { entries = es; references = before.references }) (sym (append-nil before.entries)) in
    record {
      references = before.references;
      next = c.next;
      reads = λ n.
          let k : turns no_more + n ≡ suc n = omega arith in
          ap (λ (m : ℕ). children_at sections context table m (before, back (p ∷ stack)) s) k
          ∙ one_turn sections context table n (before, back (p ∷ stack)) s ((before, closed (back (p ∷ stack))), c.next) (some_open stack p) some child
          ∙ ap (λ (lists : List ℕ). children_at sections context table n (before, lists) c.next) (closed_back stack p)
          ∙ ap (λ (b : Parsed). children_at sections context table n (b, back stack) c.next) same;
      lead = lead;
      passed = c.passed;
      left = c.left;
    }

depth_sound : (n : ℕ) (c : Bool) → (c ≡ true → n < 1000) → (c && not (nat_lt n 1000)) ≡ false
depth_sound n true lt = rw (lt-ltb n 1000 (lt refl)) refl
depth_sound n false lt = refl

-- an entry of the innermost list
entry_child : (sections : SectionBytes) (context : UnitContext) (table : List Abbrev) (p : ℕ) (stack : List ℕ) (declared : Abbrev) (before : Parsed) (s : Spot) (code : ℕ × Spot) (read : Parsed × Spot) → uleb_at s ≡ Ok code → (code.0 == 0) ≡ false
    → declared_as code.0 table ≡ Some declared → (declared.children ≡ true → suc (length stack) < 1000) → is_full before ≡ false → entry_at sections context (Some p) s.place declared before code.1 ≡ Ok read
    → child_at sections context table (before, back (p ∷ stack)) s ≡ Ok ((read.0, opened declared.children (length before.entries) (back (p ∷ stack))), read.1)
unfolding child_at listed_at
entry_child sections context table p stack declared before s code read coded some found shallow room entry =
    let depth = depth_sound (length (back (p ∷ stack))) declared.children (λ has. omega (arith, shallow has, length_back (p ∷ stack))) in
    rw (coded, some, found, depth, room, innermost_back stack p, entry) refl

-- trees that are spelled are read
abbrev pub TreesAreRead : List RawEntry → SectionBytes → UnitContext → List Abbrev → Forest → Type 0
TreesAreRead all sections context table trees =
    (p : ℕ) (stack : List ℕ) (before : Parsed) (s : Spot) (bytes more : List ℕ) → Stands s → TreesThere all sections context table (suc (length stack)) trees s.place bytes → Lead all before.references → length before.entries + size trees ≤ 2 ^ 24
    → rest s ≡ bytes ++ more → TreesGo all sections context table p stack trees before s bytes more

pub below_list : (children : Bool) (Kids : ℕ → List ℕ → Type 0) (kids : Forest) (place : ℕ) (bytes : List ℕ) → children ≡ true → SpellsBelow children Kids kids place bytes → Kids place bytes
below_list true Kids kids place bytes has w = w
below_list false Kids kids place bytes has w = absurd (differs has refl)

pub below_none : (children : Bool) (Kids : ℕ → List ℕ → Type 0) (kids : Forest) (place : ℕ) (bytes : List ℕ) → children ≡ false → SpellsBelow children Kids kids place bytes → (kids ≡ no_more) × (bytes ≡ [])
below_none true Kids kids place bytes has w = absurd (differs refl has)
below_none false Kids no_more place bytes has w = (refl, w)
below_none false Kids (tree node more others) place bytes has w = absurd w

abbrev pub parsed : List RawEntry → List Reference → Parsed
parsed entries references = record { entries = entries; references = references }

tree_goes : (all : List RawEntry) → AreLow all → (sections : SectionBytes) (context : UnitContext) (like : context.profile ≡ Input) (table : List Abbrev) (node : Node) (kids others : Forest) (p : ℕ) (stack : List ℕ) (before : Parsed) (s : Spot) (bytes more : List ℕ) → Stands s
    → TreesThere all sections context table (suc (length stack)) (tree node kids others) s.place bytes → Lead all before.references → length before.entries + size (tree node kids others) ≤ 2 ^ 24 → rest s ≡ bytes ++ more
    → TreesAreRead all sections context table kids → TreesAreRead all sections context table others → TreesGo all sections context table p stack (tree node kids others) before s bytes more
tree_goes all low sections context like table node kids others p stack before s bytes more stands there lead room parts read_kids read_others = go node.declared.children refl
  where
    number : ℕ
    number = length before.entries

    first : RawEntry
    first = entry_of context.unit (Some p) node

    spells : SpellsTrees sections (origin_of context) table (tree node kids others) s.place bytes
    spells = there.spells

    a : List ℕ
    a = spells.first.front

    k : List ℕ
    k = spells.first.back

    c : List ℕ
    c = spells.back

    parts_of : bytes ≡ (a ++ k) ++ c
    parts_of = spells.is ∙ ap (λ (b : List ℕ). b ++ c) spells.first.is

    whole : rest s ≡ a ++ (k ++ (c ++ more))
    whole = parts ∙ ap (λ (b : List ℕ). b ++ more) parts_of ∙ append_assoc (a ++ k) c more ∙ append_assoc a k (c ++ more)

    g : NodeGoes all sections context table (Some p) node before s a (k ++ (c ++ more))
    g = node_goes all low sections context like table (Some p) node before s a (k ++ (c ++ more)) stands spells.first.first there.leads_on.0.0 lead whole

    q : Passed a s g.next
    q = g.passed

    one : Parsed
    one = parsed (before.entries ++ first ∷ []) g.references

    len_one : length one.entries ≡ number + 1
    len_one = omega (arith, length-append before.entries (first ∷ []))

    child : child_at sections context table (before, back (p ∷ stack)) s ≡ Ok ((one, opened node.declared.children number (back (p ∷ stack))), g.next)
    child = entry_child sections context table p stack node.declared before s g.code (one, g.next) g.coded g.some g.found there.shallow.0.0 (room_for before (omega (arith, room))) g.reads

    some : (s.end - s.place == 0) ≡ false
    some = let w = spells.first.first.spells in bytes_left s a (k ++ (c ++ more)) stands whole (omega (arith, ap length w.is, length-append w.front w.back, leb_some w.front w.first.spells.spelled))

    -- the first turn, and those that are left
    turn : (b : Bool) → node.declared.children ≡ b → (n rest_of : ℕ) → turns (tree node kids others) + n ≡ suc rest_of
        → children_at sections context table (turns (tree node kids others) + n) (before, back (p ∷ stack)) s ≡ children_at sections context table rest_of (one, opened b number (back (p ∷ stack))) g.next
    turn b has n rest_of count =
        ap (λ (m : ℕ). children_at sections context table m (before, back (p ∷ stack)) s) count
        ∙ one_turn sections context table rest_of (before, back (p ∷ stack)) s ((one, opened node.declared.children number (back (p ∷ stack))), g.next) (some_open stack p) some child
        ∙ ap (λ (v : Bool). children_at sections context table rest_of (one, opened v number (back (p ∷ stack))) g.next) has

    go : (b : Bool) → node.declared.children ≡ b → TreesGo all sections context table p stack (tree node kids others) before s bytes more
    go true has =
        let below = below_list node.declared.children (λ x y. SpellsTrees sections (origin_of context) table kids x y) kids (s.place + length a) k has spells.first.second in
        let kids_there : TreesThere all sections context table (suc (length (p ∷ stack))) kids g.next.place k = record { spells = subst (λ (n : ℕ). SpellsTrees sections (origin_of context) table kids n k) (sym q.place) below; shallow = there.shallow.0.1; leads_on = there.leads_on.0.1 } in
        let gk = read_kids number (p ∷ stack) one g.next k (c ++ more) q.stands kids_there g.lead (omega (arith, len_one, room)) g.left in
        let r = gk.passed in
        let two : Parsed = parsed (one.entries ++ preorder context.unit (Some number) (length one.entries) kids) gk.references in
        let len_two : length two.entries ≡ number + 1 + size kids = omega (arith, length-append one.entries (preorder context.unit (Some number) (length one.entries) kids), length_preorder context.unit (Some number) (length one.entries) kids, len_one) in
        let at : s.place + length spells.front ≡ gk.next.place = omega (arith, ap length spells.first.is, length-append a k, q.place, r.place) in
        let others_there : TreesThere all sections context table (suc (length stack)) others gk.next.place c = record { spells = subst (λ (n : ℕ). SpellsTrees sections (origin_of context) table others n c) at spells.second; shallow = there.shallow.1; leads_on = there.leads_on.1 } in
        let go_on = read_others p stack two gk.next c more r.stands others_there gk.lead (omega (arith, len_two, room)) gk.left in
        let t : (if node.declared.children then turns kids else 0) ≡ turns kids = rw has refl in
        let made : two.entries ++ preorder context.unit (Some p) (length two.entries) others ≡ before.entries ++ preorder context.unit (Some p) number (tree node kids others) =
        ap₂ (λ (m n : ℕ). (one.entries ++ preorder context.unit (Some number) m kids) ++ preorder context.unit (Some p) n others) len_one len_two
        ∙ append_assoc one.entries (preorder context.unit (Some number) (number + 1) kids) (preorder context.unit (Some p) (number + 1 + size kids) others)
        ∙ append_assoc before.entries (first ∷ []) (preorder context.unit (Some number) (number + 1) kids ++ preorder context.unit (Some p) (number + 1 + size kids) others) in
        record {
          references = go_on.references;
          next = go_on.next;
          reads = λ n.
              turn true has n (turns kids + (turns others + n)) (omega (arith, t))
              ∙ gk.reads (turns others + n)
              ∙ go_on.reads n
              ∙ ap (λ (es : List RawEntry). children_at sections context table n (parsed es go_on.references, back stack) go_on.next) made;
          lead = go_on.lead;
          passed = subst (λ (b : List ℕ). Passed b s go_on.next) (sym parts_of) (passed_then (a ++ k) c s gk.next go_on.next (passed_then a k s g.next gk.next q r) go_on.passed);
          left = go_on.left;
        }
    go false has =
        let none = below_none node.declared.children (λ x y. SpellsTrees sections (origin_of context) table kids x y) kids (s.place + length a) k has spells.first.second in
        let left_is : rest g.next ≡ c ++ more = g.left ∙ ap (λ (b : List ℕ). b ++ (c ++ more)) none.1 in
        let at : s.place + length spells.front ≡ g.next.place = omega (arith, ap length spells.first.is, length-append a k, q.place, ap length none.1) in
        let others_there : TreesThere all sections context table (suc (length stack)) others g.next.place c = record { spells = subst (λ (n : ℕ). SpellsTrees sections (origin_of context) table others n c) at spells.second; shallow = there.shallow.1; leads_on = there.leads_on.1 } in
        let go_on = read_others p stack one g.next c more q.stands others_there g.lead (omega (arith, len_one, room)) left_is in
        let t : (if node.declared.children then turns kids else 0) ≡ 0 = rw has refl in
        let no_kids : size kids ≡ 0 = ap size none.0 in
        let first_is : length one.entries ≡ number + 1 + size kids = omega (arith, len_one, no_kids) in
        let made : one.entries ++ preorder context.unit (Some p) (length one.entries) others ≡ before.entries ++ preorder context.unit (Some p) number (tree node kids others) =
        ap (λ (n : ℕ). one.entries ++ preorder context.unit (Some p) n others) first_is
        ∙ append_assoc before.entries (first ∷ []) (preorder context.unit (Some p) (number + 1 + size kids) others)
        ∙ ap (λ (f : Forest). before.entries ++ first ∷ (preorder context.unit (Some number) (number + 1) f ++ preorder context.unit (Some p) (number + 1 + size kids) others)) (sym none.0) in
        record {
          references = go_on.references;
          next = go_on.next;
          reads = λ n.
              turn false has n (turns others + n) (omega (arith, t))
              ∙ go_on.reads n
              ∙ ap (λ (es : List RawEntry). children_at sections context table n (parsed es go_on.references, back stack) go_on.next) made;
          lead = go_on.lead;
          passed = subst (λ (b : List ℕ). Passed b s go_on.next) (sym (parts_of ∙ ap (λ (b : List ℕ). (a ++ b) ++ c) none.1 ∙ ap (λ (b : List ℕ). b ++ c) (append-nil a))) (passed_then a c s g.next go_on.next q go_on.passed);
          left = go_on.left;
        }

pub trees_go : (all : List RawEntry) → AreLow all → (sections : SectionBytes) (context : UnitContext) (like : context.profile ≡ Input) (table : List Abbrev) (trees : Forest) → TreesAreRead all sections context table trees
trees_go all low sections context like table no_more p stack before s bytes more stands there lead room parts = end_goes all sections context table p stack before s bytes more stands there.spells lead parts
trees_go all low sections context like table (tree node kids others) p stack before s bytes more stands there lead room parts =
    tree_goes all low sections context like table node kids others p stack before s bytes more stands there lead room parts (trees_go all low sections context like table kids) (trees_go all low sections context like table others)
