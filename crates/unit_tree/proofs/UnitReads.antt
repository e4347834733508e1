-- What the sections spell is read as an object's units.
use Rattle.std.proofs.Common.{◌≡◌, ℕ, zero, suc, ◌+◌, ◌-◌, ◌^◌, ◌<◌, ◌≤◌, ◌==◌, ◌&&◌, Bool, true, false, not, List, [], ◌∷◌, ◌++◌, length, take, drop, Option, Some, None, Result, Ok, refl, sym, ap, ap₂, subst, ◌∙◌, append_assoc, inl, inr, arith}
use Rattle.std.specs.Prelude.{if◌then◌else◌}
use Rattle.std.specs.List.{find, list_all}
use Rattle.std.proofs.lemmas.Bool.{eq-eqb, lt-ltb, le-ltb}
use Rattle.std.proofs.lemmas.List.{append-nil, length-append, length-drop, take_all, take_at, drop_at, drop-drop}
use Rattle.ds_base.specs.DwarfNumbers.{DW_TAG_compile_unit, DW_UT_compile}
use Rattle.ds_base.specs.declared.fault.Fault.{Fault}
use Rattle.ds_base.specs.Spot.{Spot, rest}
use Rattle.ds_base.specs.Reading.{bytes_at, number_at, uleb_at}
use Rattle.dwarf_types.specs.Spelled.{AreBytes, IsNumber}
use Rattle.dwarf_types.specs.declared.abbrev.Abbrev.{Abbrev}
use Rattle.dwarf_types.specs.declared.entry.RawAttr.{RawAttr}
use Rattle.dwarf_types.specs.declared.entry.RawEntry.{RawEntry}
use Rattle.dwarf_types.specs.declared.entry.InUnit.{InUnit}
use Rattle.dwarf_types.specs.SectionBytes.{SectionBytes}
use Rattle.dwarf_types.proofs.Readers.{Stands, length_rest}
use Rattle.abbrev_read.specs.Reading.{table_at}
use Rattle.abbrev_read.proofs.TableLaws.{table_read}
use Rattle.index_tables.specs.declared.bases.Bases.{Bases}
use Rattle.index_tables.specs.Bases.{bases_in}
use Rattle.unit_tree.specs.declared.attribute.UnitContext.{UnitContext}
use Rattle.unit_tree.specs.declared.profile.Profile.TheVariants.{Input}
use Rattle.unit_tree.specs.declared.header.Header.{Header}
use Rattle.ds_base.specs.DwarfNumbers.{LENGTH_RESERVED}
use Rattle.ds_base.specs.DwarfNumbers.{DWARF_4, DWARF_5, ADDRESS_SIZE}
use Rattle.unit_tree.specs.declared.reference.Reference.{Reference}
use Rattle.unit_tree.specs.Entry.{Parsed, is_split, is_full, entry_at, first_at, bases_at, root_at, tree_at, children_at, opened}
use Rattle.unit_tree.specs.Entry.{declared_as}
use Rattle.unit_tree.specs.Header.{info_at, behind_length, is_bad_length, fields_4_at, fields_5_at, fields_at, header_at}
use Rattle.unit_tree.specs.Reference.{leads, resolved}
use Rattle.unit_tree.specs.Spelling.{Origin, origin_in, SpellsFields, SpellsHeader, Node, Forest, size, entry_of, preorder, UnitTree, unit_entries, entries_of, in_unit, in_units, raw_units, SpellsNode, SpellsBelow, SpellsTrees, SpellsTree, AreZeros, SpellsUnit, SpellsUnits, IsSoundUnit, AreSoundUnits, SpellsObject}
use Rattle.unit_tree.specs.Spelling.Forest.{no_more, tree}
use Rattle.unit_tree.specs.Unit.{context_in, zeros_at, unit_from, unit_at, units_at, parsed_of, units_of, nothing}
use Rattle.unit_tree.proofs.AttrLaws.{Lead, AreLow, both_true, origin_of}
use Rattle.unit_tree.proofs.ChildLoop.{ends}
use Rattle.unit_tree.proofs.Placed.{Passed, passed_then, number_goes}
use Rattle.unit_tree.proofs.RootBases.{RootBases, root_bases, unbased}
use Rattle.unit_tree.proofs.TreeLaws.{back, NodeGoes, node_goes, TreesThere, trees_go, turns, below_list, below_none, leb_some, room_for, parsed, length_preorder}
use Rattle.unit_tree.proofs.UnitLaws.{info_left, info_stands, body_left, body_stands, length_number, unit_is}
use Rattle.unit_tree.proofs.UnitLoop.{units_end, one_more}

-- ---- entries begin inside of the section

low_both : (xs ys : List RawEntry) → AreLow xs → AreLow ys → AreLow (xs ++ ys)
low_both [] ys h k = k
low_both (x ∷ xs) ys h k = (h.0, low_both xs ys h.1 k)

node_low : (sections : SectionBytes) (o : Origin) (table : List Abbrev) (root : Bool) (node : Node) (place : ℕ) (bytes : List ℕ) → SpellsNode sections o table root node place bytes → place + length bytes ≤ 2 ^ 32 - 1 → node.place < 2 ^ 32 - 1
node_low sections o table root node place bytes w le =
    let spelled = w.spells in
    omega (arith, w.there, le, ap length spelled.is, length-append spelled.front spelled.back, leb_some spelled.front spelled.first.spells.spelled)

below_low : (sections : SectionBytes) (o : Origin) (table : List Abbrev) (unit : ℕ) (parent : Option ℕ) (number : ℕ) (children : Bool) (kids : Forest) (at : ℕ) (bytes : List ℕ) → SpellsBelow children (λ p b. SpellsTrees sections o table kids p b) kids at bytes
    → at + length bytes ≤ 2 ^ 32 - 1 → (SpellsTrees sections o table kids at bytes → at + length bytes ≤ 2 ^ 32 - 1 → AreLow (preorder unit parent number kids)) → AreLow (preorder unit parent number kids)
below_low sections o table unit parent number true kids at bytes w le known = known w le
below_low sections o table unit parent number false no_more at bytes w le known = tt
below_low sections o table unit parent number false (tree node more others) at bytes w le known = absurd w

trees_low : (sections : SectionBytes) (o : Origin) (table : List Abbrev) (unit : ℕ) (parent : Option ℕ) (number : ℕ) (trees : Forest) (at : ℕ) (bytes : List ℕ) → SpellsTrees sections o table trees at bytes → at + length bytes ≤ 2 ^ 32 - 1 → AreLow (preorder unit parent number trees)
trees_low sections o table unit parent number no_more at bytes w le = tt
trees_low sections o table unit parent number (tree node kids others) at bytes w le =
    let f = w.first in
    let len = length-append w.front w.back in
    let inner = length-append f.front f.back in (
      node_low sections o table false node at f.front f.first (omega (arith, le, ap length w.is, len, ap length f.is, inner)),
      low_both (preorder unit (Some number) (number + 1) kids) (preorder unit parent (number + 1 + size kids) others)
          (below_low sections o table unit (Some number) (number + 1) node.declared.children kids (at + length f.front) f.back f.second (omega (arith, le, ap length w.is, len, ap length f.is, inner)) (λ spells fits. trees_low sections o table unit (Some number) (number + 1) kids (at + length f.front) f.back spells fits))
          (trees_low sections o table unit parent (number + 1 + size kids) others (at + length w.front) w.back w.second (omega (arith, le, ap length w.is, len))),
    )

unit_low : (sections : SectionBytes) (unit number : ℕ) (t : UnitTree) (place : ℕ) (bytes : List ℕ) → SpellsUnit sections t place bytes → place + length bytes ≤ 2 ^ 32 - 1 → AreLow (unit_entries unit number t)
unit_low sections unit number t place bytes w le =
    let v = w.spells in
    let b = v.second in
    let r = b.first in
    let o : Origin = origin_in place t in
    let four = length_number 4 (length w.body) w.count w.counts in
    let fits : place + 4 + length v.front + length b.front ≤ 2 ^ 32 - 1 =
    omega (arith, le, ap length w.is, length-append w.count w.body, four, ap length v.is, length-append v.front v.back, ap length b.is, length-append b.front b.back) in
    let at : ℕ = place + 4 + length v.front in (
      node_low sections o t.table true t.root at r.front r.first (omega (arith, fits, ap length r.is, length-append r.front r.back)),
      below_low sections o t.table unit (Some number) (number + 1) t.root.declared.children t.kids (at + length r.front) r.back r.second (omega (arith, fits, ap length r.is, length-append r.front r.back)) (λ spells fit. trees_low sections o t.table unit (Some number) (number + 1) t.kids (at + length r.front) r.back spells fit),
    )

units_low : (sections : SectionBytes) (unit number : ℕ) (trees : List UnitTree) (place : ℕ) (bytes : List ℕ) → SpellsUnits sections trees place bytes → place + length bytes ≤ 2 ^ 32 - 1 → AreLow (entries_of unit number trees)
units_low sections unit number [] place bytes w le = tt
units_low sections unit number (t ∷ ts) place bytes w le =
    let len = length-append w.front w.back in
    low_both (unit_entries unit number t) (entries_of (suc unit) (number + 1 + size t.kids) ts)
    (unit_low sections unit number t place w.front w.first (omega (arith, le, ap length w.is, len)))
    (units_low sections (suc unit) (number + 1 + size t.kids) ts (place + length w.front) w.back w.second (omega (arith, le, ap length w.is, len)))

-- ---- trees take no more turns than they have bytes

below_fit : (sections : SectionBytes) (o : Origin) (table : List Abbrev) (children : Bool) (kids : Forest) (at : ℕ) (bytes : List ℕ) → SpellsBelow children (λ p b. SpellsTrees sections o table kids p b) kids at bytes
    → (SpellsTrees sections o table kids at bytes → turns kids ≤ length bytes) → (if children then turns kids else 0) ≤ length bytes
below_fit sections o table true kids at bytes w known = known w
below_fit sections o table false kids at bytes w known = omega arith

turns_fit : (sections : SectionBytes) (o : Origin) (table : List Abbrev) (trees : Forest) (at : ℕ) (bytes : List ℕ) → SpellsTrees sections o table trees at bytes → turns trees ≤ length bytes
turns_fit sections o table no_more at bytes w = leb_some bytes w.spelled
turns_fit sections o table (tree node kids others) at bytes w =
    let f = w.first in
    let n = f.first in
    let s = n.spells in
    let below = below_fit sections o table node.declared.children kids (at + length f.front) f.back f.second (λ spells. turns_fit sections o table kids (at + length f.front) f.back spells) in
    omega (arith, below, turns_fit sections o table others (at + length w.front) w.back w.second, ap length w.is, length-append w.front w.back, ap length f.is, length-append f.front f.back, ap length s.is, length-append s.front s.back, leb_some s.front s.first.spells.spelled)

-- ---- the tree of a unit

record TreeGoes (all : List RawEntry) (start : Spot) (sections : SectionBytes) (context : UnitContext) (t : UnitTree) (before : Parsed) (s : Spot) (bytes more : List ℕ) : Type 0 where
  references : List Reference
  next : Spot
  bases : bases_at start sections (unbased context) t.table before s ≡ Ok (bases_in t.root.attrs)
  reads : tree_at start sections context t.table before s ≡ Ok (parsed (before.entries ++ unit_entries context.unit (length before.entries) t) references, next)
  lead : Lead all references
  passed : Passed bytes s next
  left : rest next ≡ more

first_reads : (start : Spot) (table : List Abbrev) (declared : Abbrev) (before : Parsed) (s : Spot) (code : ℕ × Spot) → uleb_at s ≡ Ok code → (code.0 == 0) ≡ false
    → declared_as code.0 table ≡ Some declared → declared.tag ≡ DW_TAG_compile_unit → is_split declared ≡ false → is_full before ≡ false → first_at start table before s ≡ Ok (declared, code.1)
unfolding first_at
first_reads start table declared before s code coded some found unit whole room =
    rw (coded, some, found, eq-eqb declared.tag DW_TAG_compile_unit unit, whole, room) refl

root_reads : (start : Spot) (sections : SectionBytes) (context : UnitContext) (table : List Abbrev) (declared : Abbrev) (before : Parsed) (s behind : Spot) (read : Parsed × Spot) → first_at start table before s ≡ Ok (declared, behind)
    → entry_at sections context None s.place declared before behind ≡ Ok read → root_at start sections context table before s ≡ Ok ((declared.children, read.0), read.1)
unfolding root_at
root_reads start sections context table declared before s behind read first entry = rw (first, entry) refl

bases_read : (start : Spot) (sections : SectionBytes) (context : UnitContext) (table : List Abbrev) (declared : Abbrev) (before : Parsed) (s behind : Spot) (attrs : List RawAttr) → first_at start table before s ≡ Ok (declared, behind)
    → RootBases sections context declared behind attrs → bases_at start sections (unbased context) table before s ≡ Ok (bases_in attrs)
unfolding bases_at
bases_read start sections context table declared before s behind attrs first known = rw (first, known.reads) (ap (λ (b : Bases). Ok b) known.same)

tree_reads : (start : Spot) (sections : SectionBytes) (context : UnitContext) (table : List Abbrev) (before : Parsed) (s : Spot) (root : (Bool × Parsed) × Spot) → root_at start sections context table before s ≡ Ok root
    → tree_at start sections context table before s ≡ children_at sections context table (root.1.end - root.1.place) (root.0.1, opened root.0.0 (length before.entries) []) root.1
unfolding tree_at
tree_reads start sections context table before s root first = rw first refl

unit_tree_goes : (all : List RawEntry) → AreLow all → (start : Spot) (sections : SectionBytes) (context : UnitContext) (like : context.profile ≡ Input) (t : UnitTree) (before : Parsed) (s : Spot) (bytes more : List ℕ) → Stands s → SpellsTree sections (origin_of context) t s.place bytes → IsSoundUnit all context.unit t
    → t.root.declared.tag ≡ DW_TAG_compile_unit → is_split t.root.declared ≡ false → Lead all before.references → length before.entries + 1 + size t.kids ≤ 2 ^ 24 → rest s ≡ bytes ++ more → TreeGoes all start sections context t before s bytes more
unit_tree_goes all low start sections context like t before s bytes more stands spells sound unit whole lead room parts = go t.root.declared.children refl
  where
    number : ℕ
    number = length before.entries

    first : RawEntry
    first = entry_of context.unit None t.root

    a : List ℕ
    a = spells.front

    k : List ℕ
    k = spells.back

    whole_is : rest s ≡ a ++ (k ++ more)
    whole_is = parts ∙ ap (λ (b : List ℕ). b ++ more) spells.is ∙ append_assoc a k more

    g : NodeGoes all sections context t.table None t.root before s a (k ++ more)
    g = node_goes all low sections context like t.table None t.root before s a (k ++ more) stands spells.first sound.root_leads lead whole_is

    q : Passed a s g.next
    q = g.passed

    one : Parsed
    one = parsed (before.entries ++ first ∷ []) g.references

    len_one : length one.entries ≡ number + 1
    len_one = omega (arith, length-append before.entries (first ∷ []))

    head : first_at start t.table before s ≡ Ok (t.root.declared, g.code.1)
    head = first_reads start t.table t.root.declared before s g.code g.coded g.some g.found unit whole (room_for before (omega (arith, room)))

    root : root_at start sections context t.table before s ≡ Ok ((t.root.declared.children, one), g.next)
    root = root_reads start sections context t.table t.root.declared before s g.code.1 (one, g.next) head g.reads

    bases_are : bases_at start sections (unbased context) t.table before s ≡ Ok (bases_in t.root.attrs)
    bases_are = bases_read start sections context t.table t.root.declared before s g.code.1 t.root.attrs head (root_bases sections context s.place t.root.declared before g.code.1 t.root (one, g.next) g.reads refl)

    reads : (c : Bool) → t.root.declared.children ≡ c → tree_at start sections context t.table before s ≡ children_at sections context t.table (g.next.end - g.next.place) (one, opened c number []) g.next
    reads c has =
        tree_reads start sections context t.table before s ((t.root.declared.children, one), g.next) root
        ∙ ap (λ (v : Bool). children_at sections context t.table (g.next.end - g.next.place) (one, opened v number []) g.next) has

    go : (b : Bool) → t.root.declared.children ≡ b → TreeGoes all start sections context t before s bytes more
    go true has =
        let below = below_list t.root.declared.children (λ x y. SpellsTrees sections (origin_of context) t.table t.kids x y) t.kids (s.place + length a) k has spells.second in
        let here = subst (λ (n : ℕ). SpellsTrees sections (origin_of context) t.table t.kids n k) (sym q.place) below in
        let there : TreesThere all sections context t.table 1 t.kids g.next.place k = record { spells = here; shallow = sound.shallow; leads_on = sound.kids_lead } in
        let gk = trees_go all low sections context like t.table t.kids number [] one g.next k more q.stands there g.lead (omega (arith, len_one, room)) g.left in
        let fuel : ℕ = g.next.end - g.next.place in
        let enough : turns t.kids ≤ fuel = omega (arith, turns_fit sections (origin_of context) t.table t.kids g.next.place k here, length_rest g.next q.stands, ap length g.left, length-append k more) in
        let count : fuel ≡ turns t.kids + (fuel - turns t.kids) = omega (arith, enough) in
        let two : Parsed = parsed (one.entries ++ preorder context.unit (Some number) (length one.entries) t.kids) gk.references in
        record {
          references = gk.references;
          next = gk.next;
          bases = bases_are;
          reads = reads true has
              ∙ ap (λ (n : ℕ). children_at sections context t.table n (one, back (number ∷ [])) g.next) count
              ∙ gk.reads (fuel - turns t.kids)
              ∙ ends sections context t.table (fuel - turns t.kids) (two, []) gk.next refl
              ∙ ap (λ (es : List RawEntry). Ok (parsed es gk.references, gk.next)) (ap (λ (n : ℕ). one.entries ++ preorder context.unit (Some number) n t.kids) len_one ∙ append_assoc before.entries (first ∷ []) (preorder context.unit (Some number) (number + 1) t.kids));
          lead = gk.lead;
          passed = subst (λ (b : List ℕ). Passed b s gk.next) (sym spells.is) (passed_then a k s g.next gk.next q gk.passed);
          left = gk.left;
        }
    go false has =
        let none = below_none t.root.declared.children (λ x y. SpellsTrees sections (origin_of context) t.table t.kids x y) t.kids (s.place + length a) k has spells.second in
        record {
          references = g.references;
          next = g.next;
          bases = bases_are;
          reads = reads false has ∙ ends sections context t.table (g.next.end - g.next.place) (one, []) g.next refl ∙ ap (λ (f : Forest). Ok (parsed (before.entries ++ first ∷ preorder context.unit (Some number) (number + 1) f) g.references, g.next)) (sym none.0);
          lead = g.lead;
          passed = subst (λ (b : List ℕ). Passed b s g.next) (sym (spells.is ∙ ap (λ (b : List ℕ). a ++ b) none.1 ∙ append-nil a)) q;
          left = g.left ∙ ap (λ (b : List ℕ). b ++ more) none.1;
        }

-- ---- a unit

fields_4_read : (sections : SectionBytes) (first s : Spot) (table size : ℕ × Spot) → number_at 4 s ≡ Ok table → table.0 < length sections.abbrev_ → number_at 1 table.1 ≡ Ok size → size.0 ≡ ADDRESS_SIZE → fields_4_at sections first s ≡ Ok (table.0, size.1)
unfolding fields_4_at
fields_4_read sections first s table size table_is inside size_is eight = rw (table_is, lt-ltb table.0 (length sections.abbrev_) inside, size_is, eq-eqb size.0 ADDRESS_SIZE eight) refl

fields_5_read : (sections : SectionBytes) (first s : Spot) (kind size table : ℕ × Spot) → number_at 1 s ≡ Ok kind → kind.0 ≡ DW_UT_compile → number_at 1 kind.1 ≡ Ok size → size.0 ≡ ADDRESS_SIZE → number_at 4 size.1 ≡ Ok table → table.0 < length sections.abbrev_
    → fields_5_at sections first s ≡ Ok table
unfolding fields_5_at
fields_5_read sections first s kind size table kind_is compile size_is eight table_is inside =
    rw (kind_is, eq-eqb kind.0 DW_UT_compile compile, size_is, eq-eqb size.0 ADDRESS_SIZE eight, table_is, lt-ltb table.0 (length sections.abbrev_) inside) refl

abbrev fields_by : SectionBytes → Spot → ℕ → Spot → Result (ℕ × Spot) Fault
fields_by sections first version s = if version == DWARF_5 then fields_5_at sections first s else fields_4_at sections first s

abbrev is_unknown : ℕ → Bool
is_unknown version = not (version == DWARF_4) && not (version == DWARF_5)

-- what is spelled of the fields behind the version is read
record FieldsGo (sections : SectionBytes) (first : Spot) (version offset : ℕ) (s : Spot) (bytes tail : List ℕ) : Type 0 where
  known : is_unknown version ≡ false
  next : Spot
  reads : fields_by sections first version s ≡ Ok (offset, next)
  passed : Passed bytes s next
  left : rest next ≡ tail

fields_go : (sections : SectionBytes) (first : Spot) (version offset : ℕ) (s : Spot) (bytes tail : List ℕ) → Stands s → SpellsFields version offset bytes → offset < length sections.abbrev_ → rest s ≡ bytes ++ tail → FieldsGo sections first version offset s bytes tail
fields_go sections first version offset s bytes tail stands spells below parts =
    elim spells [
      | inl four ↦
          let w = four.1 in
          let here : rest s ≡ w.front ++ (w.back ++ tail) = parts ∙ ap (λ (b : List ℕ). b ++ tail) w.is ∙ append_assoc w.front w.back tail in
          let t = number_goes 4 s w.front offset (w.back ++ tail) stands w.first here in
          let tp = t.passed in
          let z = number_goes 1 t.next w.back ADDRESS_SIZE tail tp.stands w.second t.left in
          let reads = fields_4_read sections first s (offset, t.next) (ADDRESS_SIZE, z.next) t.reads below z.reads refl in
          record {
            known = subst (λ (v : ℕ). is_unknown v ≡ false) (sym four.0) refl;
            next = z.next;
            reads = subst (λ (v : ℕ). fields_by sections first v s ≡ Ok (offset, z.next)) (sym four.0) reads;
            passed = subst (λ (b : List ℕ). Passed b s z.next) (sym w.is) (passed_then w.front w.back s t.next z.next tp z.passed);
            left = z.left;
          }
      | inr five ↦
          let w = five.1 in
          let v = w.second in
          let here : rest s ≡ w.front ++ (w.back ++ tail) = parts ∙ ap (λ (b : List ℕ). b ++ tail) w.is ∙ append_assoc w.front w.back tail in
          let k = number_goes 1 s w.front DW_UT_compile (w.back ++ tail) stands w.first here in
          let kp = k.passed in
          let there : rest k.next ≡ v.front ++ (v.back ++ tail) = k.left ∙ ap (λ (b : List ℕ). b ++ tail) v.is ∙ append_assoc v.front v.back tail in
          let z = number_goes 1 k.next v.front ADDRESS_SIZE (v.back ++ tail) kp.stands v.first there in
          let zp = z.passed in
          let t = number_goes 4 z.next v.back offset tail zp.stands v.second z.left in
          let reads = fields_5_read sections first s (DW_UT_compile, k.next) (ADDRESS_SIZE, z.next) (offset, t.next) k.reads refl z.reads refl t.reads below in
          let back = subst (λ (b : List ℕ). Passed b k.next t.next) (sym v.is) (passed_then v.front v.back k.next z.next t.next zp t.passed) in
          record {
            known = subst (λ (n : ℕ). is_unknown n ≡ false) (sym five.0) refl;
            next = t.next;
            reads = subst (λ (n : ℕ). fields_by sections first n s ≡ Ok (offset, t.next)) (sym five.0) reads;
            passed = subst (λ (b : List ℕ). Passed b s t.next) (sym w.is) (passed_then w.front w.back s k.next t.next kp back);
            left = t.left;
          }
    ]

-- what is spelled of a header is read
record HeaderGoes (sections : SectionBytes) (t : UnitTree) (place : ℕ) (body : List ℕ) (tail : List ℕ) : Type 0 where
  next : Spot
  reads : header_at sections place ≡ Ok (record { version = t.version; table = t.offset; end = place + 4 + length body }, next)
  stands : Stands next
  left : rest next ≡ tail
  end : next.end ≡ place + 4 + length body

header_reads : (sections : SectionBytes) (place : ℕ) (len version table : ℕ × Spot) → number_at 4 (info_at sections place) ≡ Ok len → is_bad_length sections place len.0 ≡ false → number_at 2 (behind_length sections place len.0) ≡ Ok version
    → is_unknown version.0 ≡ false → fields_by sections (info_at sections place) version.0 version.1 ≡ Ok table → header_at sections place ≡ Ok (record { version = version.0; table = table.0; end = place + 4 + len.0 }, table.1)
unfolding header_at fields_at
header_reads sections place len version table length_is sound version_is known fields = rw (length_is, sound, version_is, known, fields) refl

header_goes : (sections : SectionBytes) (t : UnitTree) (place : ℕ) (count body more h tail : List ℕ) → AreBytes sections.info → place ≤ length sections.info → drop place sections.info ≡ (count ++ body) ++ more → IsNumber 4 count (length body)
    → length body < LENGTH_RESERVED → body ≡ h ++ tail → SpellsHeader t.version t.offset h → t.offset < length sections.abbrev_ → HeaderGoes sections t place body tail
header_goes sections t place count body more h tail info le parts counts short body_is spells below =
    let len : ℕ = length body in
    let four = length_number 4 len count counts in
    let first : Spot = info_at sections place in
    let whole : drop place sections.info ≡ count ++ (body ++ more) = parts ∙ append_assoc count body more in
    let fits : place + 4 + len ≤ length sections.info = omega (arith, le, four, ap length whole, length-append count (body ++ more), length-append body more, length-drop place sections.info) in
    let c = number_goes 4 first count len (body ++ more) (info_stands sections place info le) counts (info_left sections place ∙ whole) in
    let s : Spot = behind_length sections place len in
    let from : drop (place + 4) sections.info ≡ body ++ more = sym (drop-drop 4 place sections.info) ∙ ap (drop 4) whole ∙ drop_at count (body ++ more) 4 four in
    let here : rest s ≡ spells.front ++ (spells.back ++ tail) = body_left sections place len ∙ ap (take len) from ∙ take_at body more len refl ∙ body_is ∙ ap (λ (b : List ℕ). b ++ tail) spells.is ∙ append_assoc spells.front spells.back tail in
    let gv = number_goes 2 s spells.front t.version (spells.back ++ tail) (body_stands sections place len info fits) spells.first here in
    let pv = gv.passed in
    let f = fields_go sections first t.version t.offset gv.next spells.back tail pv.stands spells.second below gv.left in
    let pf = f.passed in
    let sound : is_bad_length sections place len ≡ false = rw (lt-ltb len LENGTH_RESERVED short, le-ltb (length sections.info - (place + 4)) len (omega (arith, fits))) refl in
    record {
      next = f.next;
      reads = header_reads sections place (len, c.next) (t.version, gv.next) (t.offset, f.next) c.reads sound gv.reads f.known f.reads;
      stands = pf.stands;
      left = f.left;
      end = pf.end ∙ pv.end;
    }

zeros_read : (start s : Spot) (zeros : List ℕ) → Stands s → rest s ≡ zeros → AreZeros zeros → zeros_at start s ≡ Ok tt
unfolding zeros_at bytes_at
zeros_read start s zeros stands left empty =
    let n : ℕ = s.end - s.place in
    let all : take n (rest s) ≡ zeros = take_all n (rest s) (omega (arith, length_rest s stands)) ∙ left in
    rw (le-ltb n n (omega arith), all, empty) refl

record UnitGoes (all : List RawEntry) (sections : SectionBytes) (number : ℕ) (t : UnitTree) (before : Parsed) (place : ℕ) (bytes : List ℕ) : Type 0 where
  references : List Reference
  reads : unit_at Input sections number before place ≡ Ok ((in_unit (length before.entries) t, parsed (before.entries ++ unit_entries number (length before.entries) t) references), place + length bytes)
  lead : Lead all references

unit_reads : (sections : SectionBytes) (number : ℕ) (before : Parsed) (place : ℕ) (header : Header × Spot) (table : List Abbrev) (bases : Bases) (read : Parsed × Spot) → header_at sections place ≡ Ok header → table_at sections.abbrev_ header.0.table ≡ Ok table
    → bases_at (info_at sections place) sections (context_in Input number place header.0.version None) table before header.1 ≡ Ok bases
    → tree_at (info_at sections place) sections (context_in Input number place header.0.version (Some bases)) table before header.1 ≡ Ok read → zeros_at (info_at sections place) read.1 ≡ Ok tt
    → unit_at Input sections number before place ≡ Ok ((unit_from header.0.version (length before.entries) read.0.entries, read.0), header.0.end)
unfolding unit_at
unit_reads sections number before place header table bases read a b c d e = rw (a, b, c, d, e) refl

unit_goes : (all : List RawEntry) → AreLow all → (sections : SectionBytes) (number : ℕ) (t : UnitTree) (before : Parsed) (place : ℕ) (bytes more : List ℕ) → AreBytes sections.info → AreBytes sections.abbrev_ → place ≤ length sections.info → SpellsUnit sections t place bytes
    → drop place sections.info ≡ bytes ++ more → IsSoundUnit all number t → Lead all before.references → length before.entries + 1 + size t.kids ≤ 2 ^ 24 → UnitGoes all sections number t before place bytes
unit_goes all low sections number t before place bytes more info abbrev_bytes le w parts sound lead room =
    let v = w.spells in
    let b = v.second in
    let body : w.body ≡ v.front ++ (b.front ++ b.back) = v.is ∙ ap (λ (xs : List ℕ). v.front ++ xs) b.is in
    let hd = header_goes sections t place w.count w.body more v.front (b.front ++ b.back) info le (parts ∙ ap (λ (xs : List ℕ). xs ++ more) w.is) w.counts w.short body v.first w.inside in
    let len : length w.body ≡ length v.front + length (b.front ++ b.back) = omega (arith, ap length body, length-append v.front (b.front ++ b.back)) in
    let before_end = hd.stands in
    let in_order = before_end.place in
    let at : place + 4 + length v.front ≡ hd.next.place = omega (arith, hd.end, len, length_rest hd.next hd.stands, ap length hd.left, in_order.before_end) in
    let context : UnitContext = context_in Input number place t.version (Some (bases_in t.root.attrs)) in
    let tg = unit_tree_goes all low (info_at sections place) sections context refl t before hd.next b.front b.back hd.stands (subst (λ (n : ℕ). SpellsTree sections (origin_in place t) t n b.front) at b.first) sound w.is_unit w.whole lead room hd.left in
    let tp = tg.passed in
    let entries : List RawEntry = before.entries ++ unit_entries number (length before.entries) t in
    let table = table_read sections.abbrev_ t.offset t.table w.inside abbrev_bytes w.table in
    let four = length_number 4 (length w.body) w.count w.counts in
    let end : place + 4 + length w.body ≡ place + length bytes = omega (arith, ap length w.is, length-append w.count w.body, four) in
    record {
      references = tg.references;
      reads = unit_reads sections number before place (record { version = t.version; table = t.offset; end = place + 4 + length w.body }, hd.next) t.table (bases_in t.root.attrs) (parsed entries tg.references, tg.next) hd.reads table tg.bases tg.reads
          (zeros_read (info_at sections place) tg.next b.back tp.stands tg.left b.second)
          ∙ ap₂ (λ (u : InUnit) (n : ℕ). Ok ((u, parsed entries tg.references), n)) (unit_is number before.entries entries t refl) end;
      lead = tg.lead;
    }

-- ---- all units

record UnitsGo (all : List RawEntry) (sections : SectionBytes) (trees : List UnitTree) (left : ℕ) (units : List InUnit) (before : Parsed) (place : ℕ) : Type 0 where
  references : List Reference
  reads : units_at Input sections left units before place ≡ Ok (units ++ in_units (length before.entries) trees, parsed (before.entries ++ entries_of (length units) (length before.entries) trees) references)
  lead : Lead all references

units_go : (all : List RawEntry) → AreLow all → (sections : SectionBytes) (trees : List UnitTree) (left : ℕ) (units : List InUnit) (before : Parsed) (place : ℕ) → AreBytes sections.info → AreBytes sections.abbrev_ → place ≤ length sections.info
    → length sections.info < left + place → SpellsUnits sections trees place (drop place sections.info) → AreSoundUnits all (length units) trees → Lead all before.references
    → length before.entries + length (entries_of (length units) (length before.entries) trees) ≤ 2 ^ 24 → UnitsGo all sections trees left units before place
units_go all low sections trees zero units before place info abbrev_bytes le enough w sound lead room = absurd (omega (arith, le, enough))
units_go all low sections [] (suc left) units before place info abbrev_bytes le enough w sound lead room =
    let last : place ≡ length sections.info = omega (arith, le, ap length w, length-drop place sections.info) in
    record {
      references = before.references;
      reads = units_end sections left units before place last ∙ ap₂ (λ (us : List InUnit) (es : List RawEntry). Ok (us, parsed es before.references)) (sym (append-nil units)) (sym (append-nil before.entries));
      lead = lead;
    }
units_go all low sections (t ∷ ts) (suc left) units before place info abbrev_bytes le enough w sound lead room =
    let first = w.first in
    let number : ℕ = length before.entries in
    let own : List RawEntry = unit_entries (length units) number t in
    let own_len : length own ≡ 1 + size t.kids = omega (arith, length_preorder (length units) (Some number) (number + 1) t.kids) in
    let some : 4 ≤ length w.front = omega (arith, ap length first.is, length-append first.count first.body, length_number 4 (length first.body) first.count first.counts) in
    let len : length sections.info ≡ place + length w.front + length w.back = omega (arith, le, ap length w.is, length-append w.front w.back, length-drop place sections.info) in
    let all_len = length-append own (entries_of (suc (length units)) (number + 1 + size t.kids) ts) in
    let u = unit_goes all low sections (length units) t before place w.front w.back info abbrev_bytes le w.first w.is sound.0 lead (omega (arith, room, own_len, all_len)) in
    let unit : InUnit = in_unit number t in
    let now : Parsed = parsed (before.entries ++ own) u.references in
    let next : ℕ = place + length w.front in
    let count : length (units ++ unit ∷ []) ≡ suc (length units) = omega (arith, length-append units (unit ∷ [])) in
    let now_len : length now.entries ≡ number + 1 + size t.kids = omega (arith, length-append before.entries own, own_len) in
    let rest_is : drop next sections.info ≡ w.back = sym (drop-drop (length w.front) place sections.info) ∙ ap (drop (length w.front)) w.is ∙ drop_at w.front w.back (length w.front) refl in
    let spells = subst (SpellsUnits sections ts next) (sym rest_is) w.second in
    let few : length now.entries + length (entries_of (length (units ++ unit ∷ [])) (length now.entries) ts) ≤ 2 ^ 24 =
    subst (λ (n : ℕ). length now.entries + length (entries_of n (length now.entries) ts) ≤ 2 ^ 24) (sym count)
    (subst (λ (n : ℕ). length now.entries + length (entries_of (suc (length units)) n ts) ≤ 2 ^ 24) (sym now_len) (omega (arith, room, all_len, now_len, own_len))) in
    let r = units_go all low sections ts left (units ++ unit ∷ []) now next info abbrev_bytes (omega (arith, len)) (omega (arith, enough, some)) spells (subst (λ (n : ℕ). AreSoundUnits all n ts) (sym count) sound.1) u.lead few in
    record {
      references = r.references;
      reads = one_more sections left units before place ((unit, now), next) (omega (arith, len, some)) u.reads
          ∙ r.reads
          ∙ ap₂ (λ (us : List InUnit) (es : List RawEntry). Ok (us, parsed es r.references))
          (append_assoc units (unit ∷ []) (in_units (length now.entries) ts) ∙ ap (λ (n : ℕ). units ++ unit ∷ in_units n ts) now_len)
          (ap (λ (n : ℕ). now.entries ++ entries_of n (length now.entries) ts) count ∙ ap (λ (n : ℕ). now.entries ++ entries_of (suc (length units)) n ts) now_len
          ∙ append_assoc before.entries own (entries_of (suc (length units)) (number + 1 + size t.kids) ts));
      lead = r.lead;
    }

-- ---- an object

none_found : (entries : List RawEntry) (references : List Reference) → Lead entries references → find (λ r. not (leads entries r)) references ≡ None
none_found entries [] lead = refl
none_found entries (r ∷ references) lead =
    let b = both_true (leads entries r) (list_all (leads entries) references) lead in
    rw b.0 (none_found entries references b.1)

all_resolved : (entries : List RawEntry) (references : List Reference) → Lead entries references → resolved entries references ≡ Ok entries
unfolding resolved
all_resolved entries references lead = rw (none_found entries references lead) refl

object_reads : (sections : SectionBytes) (units : List InUnit) (entries : List RawEntry) (references : List Reference) → parsed_of sections ≡ Ok (units, parsed entries references) → resolved entries references ≡ Ok entries
    → units_of sections ≡ Ok (record { units = units; entries = entries })
unfolding units_of
object_reads sections units entries references a b = rw (a, b) refl

pub units_read : (sections : SectionBytes) (trees : List UnitTree) → length sections.info < 2 ^ 32 → AreBytes sections.info → AreBytes sections.abbrev_ → SpellsObject sections trees → units_of sections ≡ Ok (raw_units trees)
units_read sections trees small info abbrev_bytes w =
    let all : List RawEntry = entries_of 0 0 trees in
    let low = units_low sections 0 0 trees 0 sections.info w.spells (omega (arith, small)) in
    let u = units_go all low sections trees (suc (length sections.info)) [] nothing 0 info abbrev_bytes (omega arith) (omega arith) w.spells w.sound refl (omega (arith, w.few)) in
    object_reads sections (in_units 0 trees) all u.references u.reads (all_resolved all u.references u.lead)
