-- What is read of an object's units is spelled so.
use Rattle.std.proofs.Common.{◌≡◌, ℕ, zero, suc, ◌+◌, ◌-◌, ◌^◌, ◌<◌, ◌≤◌, ◌==◌, Bool, true, false, not, List, [], ◌∷◌, ◌++◌, length, take, drop, get_or, Option, Some, None, Result, Ok, Err, refl, sym, ap, ap₂, subst, cond, ◌∙◌, append_assoc, inl, inr, arith}
use Rattle.std.specs.Prelude.{nat_lt, slice_get}
use Rattle.std.specs.List.{find, list_all}
use Rattle.std.specs.Option.{option_map_or}
use Rattle.std.proofs.lemmas.Bool.{eqb-true, ltb-true, ltb-false, not-false}
use Rattle.std.proofs.lemmas.List.{append-nil, length-append, length-take, length-drop, take_all, drop_all, drop-drop, take-append-drop}
use Rattle.byteorder.specs.Numbers.{length-bytes_low_first}
use Rattle.ds_base.specs.DwarfNumbers.{DW_TAG_compile_unit, DW_UT_compile}
use Rattle.ds_base.specs.declared.fault.Fault.{Fault}
use Rattle.ds_base.specs.declared.fault.Kind.TheVariants as kinds
use Rattle.ds_base.specs.declared.fault.Part.TheVariants.{Info}
use Rattle.ds_base.specs.Spot.{Spot, rest, after, fault_at}
use Rattle.ds_base.specs.Reading.{◌>>=◌, bytes_at}
use Rattle.dwarf_types.specs.Spelled.{AreBytes, IsNumber}
use Rattle.dwarf_types.specs.declared.abbrev.Abbrev.{Abbrev}
use Rattle.dwarf_types.specs.declared.entry.RawEntry.{RawEntry}
use Rattle.dwarf_types.specs.declared.entry.InUnit.{InUnit}
use Rattle.dwarf_types.specs.declared.entry.RawUnits.{RawUnits}
use Rattle.dwarf_types.specs.SectionBytes.{SectionBytes}
use Rattle.ds_base.proofs.Passing.{bind_ok, guard_ok, ok_is}
use Rattle.dwarf_types.proofs.Readers.{IsBytes, IsBytes-drop, IsBytes-take, IsBytes-from, Stands}
use Rattle.abbrev_read.proofs.TableLaws.{table_spelled}
use Rattle.index_tables.specs.declared.bases.Bases.{Bases}
use Rattle.index_tables.specs.Bases.{bases_in}
use Rattle.unit_tree.specs.declared.attribute.UnitContext.{UnitContext}
use Rattle.unit_tree.specs.declared.profile.Profile.TheVariants.{Input}
use Rattle.unit_tree.specs.declared.header.Header.{Header}
use Rattle.ds_base.specs.DwarfNumbers.{LENGTH_RESERVED}
use Rattle.ds_base.specs.DwarfNumbers.{ADDRESS_SIZE}
use Rattle.unit_tree.specs.declared.reference.Reference.{Reference}
use Rattle.unit_tree.specs.Attribute.{Described, attrs_at}
use Rattle.unit_tree.specs.Entry.{Parsed, is_split, opened, first_at, bases_at, tree_at, children_at}
use Rattle.unit_tree.specs.Header.{info_at, behind_length}
use Rattle.unit_tree.specs.Reference.{leads, resolved}
use Rattle.unit_tree.specs.Spelling.{Origin, origin_in, SpellsFields, SpellsHeader, Node, Forest, size, entry_of, preorder, UnitTree, unit_entries, entries_of, in_unit, in_units, raw_units, InTurnFrom, SpellsNode, SpellsBelow, SpellsTrees, IsShallow, NodeLeads, TreesLead, SpellsTree, AreZeros, SpellsBody, SpellsUnit, SpellsUnits, IsSoundUnit, AreSoundUnits, IsSpelled}
use Rattle.unit_tree.specs.Spelling.Forest.{no_more}
use Rattle.unit_tree.specs.Unit.{context_in, is_zero, unit_from, unit_at, units_at, parsed_of, units_of, nothing}
use Rattle.unit_tree.proofs.AttrLaws.{Lead, AreLow, lead_front, origin_of}
use Rattle.unit_tree.proofs.RootBases.{RootBases, root_bases, unbased}
use Rattle.unit_tree.proofs.Placed.{Passed, passed_then, stands_on, number_taken}
use Rattle.unit_tree.proofs.Rising.{entry_onward, both_false, unit_passes, units_rise}
use Rattle.ds_base.proofs.Onward.{uleb_onward, number_onward}
use Rattle.unit_tree.proofs.Steps.{RootSteps, root_steps, bases_steps, tree_steps, FieldsSteps, HeaderSteps, header_steps, unit_steps, some_left, UnitsSteps, units_steps}
use Rattle.unit_tree.proofs.TreeLaws.{node_of, node_taken, OpenThere, open_entries, ChildrenTaken, children_taken, has_room, length_preorder}

-- ---- the tree of a unit

record TreeTaken (all : List RawEntry) (start : Spot) (sections : SectionBytes) (context : UnitContext) (table : List Abbrev) (before : Parsed) (s : Spot) (y : Parsed × Spot) : Type 0 where
  root : Node
  behind : Spot
  first : first_at start table before s ≡ Ok (root.declared, behind)
  bases : RootBases sections context root.declared behind root.attrs
  kids : Forest
  bytes : List ℕ
  spells : InTurnFrom (SpellsNode sections (origin_of context) table true root) (SpellsBelow root.declared.children (λ p b. SpellsTrees sections (origin_of context) table kids p b) kids) s.place bytes
  shallow : IsShallow 1 kids
  root_leads : NodeLeads all context.unit root
  kids_lead : TreesLead all context.unit kids
  is_unit : root.declared.tag ≡ DW_TAG_compile_unit
  whole : is_split root.declared ≡ false
  entries : y.0.entries ≡ before.entries ++ (entry_of context.unit None root ∷ preorder context.unit (Some (length before.entries)) (length before.entries + 1) kids)
  references : List Reference
  grown : y.0.references ≡ before.references ++ references
  passed : Passed bytes s y.1
  few : length y.0.entries ≤ 2 ^ 24

-- what is below a root
record BelowRoot (all : List RawEntry) (sections : SectionBytes) (context : UnitContext) (table : List Abbrev) (children : Bool) (number place : ℕ) (bytes : List ℕ) (entries : List RawEntry) : Type 0 where
  kids : Forest
  spells : SpellsBelow children (λ p b. SpellsTrees sections (origin_of context) table kids p b) kids place bytes
  shallow : IsShallow 1 kids
  leads_on : TreesLead all context.unit kids
  entries_are : entries ≡ preorder context.unit (Some number) (number + 1) kids

one_list : (all : List RawEntry) (sections : SectionBytes) (context : UnitContext) (table : List Abbrev) (number place : ℕ) (bytes : List ℕ) (forests : List Forest) → OpenThere all sections context table (number ∷ []) forests place bytes
    → BelowRoot all sections context table true number place bytes (open_entries context.unit (number + 1) (number ∷ []) forests)
one_list all sections context table number place bytes [] there = absurd there
one_list all sections context table number place bytes (kids ∷ []) there =
    let k = there.first in
    let is : there.front ≡ bytes = sym (there.is ∙ ap (λ (b : List ℕ). there.front ++ b) there.second ∙ append-nil there.front) in
    record { kids = kids; spells = subst (SpellsTrees sections (origin_of context) table kids place) is k.spells; shallow = k.shallow; leads_on = k.leads_on; entries_are = append-nil (preorder context.unit (Some number) (number + 1) kids) }
one_list all sections context table number place bytes (kids ∷ others ∷ forests) there = absurd there.second

no_list : (all : List RawEntry) (sections : SectionBytes) (context : UnitContext) (table : List Abbrev) (number place : ℕ) (bytes : List ℕ) (forests : List Forest) → OpenThere all sections context table [] forests place bytes
    → BelowRoot all sections context table false number place bytes []
no_list all sections context table number place bytes [] there = record { kids = no_more; spells = there; shallow = tt; leads_on = tt; entries_are = refl }
no_list all sections context table number place bytes (trees ∷ forests) there = absurd there

root_taken : (all : List RawEntry) → AreLow all → (start : Spot) (sections : SectionBytes) (context : UnitContext) (table : List Abbrev) (before : Parsed) (s : Spot) (z : (Bool × Parsed) × Spot) (y : Parsed × Spot) → Stands s
    → RootSteps start sections context table before s z → children_at sections context table (z.1.end - z.1.place) (z.0.1, opened z.0.0 (length before.entries) []) z.1 ≡ Ok y → Lead all y.0.references
    → TreeTaken all start sections context table before s y
root_taken all low start sections context table before s z y stands root others h = go root.declared.children refl
  where
    number : ℕ
    number = length before.entries

    declared : Abbrev
    declared = root.declared

    read : Parsed × Spot
    read = root.read

    run : children_at sections context table (read.1.end - read.1.place) (read.0, opened declared.children number []) read.1 ≡ Ok y
    run = subst (λ (x : (Bool × Parsed) × Spot). children_at sections context table (x.1.end - x.1.place) (x.0.1, opened x.0.0 number []) x.1 ≡ Ok y) (sym root.is) others

    stands_next : Stands read.1
    stands_next = stands_on root.code.1 read.1 (stands_on s root.code.1 stands (uleb_onward s root.code root.coded)) (entry_onward sections context None s.place declared before root.code.1 read root.entry)

    joined : (stack : List ℕ) (r : ChildrenTaken all sections context table stack read.0 read.1 y)
        → ((place : ℕ) → OpenThere all sections context table stack r.forests place r.bytes → BelowRoot all sections context table declared.children number place r.bytes (open_entries context.unit (number + 1) stack r.forests))
        → TreeTaken all start sections context table before s y
    joined stack r below =
        let nd = node_taken all low sections context table None declared before s root.code read stands root.coded root.some root.found root.entry (lead_front all read.0.references r.references (subst (Lead all) r.grown h)) in
        let q = nd.passed in
        let first : RawEntry = entry_of context.unit None (node_of declared s.place nd.attrs) in
        let len : length read.0.entries ≡ number + 1 = ap length nd.entries ∙ omega (arith, length-append before.entries (first ∷ [])) in
        let b = below (s.place + length nd.bytes) (subst (λ (n : ℕ). OpenThere all sections context table stack r.forests n r.bytes) q.place r.there) in
        record {
          root = node_of declared s.place nd.attrs;
          behind = root.code.1;
          first = root.first;
          bases = root_bases sections context s.place declared before root.code.1 (node_of declared s.place nd.attrs) read root.entry nd.entries;
          kids = b.kids;
          bytes = nd.bytes ++ r.bytes;
          spells = record { front = nd.bytes; back = r.bytes; is = refl; first = nd.spells; second = b.spells };
          shallow = b.shallow;
          root_leads = nd.leads_on;
          kids_lead = b.leads_on;
          is_unit = eqb-true _ _ (not-false (declared.tag == DW_TAG_compile_unit) root.unit);
          whole = root.whole;
          entries = r.entries
              ∙ ap (λ (n : ℕ). read.0.entries ++ open_entries context.unit n stack r.forests) len
              ∙ ap (λ (es : List RawEntry). es ++ open_entries context.unit (number + 1) stack r.forests) nd.entries
              ∙ append_assoc before.entries (first ∷ []) (open_entries context.unit (number + 1) stack r.forests)
              ∙ ap (λ (es : List RawEntry). before.entries ++ first ∷ es) b.entries_are;
          references = nd.references ++ r.references;
          grown = r.grown ∙ ap (λ (rs : List Reference). rs ++ r.references) nd.grown ∙ append_assoc before.references nd.references r.references;
          passed = passed_then nd.bytes r.bytes s read.1 y.1 q r.passed;
          few = r.few (omega (arith, len, has_room before root.room));
        }

    still : (c : Bool) → declared.children ≡ c → children_at sections context table (read.1.end - read.1.place) (read.0, opened c number []) read.1 ≡ Ok y
    still c has = subst (λ (b : Bool). children_at sections context table (read.1.end - read.1.place) (read.0, opened b number []) read.1 ≡ Ok y) has run

    go : (b : Bool) → declared.children ≡ b → TreeTaken all start sections context table before s y
    go true has =
        let r = children_taken all low sections context table (read.1.end - read.1.place) (number ∷ []) read.0 read.1 y stands_next (still true has) h in
        joined (number ∷ []) r (λ place there. subst (λ (c : Bool). BelowRoot all sections context table c number place r.bytes (open_entries context.unit (number + 1) (number ∷ []) r.forests)) (sym has) (one_list all sections context table number place r.bytes r.forests there))
    go false has =
        let r = children_taken all low sections context table (read.1.end - read.1.place) [] read.0 read.1 y stands_next (still false has) h in
        joined [] r (λ place there. subst (λ (c : Bool). BelowRoot all sections context table c number place r.bytes (open_entries context.unit (number + 1) [] r.forests)) (sym has) (no_list all sections context table number place r.bytes r.forests there))

tree_taken : (all : List RawEntry) → AreLow all → (start : Spot) (sections : SectionBytes) (context : UnitContext) (table : List Abbrev) (before : Parsed) (s : Spot) (y : Parsed × Spot) → Stands s → tree_at start sections context table before s ≡ Ok y → Lead all y.0.references
    → TreeTaken all start sections context table before s y
tree_taken all low start sections context table before s y stands e h =
    let w = tree_steps start sections context table before s y e in
    root_taken all low start sections context table before s w.root y stands (root_steps start sections context table before s w.root w.first) w.others h

-- ---- a unit

-- what is left of the section from a place on
pub info_left : (sections : SectionBytes) (place : ℕ) → rest (info_at sections place) ≡ drop place sections.info
info_left sections place = take_all (length sections.info - place) (drop place sections.info) (omega (arith, length-drop place sections.info))

pub info_stands : (sections : SectionBytes) (place : ℕ) → AreBytes sections.info → place ≤ length sections.info → Stands (info_at sections place)
info_stands sections place all le =
    record { place = record { before_end = le; in_bytes = omega arith }; bytes = subst IsBytes (sym (info_left sections place)) (IsBytes-drop place sections.info (IsBytes-from sections.info all)) }

-- the bytes behind the length
abbrev pub body_at : SectionBytes → ℕ → ℕ → List ℕ
body_at sections place len = take len (drop (place + 4) sections.info)

pub body_left : (sections : SectionBytes) (place len : ℕ) → rest (behind_length sections place len) ≡ body_at sections place len
body_left sections place len =
    let count : place + 4 + len - (place + 4) ≡ len = omega arith in
    ap (λ (n : ℕ). take n (drop (place + 4) sections.info)) count

pub body_stands : (sections : SectionBytes) (place len : ℕ) → AreBytes sections.info → place + 4 + len ≤ length sections.info → Stands (behind_length sections place len)
body_stands sections place len all le =
    record {
      place = record { before_end = omega arith; in_bytes = le };
      bytes = subst IsBytes (sym (body_left sections place len)) (IsBytes-take len (drop (place + 4) sections.info) (IsBytes-drop (place + 4) sections.info (IsBytes-from sections.info all)));
    }

length_body : (sections : SectionBytes) (place len : ℕ) → place + 4 + len ≤ length sections.info → length (body_at sections place len) ≡ len
length_body sections place len le = omega (arith, length-take len (drop (place + 4) sections.info), length-drop (place + 4) sections.info)

-- the bytes of the body, and those behind it
body_parts : (sections : SectionBytes) (place len : ℕ) → drop (place + 4) sections.info ≡ body_at sections place len ++ drop (place + 4 + len) sections.info
body_parts sections place len = sym (take-append-drop len (drop (place + 4) sections.info)) ∙ ap (λ (xs : List ℕ). body_at sections place len ++ xs) (drop-drop len (place + 4) sections.info)

-- what a header spells
record HeaderTaken (sections : SectionBytes) (place : ℕ) (y : Header × Spot) : Type 0 where
  count : List ℕ
  len : ℕ
  counts : IsNumber 4 count len
  short : len < LENGTH_RESERVED
  inside : place + 4 + len ≤ length sections.info
  parts : drop place sections.info ≡ count ++ drop (place + 4) sections.info
  header : List ℕ
  header_is : SpellsHeader y.0.version y.0.table header
  below : y.0.table < length sections.abbrev_
  end : y.0.end ≡ place + 4 + len
  passed : Passed header (behind_length sections place len) y.1

pub length_number : (width n : ℕ) (bytes : List ℕ) → IsNumber width bytes n → length bytes ≡ width
length_number width n bytes w = ap length w.is ∙ length-bytes_low_first 0 width n

-- what follows the version
record FieldsTaken (sections : SectionBytes) (version y : ℕ × Spot) : Type 0 where
  bytes : List ℕ
  spells : SpellsFields version.0 y.0 bytes
  below : y.0 < length sections.abbrev_
  passed : Passed bytes version.1 y.1

eight_is : (size : ℕ) (bytes : List ℕ) → not (size == ADDRESS_SIZE) ≡ false → IsNumber 1 bytes size → IsNumber 1 bytes ADDRESS_SIZE
eight_is size bytes e h = subst (IsNumber 1 bytes) (eqb-true size ADDRESS_SIZE (not-false (size == ADDRESS_SIZE) e)) h

compile_is : (kind : ℕ) (bytes : List ℕ) → not (kind == DW_UT_compile) ≡ false → IsNumber 1 bytes kind → IsNumber 1 bytes DW_UT_compile
compile_is kind bytes e h = subst (IsNumber 1 bytes) (eqb-true kind DW_UT_compile (not-false (kind == DW_UT_compile) e)) h

fields_taken : (sections : SectionBytes) (first : Spot) (version y : ℕ × Spot) → Stands version.1 → FieldsSteps sections first version y → FieldsTaken sections version y
fields_taken sections first version y stands f =
    elim f [
      | inl four ↦
          let w = four.1 in
          let t = number_taken 4 version.1 w.table stands w.table_is in
          let tp = t.passed in
          let z = number_taken 1 w.table.1 w.size tp.stands w.size_is in
          subst (FieldsTaken sections version) w.is (record {
            bytes = t.bytes ++ z.bytes;
            spells = inl (four.0, record { front = t.bytes; back = z.bytes; is = refl; first = t.spells; second = eight_is w.size.0 z.bytes w.eight z.spells });
            below = ltb-true _ _ (not-false (nat_lt w.table.0 (length sections.abbrev_)) w.inside);
            passed = passed_then t.bytes z.bytes version.1 w.table.1 w.size.1 tp z.passed;
          })
      | inr five ↦
          let w = five.1 in
          let k = number_taken 1 version.1 w.kind stands w.kind_is in
          let kp = k.passed in
          let z = number_taken 1 w.kind.1 w.size kp.stands w.size_is in
          let zp = z.passed in
          let t = number_taken 4 w.size.1 y zp.stands w.table_is in
          record {
            bytes = k.bytes ++ (z.bytes ++ t.bytes);
            spells = inr (
              five.0,
              record {
                front = k.bytes;
                back = z.bytes ++ t.bytes;
                is = refl;
                first = compile_is w.kind.0 k.bytes w.compile k.spells;
                second = record { front = z.bytes; back = t.bytes; is = refl; first = eight_is w.size.0 z.bytes w.eight z.spells; second = t.spells };
              },
            );
            below = ltb-true _ _ (not-false (nat_lt y.0 (length sections.abbrev_)) w.inside);
            passed = passed_then k.bytes (z.bytes ++ t.bytes) version.1 w.kind.1 y.1 kp (passed_then z.bytes t.bytes w.kind.1 w.size.1 y.1 zp t.passed);
          }
    ]

header_taken : (sections : SectionBytes) (place : ℕ) (y : Header × Spot) → AreBytes sections.info → place ≤ length sections.info → HeaderSteps sections place y → HeaderTaken sections place y
header_taken sections place y all le w =
    let first : Spot = info_at sections place in
    let stands = info_stands sections place all le in
    let c = number_taken 4 first w.len stands w.length_is in
    let p = c.passed in
    let four = length_number 4 w.len.0 c.bytes c.spells in
    let fits : place + 4 ≤ length sections.info = let q = p.stands in let r = q.place in omega (arith, r.before_end, p.place, p.end, four) in
    let sound = both_false (not (nat_lt w.len.0 LENGTH_RESERVED)) (nat_lt (length sections.info - (place + 4)) w.len.0) w.sound in
    let short = ltb-true w.len.0 LENGTH_RESERVED (not-false (nat_lt w.len.0 LENGTH_RESERVED) sound.0) in
    let inside : place + 4 + w.len.0 ≤ length sections.info = omega (arith, ltb-false _ _ sound.1, fits) in
    let o = number_onward 4 first w.len w.length_is in
    let by : o.by ≡ 4 = omega (arith, ap (λ (x : Spot). x.place) o.is, p.place, four) in
    let there : w.len.1 ≡ info_at sections (place + 4) = o.is ∙ ap (λ (n : ℕ). after first n) by in
    let s : Spot = behind_length sections place w.len.0 in
    let v = number_taken 2 s w.version (body_stands sections place w.len.0 all inside) w.version_is in
    let vp = v.passed in
    let f = fields_taken sections first w.version w.table vp.stands w.fields in
    subst (HeaderTaken sections place) w.is (record {
      count = c.bytes;
      len = w.len.0;
      counts = c.spells;
      short = short;
      inside = inside;
      parts = sym (info_left sections place) ∙ p.parts ∙ ap (λ (xs : List ℕ). c.bytes ++ xs) (ap rest there ∙ info_left sections (place + 4));
      header = v.bytes ++ f.bytes;
      header_is = record { front = v.bytes; back = f.bytes; is = refl; first = v.spells; second = f.spells };
      below = f.below;
      end = refl;
      passed = passed_then v.bytes f.bytes s w.version.1 w.table.1 vp f.passed;
    })

-- all bytes that are left
all_left : (s : Spot) (y : List ℕ × Spot) → bytes_at (s.end - s.place) s ≡ Ok y → y.0 ≡ rest s
unfolding bytes_at
all_left s y e =
    let g = guard_ok (nat_lt (s.end - s.place) (s.end - s.place)) (fault_at s kinds.Truncated) (take (s.end - s.place) (rest s), after s (s.end - s.place)) y e in
    sym (ap (λ (p : List ℕ × Spot). p.0) g.1) ∙ take_all (s.end - s.place) (rest s) (omega (arith, length-take (s.end - s.place) (drop s.place s.bytes)))

pub got_there : {X : Type 0} (xs : List X) (x : X) (ys : List X) → slice_get (xs ++ x ∷ ys) (length xs) ≡ Some x
got_there [] x ys = refl
got_there (z ∷ xs) x ys = got_there xs x ys

-- the unit of a root and what is below it
pub unit_is : (number : ℕ) (before entries : List RawEntry) (t : UnitTree) → entries ≡ before ++ unit_entries number (length before) t → unit_from t.version (length before) entries ≡ in_unit (length before) t
unit_is number before entries t is =
    let below = preorder number (Some (length before)) (length before + 1) t.kids in
    let first : RawEntry = entry_of number None t.root in
    let count : length entries - length before ≡ 1 + size t.kids = omega (arith, ap length is, length-append before (first ∷ below), length_preorder number (Some (length before)) (length before + 1) t.kids) in
    let root : slice_get entries (length before) ≡ Some first = ap (λ (es : List RawEntry). slice_get es (length before)) is ∙ got_there before first below in
    rw (count, root) refl

record UnitTaken (all : List RawEntry) (sections : SectionBytes) (number : ℕ) (before : Parsed) (place : ℕ) (y : (InUnit × Parsed) × ℕ) : Type 0 where
  t : UnitTree
  bytes : List ℕ
  spells : SpellsUnit sections t place bytes
  parts : drop place sections.info ≡ bytes ++ drop y.1 sections.info
  next : y.1 ≡ place + length bytes
  inside : y.1 ≤ length sections.info
  sound : IsSoundUnit all number t
  unit : y.0.0 ≡ in_unit (length before.entries) t
  entries : y.0.1.entries ≡ before.entries ++ unit_entries number (length before.entries) t
  references : List Reference
  grown : y.0.1.references ≡ before.references ++ references
  few : length y.0.1.entries ≤ 2 ^ 24

-- a body by its parts
body_spells : (sections : SectionBytes) (o : Origin) (t : UnitTree) (place : ℕ) (header tree_bytes zeros : List ℕ) → SpellsHeader t.version t.offset header → SpellsTree sections o t (place + length header) tree_bytes → AreZeros zeros
    → SpellsBody sections o t place (header ++ (tree_bytes ++ zeros))
body_spells sections o t place header tree_bytes zeros header_is spells empty =
    record { front = header; back = tree_bytes ++ zeros; is = refl; first = header_is; second = record { front = tree_bytes; back = zeros; is = refl; first = spells; second = empty } }

-- the bases with which a unit is read are those in its root
bases_same : (start : Spot) (sections : SectionBytes) (context : UnitContext) (table : List Abbrev) (before : Parsed) (s : Spot) (bases : Bases) (root : Node) (behind : Spot) → bases_at start sections (unbased context) table before s ≡ Ok bases
    → first_at start table before s ≡ Ok (root.declared, behind) → RootBases sections context root.declared behind root.attrs → bases ≡ bases_in root.attrs
bases_same start sections context table before s bases root behind e first known =
    let w = bases_steps start sections (unbased context) table before s bases e in
    let there : (root.declared, behind) ≡ w.first = ok_is (root.declared, behind) w.first (sym first ∙ w.first_is) in
    let again : attrs_at sections (unbased context) true root.declared.fields ([], []) behind ≡ Ok w.read = subst (λ (p : Abbrev × Spot). attrs_at sections (unbased context) true p.0.fields ([], []) p.1 ≡ Ok w.read) (sym there) w.attrs in
    let read : known.read ≡ w.read = ok_is known.read w.read (sym known.reads ∙ again) in
    sym w.is ∙ ap (λ (r : Described × Spot). bases_in r.0.0) (sym read) ∙ known.same

unit_taken : (all : List RawEntry) → AreLow all → (sections : SectionBytes) (number : ℕ) (before : Parsed) (place : ℕ) (y : (InUnit × Parsed) × ℕ) → AreBytes sections.info → AreBytes sections.abbrev_ → place ≤ length sections.info
    → unit_at Input sections number before place ≡ Ok y → Lead all y.0.1.references → UnitTaken all sections number before place y
unit_taken all low sections number before place y info abbrev_bytes le e h =
    let w = unit_steps Input sections number before place y e in
    let hd = header_taken sections place w.header info le (header_steps sections place w.header w.header_is) in
    let p = hd.passed in
    let s : Spot = behind_length sections place hd.len in
    let version : ℕ = w.header.0.version in
    let context : UnitContext = context_in Input number place version (Some w.bases) in
    subst (λ (x : (InUnit × Parsed) × ℕ). Lead all x.0.1.references → UnitTaken all sections number before place x) w.is
    (λ k.
    let tk = tree_taken all low (info_at sections place) sections context w.table before w.header.1 w.tree p.stands w.tree_is k in
    let tp = tk.passed in
    let t : UnitTree = record { version = version; offset = w.header.0.table; table = w.table; root = tk.root; kids = tk.kids } in
    let tail : w.others.0 ≡ rest w.tree.1 = all_left w.tree.1 w.others w.others_is in
    let front : List ℕ = hd.header in
    let body : body_at sections place hd.len ≡ front ++ (tk.bytes ++ w.others.0) = sym (body_left sections place hd.len) ∙ p.parts ∙ ap (λ (xs : List ℕ). front ++ xs) (tp.parts ∙ ap (λ (xs : List ℕ). tk.bytes ++ xs) (sym tail)) in
    let len : length (body_at sections place hd.len) ≡ hd.len = length_body sections place hd.len hd.inside in
    let same : w.bases ≡ bases_in tk.root.attrs = bases_same (info_at sections place) sections context w.table before w.header.1 w.bases tk.root tk.behind w.bases_are tk.first tk.bases in
    let read : SpellsBody sections (origin_of context) t (place + 4) (front ++ (tk.bytes ++ w.others.0)) =
    body_spells sections (origin_of context) t (place + 4) front tk.bytes w.others.0 hd.header_is (subst (λ (n : ℕ). SpellsTree sections (origin_of context) t n tk.bytes) p.place tk.spells) (not-false (list_all is_zero w.others.0) w.zeros) in
    let known : SpellsBody sections (origin_in place t) t (place + 4) (front ++ (tk.bytes ++ w.others.0)) = subst (λ (b : Bases). SpellsBody sections (record { place = place; version = version; bases = Some b }) t (place + 4) (front ++ (tk.bytes ++ w.others.0))) same read in
    let spells : SpellsBody sections (origin_in place t) t (place + 4) (body_at sections place hd.len) = subst (SpellsBody sections (origin_in place t) t (place + 4)) (sym body) known in
    let four = length_number 4 hd.len hd.count hd.counts in
    let whole : drop place sections.info ≡ (hd.count ++ body_at sections place hd.len) ++ drop w.header.0.end sections.info =
    hd.parts ∙ ap (λ (xs : List ℕ). hd.count ++ xs) (body_parts sections place hd.len ∙ ap (λ (n : ℕ). body_at sections place hd.len ++ drop n sections.info) (sym hd.end)) ∙ sym (append_assoc hd.count (body_at sections place hd.len) (drop w.header.0.end sections.info)) in
    record {
      t = t;
      bytes = hd.count ++ body_at sections place hd.len;
      spells = record {
        count = hd.count;
        body = body_at sections place hd.len;
        is = refl;
        counts = subst (IsNumber 4 hd.count) (sym len) hd.counts;
        short = omega (arith, len, hd.short);
        spells = spells;
        inside = hd.below;
        table = table_spelled sections.abbrev_ w.header.0.table w.table hd.below abbrev_bytes w.table_is;
        is_unit = tk.is_unit;
        whole = tk.whole;
      };
      parts = whole;
      next = omega (arith, hd.end, length-append hd.count (body_at sections place hd.len), len, four);
      inside = omega (arith, hd.end, hd.inside);
      sound = record { shallow = tk.shallow; root_leads = tk.root_leads; kids_lead = tk.kids_lead };
      unit = unit_is number before.entries w.tree.0.entries t tk.entries;
      entries = tk.entries;
      references = tk.references;
      grown = tk.grown;
      few = tk.few;
    }) h

-- ---- all units

record UnitsTaken (all : List RawEntry) (sections : SectionBytes) (units : List InUnit) (before : Parsed) (place : ℕ) (y : List InUnit × Parsed) : Type 0 where
  trees : List UnitTree
  spells : SpellsUnits sections trees place (drop place sections.info)
  units_are : y.0 ≡ units ++ in_units (length before.entries) trees
  entries : y.1.entries ≡ before.entries ++ entries_of (length units) (length before.entries) trees
  sound : AreSoundUnits all (length units) trees
  references : List Reference
  grown : y.1.references ≡ before.references ++ references
  few : length before.entries ≤ 2 ^ 24 → length y.1.entries ≤ 2 ^ 24

section_taken : (all : List RawEntry) (sections : SectionBytes) (units : List InUnit) (before : Parsed) (place : ℕ) (y : List InUnit × Parsed) → length sections.info ≤ place → (units, before) ≡ y → UnitsTaken all sections units before place y
section_taken all sections units before place y le is =
    subst (UnitsTaken all sections units before place) is
    (record { trees = []; spells = drop_all place sections.info le; units_are = sym (append-nil units); entries = sym (append-nil before.entries); sound = tt; references = []; grown = sym (append-nil before.references); few = λ h. h })

more_taken : (all : List RawEntry) → AreLow all → (sections : SectionBytes) (left : ℕ) (units : List InUnit) (before : Parsed) (place : ℕ) (y : List InUnit × Parsed) → AreBytes sections.info → AreBytes sections.abbrev_ → place ≤ length sections.info
    → UnitsSteps Input sections left units before place y → Lead all y.1.references → ((unit : InUnit) (now : Parsed) (next : ℕ) → next ≤ length sections.info → units_at Input sections left (units ++ unit ∷ []) now next ≡ Ok y → UnitsTaken all sections (units ++ unit ∷ []) now next y)
    → UnitsTaken all sections units before place y
more_taken all low sections left units before place y info abbrev_bytes le w h known =
    let u = unit_passes Input sections (length units) before place w.read w.unit in
    let r = known w.read.0.0 w.read.0.1 w.read.1 u.inside w.others in
    let t = unit_taken all low sections (length units) before place w.read info abbrev_bytes le w.unit (lead_front all w.read.0.1.references r.references (subst (Lead all) r.grown h)) in
    let number = length before.entries in
    let own = unit_entries (length units) number t.t in
    let count : length (units ++ w.read.0.0 ∷ []) ≡ suc (length units) = omega (arith, length-append units (w.read.0.0 ∷ [])) in
    let next : length w.read.0.1.entries ≡ number + 1 + size t.t.kids = omega (arith, ap length t.entries, length-append before.entries own, length_preorder (length units) (Some number) (number + 1) t.t.kids) in
    record {
      trees = t.t ∷ r.trees;
      spells = record { front = t.bytes; back = drop w.read.1 sections.info; is = t.parts; first = t.spells; second = subst (λ (n : ℕ). SpellsUnits sections r.trees n (drop w.read.1 sections.info)) t.next r.spells };
      units_are = r.units_are
          ∙ append_assoc units (w.read.0.0 ∷ []) (in_units (length w.read.0.1.entries) r.trees)
          ∙ ap (λ (n : ℕ). units ++ w.read.0.0 ∷ in_units n r.trees) next
          ∙ ap (λ (v : InUnit). units ++ v ∷ in_units (number + 1 + size t.t.kids) r.trees) t.unit;
      entries = r.entries
          ∙ ap (λ (n : ℕ). w.read.0.1.entries ++ entries_of n (length w.read.0.1.entries) r.trees) count
          ∙ ap (λ (n : ℕ). w.read.0.1.entries ++ entries_of (suc (length units)) n r.trees) next
          ∙ ap (λ (es : List RawEntry). es ++ entries_of (suc (length units)) (number + 1 + size t.t.kids) r.trees) t.entries
          ∙ append_assoc before.entries own (entries_of (suc (length units)) (number + 1 + size t.t.kids) r.trees);
      sound = (t.sound, subst (λ (n : ℕ). AreSoundUnits all n r.trees) count r.sound);
      references = t.references ++ r.references;
      grown = r.grown ∙ ap (λ (rs : List Reference). rs ++ r.references) t.grown ∙ append_assoc before.references t.references r.references;
      few = λ few. r.few t.few;
    }

units_taken : (all : List RawEntry) → AreLow all → (sections : SectionBytes) (left : ℕ) (units : List InUnit) (before : Parsed) (place : ℕ) (y : List InUnit × Parsed) → AreBytes sections.info → AreBytes sections.abbrev_ → place ≤ length sections.info
    → units_at Input sections left units before place ≡ Ok y → Lead all y.1.references → UnitsTaken all sections units before place y
units_taken all low sections zero units before place y info abbrev_bytes le e h = absurd (some_left Input sections units before place y e)
units_taken all low sections (suc left) units before place y info abbrev_bytes le e h =
    elim (units_steps Input sections left units before place y e) [
      | inl w ↦ section_taken all sections units before place y (omega (arith, eqb-true _ _ w.0)) w.1
      | inr w ↦ more_taken all low sections left units before place y info abbrev_bytes le w h (λ unit now next inside others. units_taken all low sections left (units ++ unit ∷ []) now next y info abbrev_bytes inside others h)
    ]

-- ---- an object

-- where all references lead
record Resolved (entries : List RawEntry) (references : List Reference) (found : List RawEntry) : Type 0 where
  same : entries ≡ found
  lead : Lead entries references

abbrev dangles : Reference → Fault
dangles r = record { kind = kinds.BadReference; section = Info; place = r.place }

abbrev raw : List InUnit → List RawEntry → RawUnits
raw units entries = record { units = units; entries = entries }

raw_is : (units : List InUnit) (entries : List RawEntry) (trees : List UnitTree) → units ≡ in_units 0 trees → entries ≡ entries_of 0 0 trees → raw units entries ≡ raw_units trees
raw_is units entries trees a b = ap₂ raw a b

none_here : (b : Bool) (r : Reference) (o : Option Reference) → cond (not b) (Some r) o ≡ None → (b ≡ true) × (o ≡ None)
none_here true r o e = (refl, e)
none_here false r o e = absurd cc

none_dangles : (o : Option Reference) (entries found : List RawEntry) → option_map_or (λ (r : Reference). Err (dangles r)) o (Ok entries) ≡ Ok found → (o ≡ None) × (entries ≡ found)
none_dangles None entries found e = (refl, ok_is entries found e)
none_dangles (Some r) entries found e = absurd cc

all_pass : (entries : List RawEntry) (references : List Reference) → find (λ r. not (leads entries r)) references ≡ None → Lead entries references
all_pass entries [] e = refl
all_pass entries (r ∷ references) e =
    let p = none_here (leads entries r) r (find (λ x. not (leads entries x)) references) e in
    rw p.0 (all_pass entries references p.1)

resolved_ok : (entries : List RawEntry) (references : List Reference) (found : List RawEntry) → resolved entries references ≡ Ok found → Resolved entries references found
unfolding resolved
resolved_ok entries references found e =
    let w = none_dangles (find (λ r. not (leads entries r)) references) entries found e in
    record { same = w.1; lead = all_pass entries references w.0 }

low_below : (entries : List RawEntry) (limit : ℕ) → limit < 2 ^ 32 → ((i : ℕ) (d : RawEntry) → i < length entries → (get_or entries i d).place < limit) → AreLow entries
low_below [] limit lt below = tt
low_below (x ∷ xs) limit lt below = (omega (arith, below 0 x (omega arith), lt), low_below xs limit lt (λ i d within. below (suc i) d (omega arith)))

pub units_spelled : (sections : SectionBytes) (units : RawUnits) → length sections.info < 2 ^ 32 → AreBytes sections.info → AreBytes sections.abbrev_ → units_of sections ≡ Ok units → IsSpelled sections units
unfolding units_of
units_spelled sections units small info abbrev_bytes e =
    let made : List InUnit × Parsed → List RawEntry → Result RawUnits Fault = λ read entries. Ok (raw read.0 entries) in
    let a = bind_ok (parsed_of sections) (λ read. resolved read.1.entries read.1.references >>= made read) units e in
    let b = bind_ok (resolved a.0.1.entries a.0.1.references) (made a.0) units a.2 in
    let r = resolved_ok a.0.1.entries a.0.1.references b.0 b.1 in
    let rise = units_rise Input sections a.0 a.1 in
    let low = low_below a.0.1.entries (length sections.info) small rise.below in
    let t = units_taken a.0.1.entries low sections (suc (length sections.info)) [] nothing 0 a.0 info abbrev_bytes (omega arith) a.1 r.lead in
    let entries_are : a.0.1.entries ≡ entries_of 0 0 t.trees = t.entries in
    let is : raw a.0.0 b.0 ≡ raw_units t.trees = raw_is a.0.0 b.0 t.trees t.units_are (sym r.same ∙ entries_are) in
    record {
      trees = t.trees;
      spells = record {
        spells = t.spells;
        few = subst (λ (es : List RawEntry). length es ≤ 2 ^ 24) entries_are (t.few (omega arith));
        sound = subst (λ (es : List RawEntry). AreSoundUnits es 0 t.trees) entries_are t.sound;
      };
      is = sym (ok_is _ units b.2) ∙ is;
    }
