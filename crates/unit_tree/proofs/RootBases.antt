-- The bases of a unit's tables are those in its root, whether its values are read with no index tried or with the bases at hand.
use Rattle.std.proofs.Common.{◌≡◌, ℕ, suc, ◌==◌, ◌&&◌, Bool, true, false, not, List, [], ◌∷◌, ◌++◌, length, Option, Some, None, Result, Ok, refl, sym, ap, subst, cond, ◌∙◌, inl, inr, ◌⊎◌}
use Rattle.std.specs.Prelude.{slice_get, if◌then◌else◌}
use Rattle.std.specs.List.{find}
use Rattle.std.specs.Option.{option_map_or, option_to_list}
use Rattle.std.proofs.lemmas.Bool.{cases_eq, ne_eqb}
use Rattle.ds_base.specs.DwarfNumbers.{DW_AT_addr_base, DW_AT_loclists_base, DW_AT_ranges, DW_AT_rnglists_base, DW_AT_stmt_list, DW_AT_str_offsets_base, DW_FORM_sec_offset}
use Rattle.ds_base.specs.declared.fault.Fault.{Fault}
use Rattle.ds_base.specs.Spot.{Spot}
use Rattle.ds_base.specs.Reading.{◌>>=◌}
use Rattle.ds_base.proofs.Passing.{bind_ok, ok_is}
use Rattle.dwarf_types.specs.declared.abbrev.Abbrev.{Abbrev}
use Rattle.dwarf_types.specs.declared.abbrev.Field.{Field}
use Rattle.dwarf_types.specs.declared.entry.RawAttr.{RawAttr}
use Rattle.dwarf_types.specs.declared.entry.RawEntry.{RawEntry}
use Rattle.dwarf_types.specs.SectionBytes.{SectionBytes}
use Rattle.dwarf_types.specs.declared.value.Value.{Value}
use Rattle.dwarf_types.specs.declared.value.Value.TheVariants as values
use Rattle.dwarf_types.specs.WellValues.{has_locations}
use Rattle.form_value.specs.Reading.{value_at}
use Rattle.index_tables.specs.declared.bases.Bases.{Bases}
use Rattle.index_tables.specs.Bases.{base_in, base_said, bases_in}
use Rattle.unit_tree.specs.declared.attribute.UnitContext.{UnitContext}
use Rattle.unit_tree.specs.declared.meaning.Meaning.{Meaning}
use Rattle.unit_tree.specs.declared.meaning.Meaning.TheVariants.{InUnit, InObject, LineTable, RangeList, LocationList, TextIndex, AddressIndex, RangeListIndex, LocationListIndex, Other}
use Rattle.unit_tree.specs.declared.reference.Reference.{Reference}
use Rattle.unit_tree.specs.Attribute.{Described, attr_at, attrs_at, has_attr, meant_at, names_lines, text_named, address_named, list_named, value_meant_at}
use Rattle.unit_tree.specs.Entry.{Parsed, entry_at}
use Rattle.unit_tree.specs.Meaning.{meaning_of, table_of}
use Rattle.unit_tree.specs.Spelling.{Names, NamesAddress, NamesList, NamesText, Node, entry_of}
use Rattle.unit_tree.proofs.AttrLaws.{text_taken, address_taken, list_taken}
use Rattle.unit_tree.proofs.Steps.{entry_steps}

-- ---- attributes that say the same of bases

-- of one name, and the same base
pub record IsAlike (a b : RawAttr) : Type 0 where
  pub name : a.name ≡ b.name
  pub base : (none : ℕ) → base_in none a.form a.value ≡ base_in none b.form b.value

abbrev pub AreAlike : List RawAttr → List RawAttr → Type 0
AreAlike [] [] = Unit {0}
AreAlike [] (y ∷ ys) = ⊥
AreAlike (x ∷ xs) [] = ⊥
AreAlike (x ∷ xs) (y ∷ ys) = IsAlike x y × AreAlike xs ys

pub alike_push : (xs ys : List RawAttr) (x y : RawAttr) → AreAlike xs ys → IsAlike x y → AreAlike (xs ++ x ∷ []) (ys ++ y ∷ [])
alike_push [] [] x y h k = (k, tt)
alike_push [] (b ∷ ys) x y h k = absurd h
alike_push (a ∷ xs) [] x y h k = absurd h
alike_push (a ∷ xs) (b ∷ ys) x y h k = (h.0, alike_push xs ys x y h.1 k)

pub alike_long : (xs ys : List RawAttr) → AreAlike xs ys → length xs ≡ length ys
alike_long [] [] h = refl
alike_long [] (b ∷ ys) h = absurd h
alike_long (a ∷ xs) [] h = absurd h
alike_long (a ∷ xs) (b ∷ ys) h = ap suc (alike_long xs ys h.1)

alike_has : (name : ℕ) (xs ys : List RawAttr) → AreAlike xs ys → has_attr name xs ≡ has_attr name ys
alike_has name [] [] h = refl
alike_has name [] (b ∷ ys) h = absurd h
alike_has name (a ∷ xs) [] h = absurd h
alike_has name (a ∷ xs) (b ∷ ys) h = rw (h.0.name, alike_has name xs ys h.1) refl

-- which attribute comes next does not depend on what else those before it say
pub same_next : (sections : SectionBytes) (context : UnitContext) (root : Bool) (field : Field) (xs ys : List RawAttr) (s : Spot) → AreAlike xs ys → attr_at sections context root field xs s ≡ attr_at sections context root field ys s
unfolding attr_at value_meant_at
same_next sections context root field xs ys s h = rw (alike_has DW_AT_stmt_list xs ys h) refl

first_said : (none : ℕ) (t : Bool) (x y : RawAttr) (o p : Option RawAttr) → IsAlike x y → option_map_or (λ (a : RawAttr). base_in none a.form a.value) o none ≡ option_map_or (λ (a : RawAttr). base_in none a.form a.value) p none
    → option_map_or (λ (a : RawAttr). base_in none a.form a.value) (cond t (Some x) o) none ≡ option_map_or (λ (a : RawAttr). base_in none a.form a.value) (cond t (Some y) p) none
first_said none true x y o p h k = h.base none
first_said none false x y o p h k = k

alike_said : (name none : ℕ) (xs ys : List RawAttr) → AreAlike xs ys → base_said name none xs ≡ base_said name none ys
alike_said name none [] [] h = refl
alike_said name none [] (b ∷ ys) h = absurd h
alike_said name none (a ∷ xs) [] h = absurd h
alike_said name none (a ∷ xs) (b ∷ ys) h =
    first_said none (a.name == name) a b (find (λ x. x.name == name) xs) (find (λ x. x.name == name) ys) h.0 (alike_said name none xs ys h.1)
    ∙ ap (λ (n : ℕ). option_map_or (λ (x : RawAttr). base_in none x.form x.value) (cond (n == name) (Some b) (find (λ x. x.name == name) ys)) none) h.0.name

abbrev four : ℕ → ℕ → ℕ → ℕ → Bases
four a b c d = record { texts = a; addresses = b; ranges = c; locations = d }

pub alike_bases : (xs ys : List RawAttr) → AreAlike xs ys → bases_in xs ≡ bases_in ys
alike_bases xs ys h =
    let a = alike_said DW_AT_str_offsets_base 8 xs ys h in
    let b = alike_said DW_AT_addr_base 8 xs ys h in
    let c = alike_said DW_AT_rnglists_base 12 xs ys h in
    let d = alike_said DW_AT_loclists_base 12 xs ys h in
    ap (λ (n : ℕ). four n (base_said DW_AT_addr_base 8 xs) (base_said DW_AT_rnglists_base 12 xs) (base_said DW_AT_loclists_base 12 xs)) a
    ∙ ap (λ (n : ℕ). four (base_said DW_AT_str_offsets_base 8 ys) n (base_said DW_AT_rnglists_base 12 xs) (base_said DW_AT_loclists_base 12 xs)) b
    ∙ ap (λ (n : ℕ). four (base_said DW_AT_str_offsets_base 8 ys) (base_said DW_AT_addr_base 8 ys) n (base_said DW_AT_loclists_base 12 xs)) c
    ∙ ap (λ (n : ℕ). four (base_said DW_AT_str_offsets_base 8 ys) (base_said DW_AT_addr_base 8 ys) (base_said DW_AT_rnglists_base 12 ys) n) d

-- ---- no index is a base

abbrev pub is_index : Meaning → Bool
is_index TextIndex = true
is_index AddressIndex = true
is_index RangeListIndex = true
is_index LocationListIndex = true
is_index _ = false

plain_if : (b : Bool) (x y : Meaning) → is_index x ≡ false → is_index y ≡ false → is_index (if b then x else y) ≡ false
plain_if true x y h k = h
plain_if false x y h k = k

pub offsets_plain : (name : ℕ) → is_index (table_of name) ≡ false
unfolding table_of
offsets_plain name = plain_if (name == DW_AT_stmt_list) LineTable _ refl (plain_if (name == DW_AT_ranges) RangeList _ refl (plain_if (has_locations name) LocationList Other refl refl))

of_offset : (name : ℕ) → meaning_of DW_FORM_sec_offset name ≡ table_of name
unfolding meaning_of
of_offset name = refl

not_both : {b : Bool} → b ≡ true → b ≡ false → ⊥
not_both e f = cc

no_offset : (form name : ℕ) → is_index (meaning_of form name) ≡ true → (form == DW_FORM_sec_offset) ≡ false
no_offset form name e =
    elim (cases_eq form DW_FORM_sec_offset) [
      | inl is ↦ absurd (not_both e (ap (λ (f : ℕ). is_index (meaning_of f name)) is ∙ ap is_index (of_offset name) ∙ offsets_plain name))
      | inr ne ↦ ne_eqb form DW_FORM_sec_offset ne
    ]

-- what an index is before and after it was looked up
abbrev IsLooked : Value → Type 0
IsLooked value = ((n : ℕ) × (value ≡ values.Offset n)) ⊎ ((text : List ℕ) × (value ≡ values.Text text))

no_base : (none form : ℕ) (value : Value) → (form == DW_FORM_sec_offset) ≡ false → IsLooked value → base_in none form value ≡ none
no_base none form value not_so looked =
    elim looked [
      | inl offset ↦ ap (base_in none form) offset.1 ∙ rw not_so refl
      | inr text ↦ ap (base_in none form) text.1
    ]

text_looked : (sections : SectionBytes) (bases : Option Bases) (n : ℕ) (value : Value) → Names (λ bases v. NamesText sections bases n v) bases n value → IsLooked value
text_looked sections None n value h = inl (n, h)
text_looked sections (Some bases) n value h = inr (h.text, h.is)

address_looked : (sections : SectionBytes) (bases : Option Bases) (n : ℕ) (value : Value) → Names (λ bases v. NamesAddress sections bases n v) bases n value → IsLooked value
address_looked sections None n value h = inl (n, h)
address_looked sections (Some bases) n value h = inl (n, h.is)

list_looked : (section : List ℕ) (base : Bases → ℕ) (bases : Option Bases) (n : ℕ) (value : Value) → Names (λ bases v. NamesList section (base bases) n v) bases n value → IsLooked value
list_looked section base None n value h = inl (n, h)
list_looked section base (Some bases) n value h = inl (h.place, h.is)

-- ---- a unit whose bases are not known

abbrev pub unbased : UnitContext → UnitContext
unbased context = record { profile = context.profile; unit = context.unit; place = context.place; version = context.version; bases = None }

record MeantAlike (sections : SectionBytes) (context : UnitContext) (lines : Bool) (meaning : Meaning) (n : ℕ) (s : Spot) (form : ℕ) (with_bases : Value) : Type 0 where
  y : Value × Option Reference
  reads : meant_at sections (unbased context) lines meaning n s ≡ Ok y
  base : (none : ℕ) → base_in none form y.0 ≡ base_in none form with_bases

-- an index stays as it is
index_alike : (sections : SectionBytes) (context : UnitContext) (lines : Bool) (meaning : Meaning) (n : ℕ) (s : Spot) (form : ℕ) (value : Value) → meant_at sections (unbased context) lines meaning n s ≡ Ok (values.Offset n, None)
    → (form == DW_FORM_sec_offset) ≡ false → IsLooked value → MeantAlike sections context lines meaning n s form value
index_alike sections context lines meaning n s form value reads not_so looked =
    record { y = (values.Offset n, None); reads = reads; base = λ none. no_base none form (values.Offset n) not_so (inl (n, refl)) ∙ sym (no_base none form value not_so looked) }

meant_alike : (sections : SectionBytes) (context : UnitContext) (lines : Bool) (meaning : Meaning) (n : ℕ) (s : Spot) (form : ℕ) (y : Value × Option Reference) → meant_at sections context lines meaning n s ≡ Ok y
    → (is_index meaning ≡ true → (form == DW_FORM_sec_offset) ≡ false) → MeantAlike sections context lines meaning n s form y.0
unfolding meant_at text_named address_named list_named
meant_alike sections context lines InUnit n s form y e not_so = record { y = y; reads = e; base = λ none. refl }
meant_alike sections context lines InObject n s form y e not_so = record { y = y; reads = e; base = λ none. refl }
meant_alike sections context lines LineTable n s form y e not_so = record { y = y; reads = e; base = λ none. refl }
meant_alike sections context lines RangeList n s form y e not_so = record { y = y; reads = e; base = λ none. refl }
meant_alike sections context lines LocationList n s form y e not_so = record { y = y; reads = e; base = λ none. refl }
meant_alike sections context lines TextIndex n s form y e not_so = index_alike sections context lines TextIndex n s form y.0 refl (not_so refl) (text_looked sections context.bases n y.0 (text_taken sections context.bases n s y e))
meant_alike sections context lines AddressIndex n s form y e not_so = index_alike sections context lines AddressIndex n s form y.0 refl (not_so refl) (address_looked sections context.bases n y.0 (address_taken sections context.bases n s y e))
meant_alike sections context lines RangeListIndex n s form y e not_so =
    index_alike sections context lines RangeListIndex n s form y.0 refl (not_so refl) (list_looked sections.rnglists (λ bases. bases.ranges) context.bases n y.0 (list_taken sections.rnglists (λ bases. bases.ranges) context.bases n s y e))
meant_alike sections context lines LocationListIndex n s form y e not_so =
    index_alike sections context lines LocationListIndex n s form y.0 refl (not_so refl) (list_looked sections.loclists (λ bases. bases.locations) context.bases n y.0 (list_taken sections.loclists (λ bases. bases.locations) context.bases n s y e))
meant_alike sections context lines Other n s form y e not_so = record { y = y; reads = e; base = λ none. refl }

record ValueAlike (sections : SectionBytes) (context : UnitContext) (root : Bool) (field : Field) (before : List RawAttr) (value : Value) (s : Spot) (with_bases : Value) : Type 0 where
  y : Value × Option Reference
  reads : value_meant_at sections (unbased context) root field before value s ≡ Ok y
  base : (none : ℕ) → base_in none field.form y.0 ≡ base_in none field.form with_bases

value_alike : (sections : SectionBytes) (context : UnitContext) (root : Bool) (field : Field) (before others : List RawAttr) (value : Value) (s : Spot) (y : Value × Option Reference) → value_meant_at sections context root field others value s ≡ Ok y
    → has_attr DW_AT_stmt_list before ≡ has_attr DW_AT_stmt_list others → ValueAlike sections context root field before value s y.0
unfolding value_meant_at
value_alike sections context root field before others (values.Offset n) s y e same =
    let m = meant_alike sections context (names_lines root others) (meaning_of field.form field.name) n s field.form y e (no_offset field.form field.name) in
    record {
      y = m.y;
      reads = subst (λ (b : Bool). meant_at sections (unbased context) (root && not b) (meaning_of field.form field.name) n s ≡ Ok m.y) (sym same) m.reads;
      base = m.base;
    }
value_alike sections context root field before others value s y e same =
    record { y = (value, None); reads = refl; base = λ none. ap (λ (p : Value × Option Reference). base_in none field.form p.0) (ok_is (value, None) y e) }

record AttrAlike (sections : SectionBytes) (context : UnitContext) (root : Bool) (field : Field) (before : List RawAttr) (s : Spot) (y : (RawAttr × Option Reference) × Spot) : Type 0 where
  attr : RawAttr
  reference : Option Reference
  reads : attr_at sections (unbased context) root field before s ≡ Ok ((attr, reference), y.1)
  alike : IsAlike attr y.0.0

attr_reads : (sections : SectionBytes) (context : UnitContext) (root : Bool) (field : Field) (before : List RawAttr) (s : Spot) (read : Value × Spot) (meant : Value × Option Reference) → value_at field context.version sections s ≡ Ok read
    → value_meant_at sections context root field before read.0 s ≡ Ok meant → attr_at sections context root field before s ≡ Ok ((record { name = field.name; form = field.form; end = read.1.place; value = meant.0 }, meant.1), read.1)
unfolding attr_at
attr_reads sections context root field before s read meant e f = rw (e, f) refl

attrs_read : (sections : SectionBytes) (context : UnitContext) (root : Bool) (field : Field) (fields : List Field) (before : Described) (s : Spot) (attr : RawAttr) (reference : Option Reference) (next : Spot) (total : Result (Described × Spot) Fault)
    → attr_at sections context root field before.0 s ≡ Ok ((attr, reference), next) → attrs_at sections context root fields (before.0 ++ attr ∷ [], before.1 ++ option_to_list reference) next ≡ total → attrs_at sections context root (field ∷ fields) before s ≡ total
unfolding attrs_at
attrs_read sections context root field fields before s attr reference next total e f = rw e f

attr_alike : (sections : SectionBytes) (context : UnitContext) (root : Bool) (field : Field) (before others : List RawAttr) (s : Spot) (y : (RawAttr × Option Reference) × Spot) → attr_at sections context root field others s ≡ Ok y
    → has_attr DW_AT_stmt_list before ≡ has_attr DW_AT_stmt_list others → AttrAlike sections context root field before s y
unfolding attr_at
attr_alike sections context root field before others s y e same =
    let made : Value × Spot → Value × Option Reference → Result ((RawAttr × Option Reference) × Spot) Fault = λ read meant. Ok ((record { name = field.name; form = field.form; end = read.1.place; value = meant.0 }, meant.1), read.1) in
    let b = bind_ok (value_at field context.version sections s) (λ read. value_meant_at sections context root field others read.0 s >>= made read) y e in
    let c = bind_ok (value_meant_at sections context root field others b.0.0 s) (made b.0) y b.2 in
    let v = value_alike sections context root field before others b.0.0 s c.0 c.1 same in
    subst (AttrAlike sections context root field before s) (ok_is _ y c.2)
    (record {
      attr = record { name = field.name; form = field.form; end = b.0.1.place; value = v.y.0 };
      reference = v.y.1;
      reads = attr_reads sections (unbased context) root field before s b.0 v.y b.1 v.reads;
      alike = record { name = refl; base = v.base };
    })

pub record AttrsAlike (sections : SectionBytes) (context : UnitContext) (root : Bool) (fields : List Field) (before : Described) (s : Spot) (y : Described × Spot) : Type 0 where
  pub read : Described × Spot
  pub reads : attrs_at sections (unbased context) root fields before s ≡ Ok read
  pub alike : AreAlike read.0.0 y.0.0

pub attrs_alike : (sections : SectionBytes) (context : UnitContext) (root : Bool) (fields : List Field) (before others : Described) (s : Spot) (y : Described × Spot) → attrs_at sections context root fields others s ≡ Ok y → AreAlike before.0 others.0
    → AttrsAlike sections context root fields before s y
unfolding attrs_at
attrs_alike sections context root [] before others s y e h = subst (AttrsAlike sections context root [] before s) (ok_is (others, s) y e) (record { read = (before, s); reads = refl; alike = h })
attrs_alike sections context root (field ∷ fields) before others s y e h =
    let b = bind_ok (attr_at sections context root field others.0 s) (λ attr. attrs_at sections context root fields (others.0 ++ attr.0.0 ∷ [], others.1 ++ option_to_list attr.0.1) attr.1) y e in
    let a = attr_alike sections context root field before.0 others.0 s b.0 b.1 (alike_has DW_AT_stmt_list before.0 others.0 h) in
    let now : Described = (before.0 ++ a.attr ∷ [], before.1 ++ option_to_list a.reference) in
    let then_ : Described = (others.0 ++ b.0.0.0 ∷ [], others.1 ++ option_to_list b.0.0.1) in
    let t = attrs_alike sections context root fields now then_ b.0.1 y b.2 (alike_push before.0 others.0 a.attr b.0.0.0 h a.alike) in
    record { read = t.read; reads = attrs_read sections (unbased context) root field fields before s a.attr a.reference b.0.1 (Ok t.read) a.reads t.reads; alike = t.alike }

-- ---- roots

-- a root's values, read with no index tried, say the bases of its attributes
pub record RootBases (sections : SectionBytes) (context : UnitContext) (declared : Abbrev) (at : Spot) (attrs : List RawAttr) : Type 0 where
  pub read : Described × Spot
  pub reads : attrs_at sections (unbased context) true declared.fields ([], []) at ≡ Ok read
  pub same : bases_in read.0.0 ≡ bases_in attrs

one_more : {X : Type 0} (xs : List X) (x : X) → slice_get (xs ++ x ∷ []) (length xs) ≡ Some x
one_more [] x = refl
one_more (z ∷ xs) x = one_more xs x

some_is : {X : Type 0} {x y : X} → Some x ≡ Some y → x ≡ y
some_is e = cc

last_is : (before : List RawEntry) (x y : RawEntry) → before ++ x ∷ [] ≡ before ++ y ∷ [] → x.attrs ≡ y.attrs
last_is before x y e =
    let same : Some x ≡ Some y = sym (one_more before x) ∙ ap (λ (es : List RawEntry). slice_get es (length before)) e ∙ one_more before y in
    ap (λ (z : RawEntry). z.attrs) (some_is same)

pub root_bases : (sections : SectionBytes) (context : UnitContext) (place : ℕ) (declared : Abbrev) (before : Parsed) (at : Spot) (node : Node) (y : Parsed × Spot) → entry_at sections context None place declared before at ≡ Ok y
    → y.0.entries ≡ before.entries ++ entry_of context.unit None node ∷ [] → RootBases sections context declared at node.attrs
root_bases sections context place declared before at node y e entries =
    let w = entry_steps sections context None place declared before at y e in
    let a = attrs_alike sections context true declared.fields ([], []) ([], before.references) at w.read w.attrs tt in
    let put : before.entries ++ record { parent = None; unit = context.unit; place = place; tag = declared.tag; attrs = w.read.0.0 } ∷ [] ≡ before.entries ++ entry_of context.unit None node ∷ [] = ap (λ (p : Parsed × Spot). p.0.entries) w.is ∙ entries in
    record { read = a.read; reads = a.reads; same = alike_bases a.read.0.0 w.read.0.0 a.alike ∙ ap bases_in (last_is before.entries _ _ put) }
